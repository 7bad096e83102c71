-- `next_event` of mod.rs: the earliest tick that a blocked thread, or a timer that one waits on, wants the scheduler at.
use Rattle.units.specs.declared.Ticks.{Ticks}
use Rattle.std.specs.Prelude.{Bool, true, false, List, [], ◌∷◌, ℕ, suc, eqb, ltb, Option, Some, None}
use Rattle.laws.specs.Logic.{pick, ◌and◌, ◌or◌}
use Rattle.types.specs.declared.thread.Thread as th
use Rattle.types.specs.declared.object.KObject.{KObject}
use Rattle.types.specs.declared.object.KObject.TheVariants.{Free, Thread, Event, Mutex, Semaphore, Timer, AddressArbiter, Process, ResourceLimit}
use Rattle.types.specs.declared.object.Slot.{Slot}
use Rattle.types.specs.declared.kernel.Kernel.{Kernel}
use Rattle.types.specs.Thread.{is_blocked}
use Rattle.sound.specs.View.{ids}

-- best, or the other tick if there is one and it is earlier
abbrev pub earlier : Option Ticks → Option Ticks → Option Ticks
earlier best None = best
earlier None (Some t) = Some t
earlier (Some b) (Some t) = pick (ltb t.0 b.0) (Some t) (Some b)

-- each blocked thread's wake tick
abbrev pub wake_after : Option Ticks → th.Thread → Option Ticks
wake_after best t = pick (is_blocked t.status) (earlier best t.wakeup_at) best

unfoldable pub next_wake : Option Ticks → List th.Thread → Option Ticks
next_wake best [] = best
next_wake best (t ∷ ts) = next_wake (wake_after best t) ts

unfoldable pub any_blocked : List th.Thread → Bool
any_blocked [] = false
any_blocked (t ∷ ts) = is_blocked t.status or any_blocked ts

unfoldable pub contains : List ℕ → ℕ → Bool
contains [] o = false
contains (x ∷ xs) o = eqb x o or contains xs o

-- a blocked thread waits on the object; unused places of a list are 0, which is no object
unfoldable pub waited_on : List th.Thread → ℕ → Bool
waited_on [] o = false
waited_on (t ∷ ts) o = (is_blocked t.status and contains (ids t.wait_objects) o) or waited_on ts o

-- when a timer is due next; other objects never are
abbrev pub due_of : KObject → Option Ticks
due_of (Free n) = None
due_of (Thread t) = None
due_of (Event e) = None
due_of (Mutex m) = None
due_of (Semaphore s) = None
due_of (Timer t) = t.fire_at
due_of (AddressArbiter a) = None
due_of Process = None
due_of ResourceLimit = None

-- each timer that is waited on
abbrev pub due_after : Bool → Option Ticks → Slot → Option Ticks
due_after true best s = earlier best (due_of s.object)
due_after false best s = best

unfoldable pub next_due : List th.Thread → Option Ticks → ℕ → List Slot → Option Ticks
next_due ts best o [] = best
next_due ts best o (s ∷ ss) = next_due ts (due_after (waited_on ts o) best s) (suc o) ss

-- with no thread blocked there is none
unfoldable pub next_event : Kernel → Option Ticks
next_event k = pick (any_blocked k.threads) (next_due k.threads (next_wake None k.threads) 1 k.objects.slots) None
