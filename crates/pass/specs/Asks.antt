-- `satisfied_now` and `quiet_release` of mod.rs: what a call would find, with nothing changed.
use Rattle.std.specs.Prelude.{Bool, true, not, List, [], ◌∷◌, map, ℕ, zero, suc, eqb, leb, ltb, length, replicate}
use Rattle.std.specs.Prelude.{Option, Some, None}
use Rattle.laws.specs.Logic.{pick, ◌and◌, ◌or◌}
use Rattle.units.specs.declared.ObjectId.{ObjectId}
use Rattle.types.specs.declared.thread.ThreadStatus.{ThreadStatus}
use Rattle.types.specs.declared.thread.ThreadStatus.TheVariants.{Dead, Running, Ready, Sleeping, WaitSync, WaitArbiter, Dormant}
use Rattle.types.specs.declared.thread.Thread as th
use Rattle.types.specs.declared.object.KObject.{KObject}
use Rattle.types.specs.declared.object.KObject.TheVariants.{Free, Thread, Event, Mutex, Semaphore, Timer, AddressArbiter, Process, ResourceLimit}
use Rattle.types.specs.declared.kernel.Kernel.{Kernel}
use Rattle.types.specs.Thread.{result_number, syscall_number}
use Rattle.sound.specs.View.{ids, object_at, thread_at}
use Rattle.kernel.specs.NextEvent.{contains}
use Rattle.object.specs.Handles.{object_of}
use Rattle.pass.specs.declared.Satisfied.{Satisfied}
use Rattle.pass.specs.declared.Release.{Release}
use Rattle.pass.specs.declared.Release.TheVariants.{CountsDown, Frees}
use Rattle.pass.specs.Signal.{any_pulsed}
use Rattle.pass.specs.Timers.{timer_due}
use Rattle.pass.specs.Waits.{satisfied_at}
use Rattle.pass.specs.Pick.{is_running}
use Rattle.pass.specs.Schedule.{starves}

-- ---- a handle that is no pseudo-handle; 0 if it names nothing
abbrev pub pseudo : ℕ → Bool
pseudo h = eqb h 0xFFFF8000 or eqb h 0xFFFF8001

abbrev pub open_object : Kernel → ℕ → ℕ
open_object k h = pick (pseudo h) 0 (object_of k.handles h)

-- `WAIT_AT_ONCE`: the most handles that `satisfied_now` looks at
abbrev pub wait_at_once : ℕ
wait_at_once = 8

-- ---- `satisfied_now`: what a wait on a list of handles would find at the tick, when it has nothing else to do first
abbrev pub unsatisfied : Satisfied
unsatisfied = record { objects = replicate wait_at_once (record { 0 = 0 }); index = None }

-- so many places, the unused ones 0
unfoldable pub padded : ℕ → List ℕ → List ObjectId
padded zero os = []
padded (suc n) [] = record { 0 = 0 } ∷ padded n []
padded (suc n) (o ∷ os) = record { 0 = o } ∷ padded n os

abbrev pub found_as : Option ℕ → List ℕ → Satisfied
found_as None os = unsatisfied
found_as (Some i) os = record { objects = padded wait_at_once os; index = Some i }

-- every handle names an object, and the wait is satisfied right away for the current thread
abbrev pub satisfied_for : Kernel → ℕ → List ℕ → Bool → Satisfied
satisfied_for k c os all = pick (contains os 0) unsatisfied (found_as (satisfied_at k.threads k.objects c all os) os)

abbrev pub satisfied_by : Option ℕ → Kernel → List ℕ → Bool → ℕ → Satisfied
satisfied_by None k hs all tick = unsatisfied
satisfied_by (Some c) k hs all tick =
    pick (ltb wait_at_once (length hs) or timer_due tick k.objects.slots) unsatisfied (satisfied_for k c (map (open_object k) hs) all)

unfoldable pub satisfied_now : Kernel → List ℕ → Bool → ℕ → Satisfied
satisfied_now k hs all tick = satisfied_by k.current_thread k hs all tick

-- ---- `quiet_release`: the mutex that a handle lets go of, when the pass that a freed mutex has due would change nothing
-- the current thread runs on: not starving, with no result left for it, no pulse waiting and no timer due
abbrev pub runs_on : Kernel → th.Thread → ℕ → Bool
runs_on k t tick =
    (is_running t.status and (not t.waited and not (starves t tick)))
    and ((eqb (result_number t.wait_result) 0 and eqb (syscall_number t.wait_syscall) 0)
    and (not (any_pulsed k.objects.slots) and not (timer_due tick k.objects.slots)))

-- a thread that does not wait on the object and is not more urgent than the current one, c with the priority p
abbrev pub calm : ℕ → ℕ → ℕ → ℕ → th.Thread → ThreadStatus → Bool
calm o c p i t Dead = true
calm o c p i t Running = eqb i c or leb p t.priority
calm o c p i t Ready = eqb i c or leb p t.priority
calm o c p i t Sleeping = true
calm o c p i t WaitSync = not (contains (ids t.wait_objects) o)
calm o c p i t WaitArbiter = true
calm o c p i t Dormant = true

-- the threads from number i on
unfoldable pub calm_from : ℕ → ℕ → ℕ → ℕ → List th.Thread → Bool
calm_from o c p i [] = true
calm_from o c p i (t ∷ ts) = calm o c p i t t.status and calm_from o c p (suc i) ts

abbrev pub frees_quietly : Option ℕ → Kernel → ℕ → ℕ → Option Release
frees_quietly None k o tick = None
frees_quietly (Some c) k o tick =
    pick (runs_on k (thread_at k.threads c) tick and calm_from o c (thread_at k.threads c).priority 0 k.threads)
    (Some (Frees (record { 0 = o }))) None

-- held more than once it only counts down; what is no mutex is not let go of
abbrev pub release_as : KObject → Kernel → ℕ → ℕ → Option Release
release_as (Free n) k o tick = None
release_as (Thread u) k o tick = None
release_as (Event e) k o tick = None
release_as (Mutex m) k o tick = pick (ltb 1 m.lock_count) (Some (CountsDown (record { 0 = o })))
    (frees_quietly k.current_thread k o tick)
release_as (Semaphore s) k o tick = None
release_as (Timer t) k o tick = None
release_as (AddressArbiter a) k o tick = None
release_as Process k o tick = None
release_as ResourceLimit k o tick = None

-- an unknown handle reads as object 0, which is no mutex
unfoldable pub quiet_release : Kernel → ℕ → ℕ → Option Release
quiet_release k h tick = let o : ℕ = open_object k h in release_as (object_at k.objects o) k o tick
