-- `others_ready`, `pick_next` and `pick_other` of mod.rs. The row is looked over whole: a place without a thread reads as Dead.
use Rattle.std.specs.Prelude.{Bool, true, false, not, List, [], ◌∷◌, ℕ, zero, suc, ◌+◌, eqb, leb, ltb, Option, Some}
use Rattle.std.specs.Prelude.{None}
use Rattle.laws.specs.Logic.{pick, ◌and◌, ◌or◌}
use Rattle.types.specs.declared.thread.ThreadStatus.{ThreadStatus}
use Rattle.types.specs.declared.thread.ThreadStatus.TheVariants.{Dead, Running, Ready, Sleeping, WaitSync, WaitArbiter, Dormant}
use Rattle.types.specs.declared.thread.Thread.{Thread}
use Rattle.types.specs.declared.kernel.Kernel.{Kernel}
use Rattle.sound.specs.View.{thread_at}
use Rattle.sound.specs.Threads.{is_current}
use Rattle.thread.specs.Threads.{least}

-- ---- `is_runnable` of thread.rs
abbrev pub is_runnable : ThreadStatus → Bool
is_runnable Dead = false
is_runnable Running = true
is_runnable Ready = true
is_runnable Sleeping = false
is_runnable WaitSync = false
is_runnable WaitArbiter = false
is_runnable Dormant = false

abbrev pub is_running : ThreadStatus → Bool
is_running Dead = false
is_running Running = true
is_running Ready = false
is_running Sleeping = false
is_running WaitSync = false
is_running WaitArbiter = false
is_running Dormant = false

-- ---- `others_ready`: whether a thread besides the current one could run; the threads from number i on
unfoldable pub others_from : Option ℕ → ℕ → List Thread → Bool
others_from c i [] = false
others_from c i (t ∷ ts) = (not (is_current c i) and is_runnable t.status) or others_from c (suc i) ts

unfoldable pub others_ready : Kernel → Bool
others_ready k = others_from k.current_thread 0 k.threads

-- ---- the least priority number of the runnable threads; priorities are at most 63, and 64 tells that there is none
abbrev pub better : ℕ → Thread → ℕ
better best t = pick (is_runnable t.status) (least t.priority best) best

unfoldable pub least_priority : ℕ → List Thread → ℕ
least_priority best [] = best
least_priority best (t ∷ ts) = least_priority (better best t) ts

abbrev pub best : List Thread → ℕ
best ts = least_priority 64 ts

-- ---- the first of n threads from number i on that is runnable with a priority
abbrev pub runs_at : List Thread → ℕ → ℕ → Bool
runs_at ts p i = is_runnable (thread_at ts i).status and eqb (thread_at ts i).priority p

unfoldable pub first_from : (ℕ → Bool) → ℕ → ℕ → Option ℕ
first_from test zero i = None
first_from test (suc n) i = pick (test i) (Some i) (first_from test n (suc i))

abbrev pub or_else : Option ℕ → Option ℕ → Option ℕ
or_else (Some t) other = Some t
or_else None other = other

-- the place after the current one
abbrev pub start_after : Option ℕ → ℕ
start_after None = 0
start_after (Some c) = c + 1

-- cyclically: 32 places from start on, which reach past the row, then those from the first
abbrev pub cyclic : List Thread → ℕ → ℕ → Option ℕ
cyclic ts p start = or_else (first_from (runs_at ts p) 32 start) (first_from (runs_at ts p) 32 0)

-- ---- `pick_next`: the current thread keeps the core while it is Running and none is more urgent
abbrev pub keeps_core : List Thread → Option ℕ → ℕ → Bool
keeps_core ts None p = false
keeps_core ts (Some c) p = is_running (thread_at ts c).status and leb (thread_at ts c).priority p

unfoldable pub pick_next : List Thread → Option ℕ → Option ℕ
pick_next ts c = pick (leb 64 (best ts)) None (pick (keeps_core ts c (best ts)) c (cyclic ts (best ts) (start_after c)))

-- ---- `pick_other`: the most urgent runnable thread besides one, at its priority or below, the lowest number first
abbrev pub stands : List Thread → ℕ → ℕ → ℕ → Bool
stands ts chosen p i = (not (eqb i chosen) and is_runnable (thread_at ts i).status) and leb p (thread_at ts i).priority

-- the one of two that is to run; the earlier keeps its place among equals
abbrev pub more_urgent : List Thread → Option ℕ → ℕ → Option ℕ
more_urgent ts None i = Some i
more_urgent ts (Some b) i = pick (ltb (thread_at ts i).priority (thread_at ts b).priority) (Some i) (Some b)

unfoldable pub other_from : List Thread → ℕ → ℕ → Option ℕ → ℕ → ℕ → Option ℕ
other_from ts chosen p best zero i = best
other_from ts chosen p best (suc n) i = other_from ts chosen p (pick (stands ts chosen p i) (more_urgent ts best i) best) n (suc i)

unfoldable pub pick_other : List Thread → ℕ → ℕ → Option ℕ
pick_other ts chosen p = other_from ts chosen p None 32 0
