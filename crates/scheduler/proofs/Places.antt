-- Threads changed at their places; past the places nothing changes. Assumes nothing.
use Rattle.std.specs.Prelude.{Some}
use mathlib.Core.Path.{◌≡◌, refl, sym, ap}
use mathlib.Core.Bool.{Bool, true, false}
use mathlib.Core.List.{List}
use Prim.Native.Nat.{ℕ, ◌≤◌}
use lib.ListN.{length, set, get_or-eq_default}
use lib.Seq.{set_out, set-get_or}
use Rattle.laws.specs.Logic.{pick}
use Rattle.types.specs.declared.thread.ThreadStatus.TheVariants.{Running}
use Rattle.types.specs.declared.thread.Thread.{Thread}
use Rattle.sound.specs.View.{thread_at, no_thread}
use Rattle.thread.specs.Thread.{with_status}
use Rattle.pass.specs.Pick.{is_runnable}
use Rattle.pass.specs.Schedule.{with_run, mark_waited, begun, begin_run, leaves, leave_core}
use Rattle.scheduler.specs.Switch.{marked, take_core_if}

module _ (ts : List Thread) (t : ℕ) where
  pub mark_here : set ts t (marked (thread_at ts t)) ≡ mark_waited ts (Some t)
  mark_here = go (is_runnable (thread_at ts t).status)
    where
      go : (b : Bool) → set ts t (pick b (thread_at ts t) (with_run (thread_at ts t) true (thread_at ts t).running_since.0)) ≡ pick b ts (set ts t (with_run (thread_at ts t) true (thread_at ts t).running_since.0))
      go true = set-get_or ts t no_thread
      go false = refl

  module _ (h : length ts ≤ t) where
    pub mark_far : ts ≡ mark_waited ts (Some t)
    mark_far = go (is_runnable (thread_at ts t).status)
      where
        go : (b : Bool) → ts ≡ pick b ts (set ts t (with_run (thread_at ts t) true (thread_at ts t).running_since.0))
        go true = refl
        go false = sym (set_out ts t _ h)

    pub begin_far : (tick : ℕ) → ts ≡ begin_run ts (Some t) tick
    begin_far tick = sym (set_out ts t (begun (thread_at ts t) tick) h)

    pub leave_far : ts ≡ leave_core ts (Some t)
    leave_far = sym (set_out ts t (leaves (thread_at ts t)) h)

    pub take_far : ts ≡ take_core_if ts (Some t)
    take_far = sym (set_out ts t (with_status (thread_at ts t) Running) h)

    pub since_far : (thread_at ts t).running_since.0 ≡ 0
    since_far = ap (λ (x : Thread). x.running_since.0) (get_or-eq_default ts no_thread h)
