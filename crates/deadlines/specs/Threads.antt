-- The calls on threads: who waits on after a thread is made, ends, sleeps or gets a priority.
use Rattle.units.specs.declared.Ticks.{Ticks}
use Rattle.std.specs.Prelude.{◌≡◌, refl, true, false, ◌≢◌, List, [], ◌∷◌, ℕ, zero, suc, eqb, set, Option, Some, None}
use Rattle.std.proofs.Common.{ap, sym, ◌∙◌}
use Rattle.laws.specs.Logic.{pick_no, false-true}
use Rattle.units.specs.Ticks.{nanos_to_ticks}
use Rattle.types.specs.declared.thread.ThreadStatus.TheVariants.{Dead}
use Rattle.types.specs.declared.thread.Thread.{Thread}
use Rattle.types.specs.declared.kernel.Kernel.{Kernel}
use Rattle.types.specs.Thread.{is_blocked}
use Rattle.sound.specs.View.{thread_at}
use Rattle.kernel.specs.NextEvent.{contains}
use Rattle.thread.specs.Threads as thread
use Rattle.soundness.specs.Whole.{Parts}
use Rattle.passing.specs.Picks.{thread-f}
use Rattle.timing.specs.Wait.{wait_of}
use Rattle.timing.specs.Others.{create-other, end-other, end-dead, priority-wait, sleep-other}
use Rattle.timing.specs.Parks.{sleep-own}
use Rattle.timing.specs.Relief.{create-relief, end-relief, priority-relief, sleep-relief}
use Rattle.svc.specs.declared.Registers.{Registers}
use Rattle.svc.specs.Call.{pair}
use Rattle.svc.specs.Threads.{create_thread, exit_as, exit_thread, sleep_ticks, runs_since, sleep_for, sleep_thread, resolve_thread, set_priority_as, set_thread_priority}
use Rattle.deadlines.specs.Effect.{Runs, running_status, running_in, timed_zero, timed_out, Effect, Calm, same-calm}

-- what holds of the new thread and of the one that was there holds of the one that is there
pub thread-either : (P : Thread → Type 0) (ts : List Thread) (i : ℕ) (v : Thread) (j : ℕ) → P v → P (thread_at ts j) → P (thread_at (set ts i v) j)
thread-either P [] i v j a b = b
thread-either P (t ∷ ts) zero v zero a b = a
thread-either P (t ∷ ts) zero v (suc j) a b = b
thread-either P (t ∷ ts) (suc i) v zero a b = b
thread-either P (t ∷ ts) (suc i) v (suc j) a b = thread-either P ts i v j a b

-- ---- 0x08: the new thread is Ready, in the place of an ended one or in a new one
pub create_thread-calm : (k : Kernel) (r : Registers) → Parts k → Calm k (create_thread k r).kernel
unfolding create_thread thread.create_thread
create_thread-calm k r p = record {
  waits = λ w b h. ap wait_of (create-other k r.r1 r.r3 r.r0 r.r4 p w b);
  free = λ c e x. thread-either (λ (t : Thread). is_blocked t.status ≡ false) k.threads (thread.ended_thread k) _ c refl (running_status (thread_at k.threads c).status x);
  relief = create-relief k r.r1 r.r3 r.r0 r.r4;
}

-- ---- 0x09: the current thread is Dead afterwards, and no other one is touched
exit-as : (o : Option ℕ) (k : Kernel) (w : ℕ) → o ≢ Some w
    → thread_at (exit_as o k).kernel.threads w ≡ thread_at k.threads w
exit-as None k w h = refl
exit-as (Some c) k w h = end-other k c w (λ e. h (ap Some (sym e)))

pub exit_other : (k : Kernel) (w : ℕ) → k.current_thread ≢ Some w
    → thread_at (exit_thread k).kernel.threads w ≡ thread_at k.threads w
unfolding exit_thread
exit_other k w h = exit-as k.current_thread k w h

pub exit_dead : (k : Kernel) (c : ℕ) → k.current_thread ≡ Some c → Runs k c
    → (thread_at (exit_thread k).kernel.threads c).status ≡ Dead
unfolding exit_thread
exit_dead k c e x = ap (λ (o : Option ℕ). (thread_at (exit_as o k).kernel.threads c).status) e
    ∙ end-dead k c (running_in k.threads c x)

exit_flag : (o : Option ℕ) (k : Kernel) → (exit_as o k).kernel.relief ≡ k.relief
exit_flag None k = refl
exit_flag (Some c) k = end-relief k c

pub exit_thread-calm : (k : Kernel) → Calm k (exit_thread k).kernel
unfolding exit_thread
exit_thread-calm k = record {
  waits = λ w b h. ap wait_of (exit_other k w h);
  free = λ c e x. ap is_blocked (exit_dead k c e x);
  relief = exit_flag k.current_thread k;
}

-- ---- 0x0C: a priority is no part of a wait
priority_as : (o : Option ℕ) (k : Kernel) (n : ℕ) → Calm k (set_priority_as o k n).kernel
unfolding thread.set_priority
priority_as None k n = same-calm k k (record { threads = refl; relief = refl })
priority_as (Some t) k n = record {
  waits = λ w b h. priority-wait k t n w;
  free = λ c e x. ap is_blocked (thread-f (λ (y : Thread). y.status) k.threads t _ c refl) ∙ running_status (thread_at k.threads c).status x;
  relief = priority-relief k t n;
}

pub set_priority-calm : (k : Kernel) (r : Registers) → Calm k (set_thread_priority k r).kernel
unfolding set_thread_priority
set_priority-calm k r = priority_as (resolve_thread k r.r0) k r.r1

-- ---- 0x0A
-- how long a thread ran is no part of a wait
pub since-wait : (o : Option ℕ) (k : Kernel) (tick w : ℕ)
    → wait_of (thread_at (runs_since o k tick).threads w) ≡ wait_of (thread_at k.threads w)
since-wait None k tick w = refl
since-wait (Some c) k tick w = thread-f wait_of k.threads c _ w refl

since-relief : (o : Option ℕ) (k : Kernel) (tick : ℕ) → (runs_since o k tick).relief ≡ k.relief
since-relief None k tick = refl
since-relief (Some c) k tick = refl

-- another thread is left
sleep-waits : (d : Option Ticks) (k : Kernel) (tick w : ℕ) → k.current_thread ≢ Some w
    → wait_of (thread_at (sleep_for d k tick).threads w) ≡ wait_of (thread_at k.threads w)
sleep-waits None k tick w h = since-wait k.current_thread k tick w
sleep-waits (Some d) k tick w h = ap wait_of (sleep-other k d.0 tick w h)

sleep-flag : (d : Option Ticks) (k : Kernel) (tick : ℕ) → (sleep_for d k tick).relief ≡ k.relief
sleep-flag None k tick = since-relief k.current_thread k tick
sleep-flag (Some d) k tick = sleep-relief k d.0 tick

pub sleep_thread-effect : (k : Kernel) (r : Registers) (tick : ℕ) → Effect k [] true true (pair r.r0 r.r1) tick (sleep_thread k r tick).kernel
unfolding sleep_thread contains
sleep_thread-effect k r tick =
    let n : ℕ = pair r.r0 r.r1 in
    record {
      waits = λ w b h e. sleep-waits (sleep_ticks k n tick) k tick w h;
      wakes = λ w e. false-true e;
      parked = λ c e x b. refl;
      wake = λ c e x b t s.
          ap (λ (d : Option Ticks). (thread_at (sleep_for d k tick).threads c).wakeup_at)
          (pick_no (eqb n 0) _ (Some (nanos_to_ticks (record { 0 = n }))) (timed_zero n tick s))
          ∙ ap (λ (y : Thread). y.wakeup_at) (sleep-own k c e (running_in k.threads c x) (nanos_to_ticks (record { 0 = n })).0 tick)
          ∙ ap (λ (m : ℕ). Some (record { 0 = m })) (timed_out n tick s);
      relief = sleep-flag (sleep_ticks k n tick) k tick;
    }
