-- The calls on threads and collect leave a timer's clock.
use Rattle.units.specs.declared.Ticks.{Ticks}
use Rattle.std.specs.Prelude.{◌≡◌, Bool, true, false, ℕ, ◌<◌, ltb, Option, Some, None}
use Rattle.std.proofs.Math.Path.{refl}
use Rattle.std.proofs.Common.{◌∙◌, arith, ltb-true}
use Rattle.laws.specs.Logic.{pick}
use Rattle.types.specs.declared.kernel.Kernel.{Kernel}
use Rattle.sound.specs.Objects.{names, kept_at}
use Rattle.object.specs.Handles as table
use Rattle.object.specs.Kept.{thread_object}
use Rattle.thread.specs.Threads as thread
use Rattle.soundness.specs.Objects.{ObOk, named-kind}
use Rattle.soundness.specs.Whole.{Parts, names_of}
use Rattle.soundness.specs.Creates.{parts-store, forget_store}
use Rattle.pass.specs.Waits.{sleep_as, sleep_current}
use Rattle.svc.specs.declared.Registers.{Registers}
use Rattle.svc.specs.Call.{pair}
use Rattle.svc.specs.Threads.{thread_handle, create_thread, exit_as, exit_thread, sleep_ticks, runs_since, sleep_for, sleep_thread, resolve_thread, set_priority_as, set_thread_priority}
use Rattle.svc.specs.Collect.{collect_as, collect}
use Rattle.demand.specs.Words.{Open}
use Rattle.timing.specs.Clock.{clock_at, add_ref-clock}
use Rattle.timing.specs.Keeps.{FirstFree, first-free, create-keeps, end-keeps}
use Rattle.clocks.specs.Resolves.{Used, thread_object-clock}

-- ---- `create_thread`: a place is used again, the thread's object is made, and a handle holds it
thread_handle-clock : (k : Kernel) (t o : ℕ) → FirstFree k.objects → Used k.objects o → clock_at (thread_handle k t).kernel.objects o ≡ clock_at k.objects o
unfolding table.create
thread_handle-clock k t o f u = add_ref-clock (thread_object k.objects t) (kept_at (thread_object k.objects t) t) o ∙ thread_object-clock k.objects f o u t

module _ (k : Kernel) (p : Parts k) where
  place_ok : (b : Bool) → ltb (thread.ended_thread k) k.thread_count ≡ b
      → ObOk (pick b (thread.forget_thread k.objects (thread.ended_thread k)) k.objects) (names k.handles k.threads)
  place_ok true e =
      (forget_store k.thread_count k.threads (names k.handles k.threads) k.objects (thread.ended_thread k)
      (omega (arith, ltb-true (thread.ended_thread k) k.thread_count e, p.threads.many)) (parts-store k p)).ob
  place_ok false e = p.ob

  created-ok : (entry stack priority processor : ℕ) → ObOk (thread.create_thread k entry stack priority processor).objects (names k.handles k.threads)
  unfolding thread.create_thread
  created-ok entry stack priority processor = place_ok (ltb (thread.ended_thread k) k.thread_count) refl

  -- an object with an open handle is in use when the place was let go
  pub create_thread-clock : (r : Registers) (o : ℕ) → 0 < o → Open o k → clock_at (create_thread k r).kernel.objects o ≡ clock_at k.objects o
  unfolding create_thread
  create_thread-clock r o z h =
      let j : Kernel = thread.create_thread k r.r1 r.r3 r.r0 r.r4 in
      let q = created-ok r.r1 r.r3 r.r0 r.r4 in
      let u : Used j.objects o = named-kind j.objects (names k.handles k.threads) q o z (omega (arith, names_of k o)) in
      thread_handle-clock j (thread.ended_thread k) o (first-free j.objects (names k.handles k.threads) q) u
      ∙ create-keeps k r.r1 r.r3 r.r0 r.r4 o u

-- ---- `exit_thread`
exit-as : (c : Option ℕ) (k : Kernel) (o : ℕ) → Used (exit_as c k).kernel.objects o
    → clock_at (exit_as c k).kernel.objects o ≡ clock_at k.objects o
exit-as None k o u = refl
exit-as (Some c) k o u = end-keeps k c o u

pub exit_thread-clock : (k : Kernel) (o : ℕ) → Used (exit_thread k).kernel.objects o → clock_at (exit_thread k).kernel.objects o ≡ clock_at k.objects o
unfolding exit_thread
exit_thread-clock k o u = exit-as k.current_thread k o u

-- ---- `sleep_thread`, `set_thread_priority` and collect leave every object
sleep-as : (c : Option ℕ) (k : Kernel) (ticks tick : ℕ) → (sleep_as c k ticks tick).objects ≡ k.objects
sleep-as None k ticks tick = refl
sleep-as (Some c) k ticks tick = refl

since_as : (c : Option ℕ) (k : Kernel) (tick : ℕ) → (runs_since c k tick).objects ≡ k.objects
since_as None k tick = refl
since_as (Some c) k tick = refl

sleep-for : (d : Option Ticks) (k : Kernel) (tick : ℕ) → (sleep_for d k tick).objects ≡ k.objects
unfolding sleep_current
sleep-for None k tick = since_as k.current_thread k tick
sleep-for (Some d) k tick = sleep-as k.current_thread k d.0 tick

pub sleep_thread-objects : (k : Kernel) (r : Registers) (tick : ℕ) → (sleep_thread k r tick).kernel.objects ≡ k.objects
unfolding sleep_thread
sleep_thread-objects k r tick = sleep-for (sleep_ticks k (pair r.r0 r.r1) tick) k tick

priority_as : (c : Option ℕ) (k : Kernel) (p : ℕ) → (set_priority_as c k p).kernel.objects ≡ k.objects
unfolding thread.set_priority
priority_as None k p = refl
priority_as (Some c) k p = refl

pub set_thread_priority-objects : (k : Kernel) (r : Registers) → (set_thread_priority k r).kernel.objects ≡ k.objects
unfolding set_thread_priority
set_thread_priority-objects k r = priority_as (resolve_thread k r.r0) k r.r1

collect-as : (c : Option ℕ) (k : Kernel) → (collect_as c k).objects ≡ k.objects
collect-as None k = refl
collect-as (Some c) k = refl

pub collect-objects : (k : Kernel) → (collect k).objects ≡ k.objects
unfolding collect
collect-objects k = collect-as k.current_thread k
