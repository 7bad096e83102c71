-- 0x24 and 0x25: the current thread waits on objects, others wait on.
use Rattle.units.specs.declared.Ticks.{Ticks}
use Rattle.std.specs.Prelude.{◌≡◌, refl, Bool, true, false, not, List, [], ◌∷◌, ℕ, eqb, length, Option, Some, None}
use Rattle.std.proofs.Common.{ap, ◌∙◌}
use Rattle.laws.specs.Logic.{pick_no, false-true}
use Rattle.units.specs.Ticks.{nanos_to_ticks}
use Rattle.types.specs.declared.thread.WaitSyscall.{WaitSyscall}
use Rattle.types.specs.declared.thread.WaitSyscall.TheVariants.{WaitSynchronization1, WaitSynchronizationN}
use Rattle.types.specs.declared.thread.Thread.{Thread}
use Rattle.types.specs.declared.object.ObjectStore.{ObjectStore}
use Rattle.types.specs.declared.kernel.Kernel.{Kernel}
use Rattle.types.specs.Thread.{wait_list}
use Rattle.sound.specs.View.{object_at}
use Rattle.object.specs.declared.kept.Resolved.{Resolved}
use Rattle.soundness.specs.Slots.{pick-both}
use Rattle.kernel.specs.NextEvent.{contains}
use Rattle.pass.specs.Signal.{is_signaled}
use Rattle.pass.specs.Waits.{satisfied_at, wake_tick, begin_wait}
use Rattle.pass.specs.Asks.{padded}
use Rattle.passing.specs.Picks.{thread-f}
use Rattle.timing.specs.Wait.{wait_of}
use Rattle.timing.specs.Others.{begin-other}
use Rattle.timing.specs.Parks.{begin-own}
use Rattle.timing.specs.Relief.{begin-relief}
use Rattle.svc.specs.declared.Registers.{Registers}
use Rattle.svc.specs.declared.Served.{Served}
use Rattle.svc.specs.Call.{with_objects, pair, negative, resolved}
use Rattle.svc.specs.Timers.{caught_up}
use Rattle.svc.specs.Waits.{wait_time, wait_on, wait_unless, wait1_as, wait_synchronization1, resolve_all, resolve_store, take_at, wait_nas, wait_synchronization_n}
use Rattle.deadlines.specs.Effect.{running_in, Timed, runs_out, timed_negative, timed_out, Effect, same_effect, effect-store}

abbrev Waits : Kernel → ℕ → ℕ → Served → Type 0
Waits k n tick x = Effect k [] true true n tick x.kernel

-- the time of such a wait
wait-time : (n tick : ℕ) → Timed n tick → wake_tick (wait_time n) tick ≡ runs_out n tick
wait-time n tick t =
    ap (λ (d : Option Ticks). wake_tick d tick)
    (pick_no (negative n) _ (Some (nanos_to_ticks (record { 0 = n }))) (timed_negative n tick t))
    ∙ ap (λ (m : ℕ). Some (record { 0 = m })) (timed_out n tick t)

-- the call is noted in the thread: no part of its wait
on_effect : (k : Kernel) (c : ℕ) (os : List ℕ) (all : Bool) (n tick : ℕ) (call : Option WaitSyscall)
    → Waits k n tick (wait_on k c os all n tick call)
unfolding contains
on_effect k c os all n tick call =
    let b : Kernel = begin_wait k (padded wait_list os) (length os) all (wait_time n) tick in
    record {
      waits = λ w x h e. thread-f wait_of b.threads c _ w refl ∙ ap wait_of (begin-other k (padded wait_list os) (length os) all (wait_time n) tick w h);
      wakes = λ w e. false-true e;
      parked = λ d e x y. refl;
      wake = λ d e x y t s.
          thread-f (λ (z : Thread). z.wakeup_at) b.threads c _ d refl
          ∙ ap (λ (z : Thread). z.wakeup_at) (begin-own k d e (running_in k.threads d x) (padded wait_list os) (length os) all (wait_time n) tick)
          ∙ wait-time n tick s;
      relief = begin-relief k (padded wait_list os) (length os) all (wait_time n) tick;
    }

-- no thread is touched
left : (k : Kernel) (n tick : ℕ) → Effect k [] true true n tick k
left k n tick = same_effect k k (record { threads = refl; relief = refl }) true true n tick

unless-effect : (k : Kernel) (c : ℕ) (os : List ℕ) (all : Bool) (n tick : ℕ) (call : Option WaitSyscall)
    → Waits k n tick (wait_unless k c os all n tick call)
unless-effect k c os all n tick call = pick-both (Waits k n tick) (eqb n 0) _ (wait_on k c os all n tick call) (left k n tick) (on_effect k c os all n tick call)

-- ---- 0x24
wait1-as : (t : Option ℕ) (k : Kernel) (o n tick : ℕ) → Waits k n tick (wait1_as t k o n tick)
wait1-as None k o n tick = left k n tick
wait1-as (Some c) k o n tick =
    pick-both (Waits k n tick) (is_signaled k.threads (object_at k.objects o) c) _
    (wait_unless k c (o ∷ []) false n tick (Some WaitSynchronization1))
    (same_effect k _ (record { threads = refl; relief = refl }) true true n tick)
    (unless-effect k c (o ∷ []) false n tick (Some WaitSynchronization1))

pub wait1_effect : (k : Kernel) (r : Registers) (tick : ℕ) → Effect k [] true true (pair r.r2 r.r3) tick (wait_synchronization1 k r tick).kernel
unfolding wait_synchronization1
wait1_effect k r tick =
    let n : ℕ = pair r.r2 r.r3 in
    let c : Kernel = caught_up k tick in
    let x : Resolved = resolved c r.r0 in
    pick-both (Waits k n tick) (eqb x.object.0 0) _ (wait1_as c.current_thread (with_objects c x.store) x.object.0 n tick)
    (same_effect k _ (record { threads = refl; relief = refl }) true true n tick)
    (effect-store k x.store [] true true n tick _ (wait1-as k.current_thread (with_objects k x.store) x.object.0 n tick))

-- ---- 0x25
take-effect : (i : Option ℕ) (k : Kernel) (c : ℕ) (os : List ℕ) (all : Bool) (n tick : ℕ)
    → Waits k n tick (take_at i k c os all n tick)
take-effect None k c os all n tick = unless-effect k c os all n tick (Some WaitSynchronizationN)
take-effect (Some i) k c os all n tick = same_effect k _ (record { threads = refl; relief = refl }) true true n tick

wait_n_as : (t : Option ℕ) (k : Kernel) (os : List ℕ) (all : Bool) (n tick : ℕ)
    → Waits k n tick (wait_nas t k os all n tick)
wait_n_as None k os all n tick = left k n tick
wait_n_as (Some c) k os all n tick = take-effect (satisfied_at k.threads k.objects c all os) k c os all n tick

pub wait_n-effect : (k : Kernel) (r : Registers) (words : List ℕ) (tick : ℕ) → Effect k [] true true (pair r.r0 r.r4) tick (wait_synchronization_n k r words tick).kernel
unfolding wait_synchronization_n
wait_n-effect k r words tick =
    let n : ℕ = pair r.r0 r.r4 in
    let c : Kernel = caught_up k tick in
    let os : List ℕ = resolve_all c.current_thread c.handles c.objects words in
    let s : ObjectStore = resolve_store c.current_thread c.handles c.objects words in
    pick-both (Waits k n tick) (contains os 0) _ (wait_nas c.current_thread (with_objects c s) os (not (eqb r.r3 0)) n tick)
    (same_effect k _ (record { threads = refl; relief = refl }) true true n tick)
    (effect-store k s [] true true n tick _ (wait_n_as k.current_thread (with_objects k s) os (not (eqb r.r3 0)) n tick))
