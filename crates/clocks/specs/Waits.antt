-- `wait_synchronization1` and `wait_synchronization_n` fire timers first and leave every clock then.
use Rattle.units.specs.declared.Ticks.{Ticks}
use Rattle.std.specs.Prelude.{◌≡◌, Bool, true, false, not, eqb, get_or, length, take, Option, Some, None}
use Rattle.std.proofs.Math.Path.{refl}
use Rattle.std.proofs.Common.{sym, ◌∙◌}
use mathlib.Core.List.{List, [], ◌∷◌}
use Prim.Native.Nat.{ℕ}
use Rattle.laws.specs.Logic.{pick}
use Rattle.types.specs.declared.thread.WaitSyscall.{WaitSyscall}
use Rattle.types.specs.declared.thread.WaitSyscall.TheVariants.{WaitSynchronization1, WaitSynchronizationN}
use Rattle.types.specs.declared.object.ObjectStore.{ObjectStore}
use Rattle.types.specs.declared.kernel.Kernel.{Kernel}
use Rattle.types.specs.Thread.{wait_list}
use Rattle.units.specs.declared.ObjectId.{ObjectId}
use Rattle.sound.specs.View.{ids, object_at}
use Rattle.kernel.specs.NextEvent.{contains}
use Rattle.soundness.specs.Slots.{pick-both}
use Rattle.soundness.specs.Fine.{add_refs-full}
use Rattle.soundness.specs.Whole.{Parts}
use Rattle.pass.specs.Signal.{is_signaled, acquire, acquires}
use Rattle.pass.specs.Waits.{satisfied_at, begin_wait_as, begin_wait}
use Rattle.pass.specs.Asks.{padded}
use Rattle.passing.specs.Signal.{acquire-sticks, acquires-sticks}
use Rattle.passing.specs.Begins.{add_refs-overflow}
use Rattle.svc.specs.declared.Registers.{Registers}
use Rattle.svc.specs.declared.Served.{Served}
use Rattle.svc.specs.Call.{with_objects, pair, resolved}
use Rattle.svc.specs.Timers.{caught_up}
use Rattle.svc.specs.Waits.{wait_time, wait_on, wait_unless, wait1_as, wait_synchronization1, resolve_all, resolve_store, take_at, wait_nas, wait_synchronization_n}
use Rattle.calling.specs.Resolves.{resolved-parts}
use Rattle.calling.specs.Timers.{caught-parts}
use Rattle.parking.specs.Lists.{store-full, store-overflow}
use Rattle.parking.specs.Begins.{acquire-full, acquires-full}
use Rattle.timing.specs.Clock.{clock_at, acquire-clock, acquires-clock, add_refs-clock}
use Rattle.timing.specs.Fires.{fired_clock, catch_clock}
use Rattle.timing.specs.Keeps.{FirstFree}
use Rattle.clocks.specs.Resolves.{Used, used_as, parts_free, resolved-clock, caught-used, caught-resolved}

-- ---- from the store s to s': findings stick, and every clock is as it was
record Leaves (s s' : ObjectStore) : Type 0 where
  full : s'.full ≡ false → s.full ≡ false
  overflow : s'.overflow ≡ false → s.overflow ≡ false
  clock : (o : ℕ) → clock_at s' o ≡ clock_at s o

leaves-same : (s : ObjectStore) → Leaves s s
leaves-same s = record { full = λ e. e; overflow = λ e. e; clock = λ o. refl }

acquire-leaves : (s : ObjectStore) (r w : ℕ) → Leaves s (acquire s r w)
acquire-leaves s r w = record { full = λ e. sym (acquire-full s r w) ∙ e; overflow = acquire-sticks s r w; clock = acquire-clock s r w }

acquires-leaves : (s : ObjectStore) (os : List ℕ) (w : ℕ) → Leaves s (acquires s os w)
acquires-leaves s os w = record { full = λ e. sym (acquires-full os s w) ∙ e; overflow = acquires-sticks os s w; clock = acquires-clock os s w }

-- ---- the thread is given the objects, or waits and holds them
begin_as : (c : Option ℕ) (k : Kernel) (l : List ObjectId) (n : ℕ) (all : Bool) (time : Option Ticks) (tick : ℕ)
    → Leaves k.objects (begin_wait_as c k l n all time tick).objects
begin_as None k l n all time tick = leaves-same k.objects
begin_as (Some c) k l n all time tick = record {
  full = λ e. sym (add_refs-full (take n (ids l)) k.objects) ∙ e;
  overflow = λ e. sym (add_refs-overflow (take n (ids l)) k.objects) ∙ e;
  clock = add_refs-clock (take n (ids l)) k.objects;
}

unless-leaves : (k : Kernel) (c : ℕ) (os : List ℕ) (all : Bool) (nanos tick : ℕ) (call : Option WaitSyscall)
    → Leaves k.objects (wait_unless k c os all nanos tick call).kernel.objects
unfolding begin_wait
unless-leaves k c os all nanos tick call =
    pick-both (λ (v : Served). Leaves k.objects v.kernel.objects) (eqb nanos 0) _ (wait_on k c os all nanos tick call) (leaves-same k.objects)
    (begin_as k.current_thread k (padded wait_list os) (length os) all (wait_time nanos) tick)

one-leaves : (c : Option ℕ) (k : Kernel) (q nanos tick : ℕ)
    → Leaves k.objects (wait1_as c k q nanos tick).kernel.objects
one-leaves None k q nanos tick = leaves-same k.objects
one-leaves (Some c) k q nanos tick =
    pick-both (λ (v : Served). Leaves k.objects v.kernel.objects) (is_signaled k.threads (object_at k.objects q) c) _
    (wait_unless k c (q ∷ []) false nanos tick (Some WaitSynchronization1))
    (acquire-leaves k.objects q c) (unless-leaves k c (q ∷ []) false nanos tick (Some WaitSynchronization1))

take-leaves : (i : Option ℕ) (k : Kernel) (c : ℕ) (os : List ℕ) (all : Bool) (nanos tick : ℕ)
    → Leaves k.objects (take_at i k c os all nanos tick).kernel.objects
take-leaves None k c os all nanos tick = unless-leaves k c os all nanos tick (Some WaitSynchronizationN)
take-leaves (Some i) k c os all nanos tick =
    pick-both (Leaves k.objects) all (acquires k.objects os c) (acquire k.objects (get_or os i 0) c) (acquires-leaves k.objects os c) (acquire-leaves k.objects (get_or os i 0) c)

many-leaves : (c : Option ℕ) (k : Kernel) (os : List ℕ) (all : Bool) (nanos tick : ℕ)
    → Leaves k.objects (wait_nas c k os all nanos tick).kernel.objects
many-leaves None k os all nanos tick = leaves-same k.objects
many-leaves (Some c) k os all nanos tick = take-leaves (satisfied_at k.threads k.objects c all os) k c os all nanos tick

-- ---- `wait_synchronization1`
module _ (k : Kernel) (f : FirstFree k.objects) (o : ℕ) (u : Used k.objects o) where
  pub wait_synchronization1-clock : (r : Registers) (tick : ℕ) → clock_at (wait_synchronization1 k r tick).kernel.objects o ≡ fired_clock tick (clock_at k.objects o)
  unfolding wait_synchronization1
  wait_synchronization1-clock r tick =
      let c : Kernel = caught_up k tick in
      let s : ObjectStore = (resolved c r.r0).store in
      let q : ℕ = (resolved c r.r0).object.0 in
      pick-both (λ (v : Served). clock_at v.kernel.objects o ≡ clock_at s o) (eqb q 0) _ _ refl
      ((one-leaves c.current_thread (with_objects c s) q (pair r.r2 r.r3) tick).clock o) ∙ caught-resolved k f o u tick r.r0

-- ---- a list of handles resolved, one after the other
abbrev all_store : Kernel → List ℕ → ObjectStore
all_store k hs = resolve_store k.current_thread k.handles k.objects hs

module _ (o : ℕ) where
  all_if : (b : Bool) (k : Kernel) (p : Parts k) (h : ℕ) (s' : ObjectStore) → Used k.objects o → (pick b (resolved k h).store s').full ≡ false
      → (s'.full ≡ false → clock_at s' o ≡ clock_at (resolved k h).store o) → clock_at (pick b (resolved k h).store s') o ≡ clock_at k.objects o
  all_if true k p h s' u e g = resolved-clock k (parts_free k p) o u h
  all_if false k p h s' u e g = g e ∙ resolved-clock k (parts_free k p) o u h

  all-clock : (hs : List ℕ) (k : Kernel) → Parts k → Used k.objects o → (all_store k hs).full ≡ false → clock_at (all_store k hs) o ≡ clock_at k.objects o
  unfolding resolve_store
  all-clock [] k p u e = refl
  all-clock (h ∷ hs) k p u e =
      let s : ObjectStore = (resolved k h).store in
      let j : Kernel = with_objects k s in
      all_if (eqb (resolved k h).object.0 0) k p h (all_store j hs) u e
      (λ g. all-clock hs j (resolved-parts k p h (store-full k.current_thread k.handles hs s g)) (used_as k.objects s o (resolved-clock k (parts_free k p) o u h) u) g)

-- ---- `wait_synchronization_n`
module _ (k : Kernel) (p : Parts k) (o : ℕ) (u : Used k.objects o) (tick : ℕ) (hs : List ℕ) where
  -- a store after it that is neither full nor over
  many_as : (s' : ObjectStore) → Leaves (all_store (caught_up k tick) hs) s' → s'.full ≡ false → s'.overflow ≡ false → clock_at s' o ≡ fired_clock tick (clock_at k.objects o)
  many_as s' q e g =
      let c : Kernel = caught_up k tick in
      let v : c.objects.overflow ≡ false = sym (store-overflow c.current_thread c.handles hs c.objects) ∙ q.overflow g in
      q.clock o ∙ all-clock o hs c (caught-parts k tick v p) (caught-used k.objects k.threads tick o u) (q.full e) ∙ catch_clock k.objects k.threads tick o

  pub wait_synchronization_n-clock : (r : Registers) → Parts (wait_synchronization_n k r hs tick).kernel
      → clock_at (wait_synchronization_n k r hs tick).kernel.objects o ≡ fired_clock tick (clock_at k.objects o)
  unfolding wait_synchronization_n
  wait_synchronization_n-clock r q =
      let c : Kernel = caught_up k tick in
      let os : List ℕ = resolve_all c.current_thread c.handles c.objects hs in
      let s : ObjectStore = all_store c hs in
      many_as (wait_synchronization_n k r hs tick).kernel.objects
      (pick-both (λ (v : Served). Leaves s v.kernel.objects) (contains os 0) _ _ (leaves-same s)
      (many-leaves c.current_thread (with_objects c s) os (not (eqb r.r3 0)) (pair r.r0 r.r4) tick)) q.clean.2 q.clean.3
