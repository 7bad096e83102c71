-- A wait that a guest call begins, and what a satisfied one takes.
use Rattle.units.specs.declared.Ticks.{Ticks}
use Rattle.std.specs.Prelude.{◌≡◌, refl, Bool, false, List, [], ◌∷◌, ℕ, ◌≤◌, eqb, length, set, take, Option, Some, None}
use Rattle.std.proofs.Math.Path.{sym}
use Rattle.std.proofs.Common.{◌∙◌}
use Rattle.units.specs.declared.ObjectId.{ObjectId}
use Rattle.types.specs.declared.thread.WaitSyscall.{WaitSyscall}
use Rattle.types.specs.declared.thread.Thread.{Thread}
use Rattle.types.specs.declared.object.ObjectStore.{ObjectStore}
use Rattle.types.specs.declared.kernel.Kernel.{Kernel}
use Rattle.types.specs.Thread.{wait_list}
use Rattle.sound.specs.View.{ids, thread_at}
use Rattle.sound.specs.Objects.{names, Live}
use Rattle.object.specs.Slots.{content}
use Rattle.thread.specs.Thread.{with_result}
use Rattle.thread.specs.Threads.{with_threads}
use Rattle.soundness.specs.Slots.{pick-both}
use Rattle.soundness.specs.Objects.{Known}
use Rattle.soundness.specs.Fine.{add_refs-full}
use Rattle.soundness.specs.Whole.{Parts}
use Rattle.pass.specs.Signal.{acquire, acquires}
use Rattle.pass.specs.Waits.{begin_wait_as, begin_wait}
use Rattle.pass.specs.Asks.{padded}
use Rattle.passing.specs.Threads.{live-ok, live-widths, thread-parts}
use Rattle.passing.specs.Switch.{current-live}
use Rattle.passing.specs.Sleeps.{Unlisted}
use Rattle.passing.specs.Begins.{add_refs-overflow, begin_wait-parts}
use Rattle.svc.specs.declared.Served.{Served}
use Rattle.svc.specs.Call.{answers, timeout}
use Rattle.svc.specs.Waits.{wait_time, wait_on, wait_unless}
use Rattle.parking.specs.Lists.{known_waitable}

-- ---- the findings of a store: one that is down after was down before
pub record Sticks (s s' : ObjectStore) : Type 0 where
  pub full : s'.full ≡ false → s.full ≡ false
  pub overflow : s'.overflow ≡ false → s.overflow ≡ false

pub sticks-same : (s : ObjectStore) → Sticks s s
sticks-same s = record { full = λ e. e; overflow = λ e. e }

-- ---- what is taken leaves the finding `full` alone
pub acquire-full : (s : ObjectStore) (o w : ℕ) → (acquire s o w).full ≡ s.full
unfolding acquire content
acquire-full s o w = refl

pub acquires-full : (os : List ℕ) (s : ObjectStore) (w : ℕ) → (acquires s os w).full ≡ s.full
unfolding acquires
acquires-full [] s w = refl
acquires-full (o ∷ os) s w = acquires-full os (acquire s o w) w ∙ acquire-full s o w

-- ---- the call is noted: nothing that a sound state asks of a thread changes
noted-parts : (k : Kernel) (p : Parts k) (c : ℕ) → Live k.threads c → (call : Option WaitSyscall)
    → Parts (with_threads k (set k.threads c (with_result (thread_at k.threads c) (thread_at k.threads c).wait_result call)) k.objects)
noted-parts k p c live call =
    let old : Thread = thread_at k.threads c in
    let u = live-ok k p c live in
    let w = live-widths k p c live in
    thread-parts k p c live (with_result old old.wait_result call)
    (record {
      ok = record { priority = u.priority; run = u.run; list = u.list; only = u.only };
      live = live;
      tls = refl;
      widths = record { own = w.own; wait = w.wait; index = w.index; since = w.since };
    }) (λ o z. refl)

-- ---- `begin_wait` leaves the current thread current, and the findings alone
begin-current : (o : Option ℕ) (k : Kernel) (l : List ObjectId) (n : ℕ) (all : Bool) (time : Option Ticks) (tick : ℕ)
    → (begin_wait_as o k l n all time tick).current_thread ≡ k.current_thread
begin-current None k l n all time tick = refl
begin-current (Some c) k l n all time tick = refl

begin-full : (o : Option ℕ) (k : Kernel) (l : List ObjectId) (n : ℕ) (all : Bool) (time : Option Ticks) (tick : ℕ)
    → (begin_wait_as o k l n all time tick).objects.full ≡ k.objects.full
begin-full None k l n all time tick = refl
begin-full (Some c) k l n all time tick = add_refs-full (take n (ids l)) k.objects

begin-overflow : (o : Option ℕ) (k : Kernel) (l : List ObjectId) (n : ℕ) (all : Bool) (time : Option Ticks) (tick : ℕ)
    → (begin_wait_as o k l n all time tick).objects.overflow ≡ k.objects.overflow
begin-overflow None k l n all time tick = refl
begin-overflow (Some c) k l n all time tick = add_refs-overflow (take n (ids l)) k.objects

module _ (k : Kernel) (c : ℕ) (os : List ℕ) (all : Bool) (nanos tick : ℕ) (call : Option WaitSyscall) where
  -- ---- `begin_wait` for a list of at most 12 objects with names, and the call noted
  on-sticks : Sticks k.objects (wait_on k c os all nanos tick call).kernel.objects
  unfolding begin_wait
  on-sticks = record {
    full = λ e. sym (begin-full k.current_thread k (padded wait_list os) (length os) all (wait_time nanos) tick) ∙ e;
    overflow = λ e. sym (begin-overflow k.current_thread k (padded wait_list os) (length os) all (wait_time nanos) tick) ∙ e;
  }

  pub unless-sticks : Sticks k.objects (wait_unless k c os all nanos tick call).kernel.objects
  unless-sticks =
      pick-both (λ (v : Served). Sticks k.objects v.kernel.objects) (eqb nanos 0) (answers timeout k) (wait_on k c os all nanos tick call) (sticks-same k.objects) on-sticks

  module _ (p : Parts k) (e : k.current_thread ≡ Some c) (u : Unlisted k.threads k.current_thread)
      (few : length os ≤ wait_list) (known : Known k.objects (names k.handles k.threads) os) where
    on-parts : Parts (wait_on k c os all nanos tick call).kernel
    unfolding begin_wait
    on-parts =
        let b : Kernel = begin_wait_as k.current_thread k (padded wait_list os) (length os) all (wait_time nanos) tick in
        let q : Parts b = begin_wait-parts k p (padded wait_list os) (length os) (known_waitable k p os few known) all (wait_time nanos) tick u in
        noted-parts b q c (current-live b q c (begin-current k.current_thread k (padded wait_list os) (length os) all (wait_time nanos) tick ∙ e)) call

    -- a time-out of 0 does not wait
    pub unless-parts : Parts (wait_unless k c os all nanos tick call).kernel
    unless-parts = pick-both (λ (v : Served). Parts v.kernel) (eqb nanos 0) (answers timeout k) (wait_on k c os all nanos tick call) p on-parts
