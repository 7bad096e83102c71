-- What the thread that a call parks waits for: what the call asked for, by the words of the demand.
use Rattle.units.specs.declared.Ticks.{Ticks}
use Rattle.std.specs.Prelude.{◌≡◌, Bool, not, ◌≢◌, ℕ, ◌≤◌, ltb, length, set, get_or, Option, Some, None}
use Rattle.std.proofs.Math.Path.{refl, ap, sym}
use Rattle.std.proofs.Common.{subst, ◌∙◌, arith}
use Rattle.std.proofs.Math.Bool.{true, false}
use mathlib.Core.List.{List, [], ◌∷◌, map}
use Rattle.std.proofs.Math.Dec.{eqb}
use borrow.Author.Tests.{eqb-true, eqb-false}
use Rattle.laws.specs.Logic.{pick, pick_no, ◌and◌, ◌or◌, and-true, or-false, false-true}
use Rattle.units.specs.declared.ObjectId.{ObjectId}
use Rattle.types.specs.declared.thread.WaitSyscall.{WaitSyscall}
use Rattle.types.specs.declared.thread.WaitSyscall.TheVariants.{WaitSynchronization1, WaitSynchronizationN}
use Rattle.types.specs.declared.sync.ArbitrationType.{ArbitrationType}
use Rattle.types.specs.declared.sync.ArbitrationType.TheVariants.{Signal, WaitIfLessThan, DecrementAndWaitIfLessThan, WaitIfLessThanWithTimeout, DecrementAndWaitIfLessThanWithTimeout}
use Rattle.types.specs.declared.object.KObject.TheVariants.{Thread, Process}
use Rattle.types.specs.declared.object.HandleTable.{HandleTable}
use Rattle.types.specs.declared.object.ObjectStore.{ObjectStore}
use Rattle.types.specs.declared.kernel.Kernel.{Kernel}
use Rattle.types.specs.Thread.{wait_list, is_blocked}
use Rattle.types.specs.Sync.{arbitration_from_raw}
use Rattle.sound.specs.View.{ids, object_at, thread_at}
use Rattle.sound.specs.Objects.{kept_at}
use Rattle.object.specs.declared.kept.Resolved.{Resolved}
use Rattle.object.specs.Slots.{with_kept, with_process}
use Rattle.object.specs.Store.{is_free, insert, add_ref, add_refs}
use Rattle.object.specs.Handles.{object_of}
use Rattle.object.specs.Kept.{thread_object, process_object, of_current, resolve}
use Rattle.soundness.specs.Slots.{pick-both, pick_if}
use Rattle.soundness.specs.Threads.{thread-same}
use Rattle.kernel.specs.NextEvent.{contains}
use Rattle.pass.specs.Signal.{is_signaled, acquire}
use Rattle.pass.specs.Waits.{satisfied_at, wake_tick, begin_wait_as, begin_wait}
use Rattle.pass.specs.Asks.{padded}
use Rattle.pass.specs.Padded.{padded-first}
use Rattle.passing.specs.Picks.{thread-f}
use Rattle.parking.specs.Lists.{all-length}
use Rattle.svc.specs.declared.Registers.{Registers}
use Rattle.svc.specs.declared.Served.{Served}
use Rattle.svc.specs.Call.{with_objects, pair, resolved}
use Rattle.svc.specs.Timers.{caught_up}
use Rattle.svc.specs.Sync.{biased}
use Rattle.svc.specs.Threads.{sleep_ticks, sleep_for, sleep_thread}
use Rattle.svc.specs.Arbiter.{parked, park_as, park, park_time, wait_below, arbitrate_as, arbitrate_by, arbitrate_address, signal_address}
use Rattle.svc.specs.Waits.{wait_time, wait_on, wait_unless, wait1_as, wait_synchronization1, resolve_all, resolve_store, take_at, wait_nas, wait_synchronization_n}
use Rattle.svc.specs.Dispatch.{runs?, call}
use Rattle.demand.specs.Words.{Awaited, time, objects, signal, awaited_by, asks_for, timed_wait?, entry_of, own_object, named}
use Rattle.timing.specs.Wait.{Wait, Blocked}
use Rattle.timing.specs.Parks.{begin-own, sleep-own}
use Rattle.deadlines.specs.Effect.{Runs, running_status, running_in, runs-current, Same, same-calm, Calm}
use Rattle.deadlines.specs.Threads.{since-wait}
use Rattle.deadlines.specs.Arbiter.{signal-free}
use Rattle.clocks.specs.Resolves.{entry-is}

-- ---- from k to k': the current thread, if it is blocked afterwards, waits for a
abbrev Asks : Kernel → Awaited → Kernel → Type 0
Asks k a k' = (c : ℕ) → k.current_thread ≡ Some c → Runs k c → Blocked k'.threads c
    → awaited_by (thread_at k'.threads c) ≡ a

-- no thread is touched, so it is not blocked
not-parked : {A : Type 0} (k k' : Kernel) → Same k k' → (c : ℕ) → k.current_thread ≡ Some c → Runs k c
    → Blocked k'.threads c → A
not-parked k k' s c e r b = false-true (sym ((same-calm k k' s).free c e r) ∙ b)

-- ---- 0x0A
sleep-for : (d : Option Ticks) (k : Kernel) (tick : ℕ) → Asks k time (sleep_for d k tick)
sleep-for None k tick c e r b =
    false-true (sym (ap (λ (w : Wait). is_blocked w.status) (since-wait k.current_thread k tick c) ∙ running_status (thread_at k.threads c).status r) ∙ b)
sleep-for (Some d) k tick c e r b = ap awaited_by (sleep-own k c e (running_in k.threads c r) d.0 tick)

sleep_asks : (k : Kernel) (r : Registers) (tick : ℕ) → Asks k time (sleep_thread k r tick).kernel
unfolding sleep_thread
sleep_asks k r tick = sleep-for (sleep_ticks k (pair r.r0 r.r1) tick) k tick

-- ---- 0x22
park-as : (t : Option ℕ) (k : Kernel) (o a : ℕ) (w : Option Ticks) (tick c : ℕ) → t ≡ Some c → Runs k c
    → awaited_by (thread_at (park_as t k o a w tick).threads c) ≡ signal (Some a)
park-as t k o a w tick c e r =
    ap (λ (x : Option ℕ). awaited_by (thread_at (park_as x k o a w tick).threads c)) e
    ∙ ap awaited_by (thread-same k.threads c (parked (thread_at k.threads c) a (wake_tick w tick)) (running_in k.threads c r))

below_asks : (kind : ArbitrationType) (k : Kernel) (o a value word n tick : ℕ)
    → Asks k (signal (Some a)) (wait_below kind k o a value word n tick).kernel
below_asks kind k o a value word n tick =
    pick-both (λ (x : Served). Asks k (signal (Some a)) x.kernel) (ltb (biased word) (biased value)) _ _
    (λ c e r b. park-as k.current_thread k o a (park_time kind n) tick c e r) (λ c e r b. not-parked k k (record { threads = refl; relief = refl }) c e r b)

arbitrate-as : (kind : ArbitrationType) (k : Kernel) (o a value word n tick : ℕ)
    → Asks k (signal (Some a)) (arbitrate_as kind k o a value word n tick).kernel
arbitrate-as Signal k o a value word n tick = λ c e r b. false-true (sym (signal-free k o a value c r) ∙ b)
arbitrate-as WaitIfLessThan k o a value word n tick = below_asks WaitIfLessThan k o a value word n tick
arbitrate-as DecrementAndWaitIfLessThan k o a value word n tick = below_asks DecrementAndWaitIfLessThan k o a value word n tick
arbitrate-as WaitIfLessThanWithTimeout k o a value word n tick = below_asks WaitIfLessThanWithTimeout k o a value word n tick
arbitrate-as DecrementAndWaitIfLessThanWithTimeout k o a value word n tick = below_asks DecrementAndWaitIfLessThanWithTimeout k o a value word n tick

arbitrate-by : (o : Option ArbitrationType) (k : Kernel) (r : Registers) (word tick : ℕ)
    → Asks k (signal (Some r.r1)) (arbitrate_by o k r word tick).kernel
arbitrate-by None k r word tick = λ c e x b. not-parked k k (record { threads = refl; relief = refl }) c e x b
arbitrate-by (Some kind) k r word tick =
    let x : Resolved = resolved k r.r0 in
    let m : Kernel = with_objects k x.store in
    pick-both (λ (y : Served). Asks k (signal (Some r.r1)) y.kernel) (eqb x.object.0 0) _ _
    (λ c e r b. not-parked k m (record { threads = refl; relief = refl }) c e r b)
    (arbitrate-as kind m x.object.0 r.r1 r.r3 word (pair r.r4 r.r5) tick)

arbitrate_asks : (k : Kernel) (r : Registers) (word tick : ℕ)
    → Asks k (signal (Some r.r1)) (arbitrate_address k r word tick).kernel
unfolding arbitrate_address
arbitrate_asks k r word tick = arbitrate-by (arbitration_from_raw r.r2) k r word tick

-- ---- what handles name once they are resolved
-- the objects that the kernel keeps, which pseudo-handles name
record KeptIds : Type 0 where
  threads : List ObjectId
  process : ObjectId

abbrev kept_of : ObjectStore → KeptIds
kept_of s = record { threads = s.thread_objects; process = s.process_object }

-- what names an object looks at nothing else of a store
named_as : (s s' : ObjectStore) → kept_of s' ≡ kept_of s → (c : Option ℕ) (t : HandleTable) (hs : List ℕ)
    → map (named c t s') hs ≡ map (named c t s) hs
named_as s s' e c t hs =
    ap (λ (x : KeptIds). map (λ (h : ℕ). pick (eqb h 0xFFFF8000) (own_object c x.threads) (pick (eqb h 0xFFFF8001) x.process.0 (entry_of t.entries h))) hs) e

ref-kept : (s : ObjectStore) (o : ℕ) → kept_of (add_ref s o) ≡ kept_of s
unfolding add_ref
ref-kept s o = pick-both (λ (x : ObjectStore). kept_of x ≡ kept_of s) (is_free (object_at s o)) s _ refl refl

refs-kept : (os : List ℕ) (s : ObjectStore) → kept_of (add_refs s os) ≡ kept_of s
unfolding add_refs
refs-kept [] s = refl
refs-kept (o ∷ os) s = refs-kept os (add_ref s o) ∙ ref-kept s o

begin-kept : (t : Option ℕ) (k : Kernel) (l : List ObjectId) (n : ℕ) (all : Bool) (w : Option Ticks) (tick : ℕ)
    → kept_of (begin_wait_as t k l n all w tick).objects ≡ kept_of k.objects
begin-kept None k l n all w tick = refl
begin-kept (Some c) k l n all w tick = refs-kept _ k.objects

module _ (c : Option ℕ) (t : HandleTable) where
  -- the handle itself names what it was resolved to
  own-named : (s : ObjectStore) (h : ℕ) → named c t (resolve c t s h).store h ≡ (resolve c t s h).object.0
  unfolding resolve object_of
  own-named s h = go (eqb h 0xFFFF8000) (eqb h 0xFFFF8001)
    where
      current : (x : Option ℕ) → own_object x (of_current s x).store.thread_objects ≡ (of_current s x).object.0
      current None = refl
      current (Some i) = refl

      go : (p q : Bool)
          → (let x : Resolved = pick p (of_current s c) (pick q (record { object = (process_object s).process_object; store = process_object s }) (record { object = record { 0 = object_of t h }; store = s })) in
          pick p (own_object c x.store.thread_objects) (pick q x.store.process_object.0 (entry_of t.entries h)) ≡ x.object.0)
      go true q = current c
      go false true = refl
      go false false = sym (entry-is t.entries h)

  -- what is made for one handle takes nothing from another
  thread-keeps : (s : ObjectStore) (i g : ℕ) → c ≡ Some i → named c t s g ≢ 0
      → named c t (thread_object s i) g ≡ named c t s g
  unfolding thread_object insert
  thread-keeps s i g e n = go (eqb (kept_at s i) 0) refl
    where
      made : (p : Bool) → eqb (kept_at s i) 0 ≡ true → pick p (own_object c s.thread_objects) (pick (eqb g 0xFFFF8001) s.process_object.0 (entry_of t.entries g)) ≢ 0
          → pick p (own_object c (set s.thread_objects i (record { 0 = s.free }))) (pick (eqb g 0xFFFF8001) s.process_object.0 (entry_of t.entries g))
          ≡ pick p (own_object c s.thread_objects) (pick (eqb g 0xFFFF8001) s.process_object.0 (entry_of t.entries g))
      made true f m = absurd (m (ap (λ (x : Option ℕ). own_object x s.thread_objects) e ∙ eqb-true (kept_at s i) 0 f))
      made false f m = refl

      go : (q : Bool) → eqb (kept_at s i) 0 ≡ q
          → named c t (pick q (with_kept (insert s (Thread i)) (set s.thread_objects i (record { 0 = s.free }))) s) g ≡ named c t s g
      go true f = made (eqb g 0xFFFF8000) f n
      go false f = refl

  process-keeps : (s : ObjectStore) (g : ℕ) → named c t s g ≢ 0 → named c t (process_object s) g ≡ named c t s g
  unfolding process_object insert
  process-keeps s g n = go (eqb s.process_object.0 0) refl
    where
      made : (p q : Bool) → eqb s.process_object.0 0 ≡ true → pick p (own_object c s.thread_objects) (pick q s.process_object.0 (entry_of t.entries g)) ≢ 0
          → pick p (own_object c s.thread_objects) (pick q s.free (entry_of t.entries g)) ≡ pick p (own_object c s.thread_objects) (pick q s.process_object.0 (entry_of t.entries g))
      made true q f m = refl
      made false true f m = absurd (m (eqb-true s.process_object.0 0 f))
      made false false f m = refl

      go : (q : Bool) → eqb s.process_object.0 0 ≡ q
          → named c t (pick q (with_process (insert s Process) (record { 0 = s.free })) s) g ≡ named c t s g
      go true f = made (eqb g 0xFFFF8000) (eqb g 0xFFFF8001) f n
      go false f = refl

  current-keeps : (s : ObjectStore) (g : ℕ) (x : Option ℕ) → c ≡ x → named c t s g ≢ 0
      → named c t (of_current s x).store g ≡ named c t s g
  current-keeps s g None e n = refl
  current-keeps s g (Some i) e n = thread-keeps s i g e n

  resolve-keeps : (s : ObjectStore) (h g : ℕ) → named c t s g ≢ 0 → named c t (resolve c t s h).store g ≡ named c t s g
  unfolding resolve
  resolve-keeps s h g n =
      pick-both (λ (x : Resolved). named c t x.store g ≡ named c t s g) (eqb h 0xFFFF8000) (of_current s c) _ (current-keeps s g c refl n)
      (pick-both (λ (x : Resolved). named c t x.store g ≡ named c t s g) (eqb h 0xFFFF8001) _ (record { object = record { 0 = object_of t h }; store = s }) (process-keeps s g n) refl)

  all_keep : (hs : List ℕ) (s : ObjectStore) (g : ℕ) → named c t s g ≢ 0 → named c t (resolve_store c t s hs) g ≡ named c t s g
  unfolding resolve_store
  all_keep [] s g n = refl
  all_keep (h ∷ hs) s g n =
      let x : Resolved = resolve c t s h in
      let e : named c t x.store g ≡ named c t s g = resolve-keeps s h g n in
      pick-both (λ (y : ObjectStore). named c t y g ≡ named c t s g) (eqb x.object.0 0) x.store (resolve_store c t x.store hs) e
      (all_keep hs x.store g (λ z. n (sym e ∙ z)) ∙ e)

  -- each handle of a list names the object that it was resolved to
  all_named : (hs : List ℕ) (s : ObjectStore) → contains (resolve_all c t s hs) 0 ≡ false → map (named c t (resolve_store c t s hs)) hs ≡ resolve_all c t s hs
  unfolding resolve_store resolve_all contains
  all_named [] s e = refl
  all_named (h ∷ hs) s e =
      let x : Resolved = resolve c t s h in
      let f = or-false (eqb x.object.0 0) (contains (resolve_all c t x.store hs) 0) e in
      let n : named c t x.store h ≢ 0 = λ z. eqb-false x.object.0 0 f.0 (sym (own-named s h) ∙ z) in
      ap (λ (y : ObjectStore). map (named c t y) (h ∷ hs)) (pick_no (eqb x.object.0 0) x.store (resolve_store c t x.store hs) f.0)
      ∙ ap (λ (o : ℕ). o ∷ map (named c t (resolve_store c t x.store hs)) hs) (all_keep hs x.store h n ∙ own-named s h)
      ∙ ap (λ (l : List ℕ). x.object.0 ∷ l) (all_named hs x.store f.1)

-- ---- 0x24 and 0x25
-- the current thread, if it is blocked afterwards, waits for what the handles name
abbrev AsksNamed : Kernel → Bool → List ℕ → Kernel → Type 0
AsksNamed k all hs k' = (c : ℕ) → k.current_thread ≡ Some c → Runs k c → Blocked k'.threads c
    → awaited_by (thread_at k'.threads c) ≡ objects all (map (named (Some c) k.handles k'.objects) hs)

module _ (k : Kernel) (all : Bool) (hs : List ℕ) where
  -- no thread is touched
  left : (k' : Kernel) → Same k k' → AsksNamed k all hs k'
  left k' s c e r b = not-parked k k' s c e r b

  module _ (os : List ℕ) (few : length os ≤ wait_list) (found : map (named k.current_thread k.handles k.objects) hs ≡ os) (n tick : ℕ) where
    on_asks : (d : ℕ) (w : Option WaitSyscall) → AsksNamed k all hs (wait_on k d os all n tick w).kernel
    unfolding begin_wait
    on_asks d w c e r b =
        let m : Kernel = begin_wait k (padded wait_list os) (length os) all (wait_time n) tick in
        let g : map (named (Some c) k.handles m.objects) hs ≡ os =
        named_as k.objects m.objects (begin-kept k.current_thread k (padded wait_list os) (length os) all
        (wait_time n) tick) (Some c) k.handles hs
        ∙ ap (λ (x : Option ℕ). map (named x k.handles k.objects) hs) (sym e) ∙ found in
        thread-f awaited_by m.threads d _ c refl
        ∙ ap awaited_by (begin-own k c e (running_in k.threads c r) (padded wait_list os) (length os) all (wait_time n) tick)
        ∙ ap (λ (l : List ℕ). objects all l) (padded-first wait_list os few ∙ sym g)

    unless_asks : (d : ℕ) (w : Option WaitSyscall) → AsksNamed k all hs (wait_unless k d os all n tick w).kernel
    unless_asks d w = pick-both (λ (x : Served). AsksNamed k all hs x.kernel) (eqb n 0) _ (wait_on k d os all n tick w) (left k (record { threads = refl; relief = refl })) (on_asks d w)

    take_asks : (i : Option ℕ) (d : ℕ) → AsksNamed k all hs (take_at i k d os all n tick).kernel
    take_asks None d = unless_asks d (Some WaitSynchronizationN)
    take_asks (Some i) d = left (take_at (Some i) k d os all n tick).kernel (record { threads = refl; relief = refl })

    wait_n_as : (t : Option ℕ) → AsksNamed k all hs (wait_nas t k os all n tick).kernel
    wait_n_as None = left k (record { threads = refl; relief = refl })
    wait_n_as (Some d) = take_asks (satisfied_at k.threads k.objects d all os) d

wait1-as : (t : Option ℕ) (k : Kernel) (h o n tick : ℕ) → named k.current_thread k.handles k.objects h ≡ o
    → AsksNamed k false (h ∷ []) (wait1_as t k o n tick).kernel
wait1-as None k h o n tick e = left k false (h ∷ []) k (record { threads = refl; relief = refl })
wait1-as (Some d) k h o n tick e =
    pick-both (λ (x : Served). AsksNamed k false (h ∷ []) x.kernel) (is_signaled k.threads (object_at k.objects o) d) _
    (wait_unless k d (o ∷ []) false n tick (Some WaitSynchronization1))
    (left k false (h ∷ []) (with_objects k (acquire k.objects o d)) (record { threads = refl; relief = refl }))
    (unless_asks k false (h ∷ []) (o ∷ []) (omega arith) (ap (λ (x : ℕ). x ∷ []) e) n tick d
    (Some WaitSynchronization1))

wait1_asks : (k : Kernel) (r : Registers) (tick : ℕ) → AsksNamed k false (r.r0 ∷ []) (wait_synchronization1 k r tick).kernel
unfolding wait_synchronization1
wait1_asks k r tick =
    let c : Kernel = caught_up k tick in
    let x : Resolved = resolved c r.r0 in
    pick-both (λ (y : Served). AsksNamed k false (r.r0 ∷ []) y.kernel) (eqb x.object.0 0) _ _ (left k false (r.r0 ∷ []) (with_objects c x.store) (record { threads = refl; relief = refl }))
    (wait1-as c.current_thread (with_objects c x.store) r.r0 x.object.0 (pair r.r2 r.r3) tick (own-named k.current_thread k.handles c.objects r.r0))

wait_n_asks : (k : Kernel) (r : Registers) (words : List ℕ) (tick : ℕ) → length words ≤ wait_list → AsksNamed k (not (eqb r.r3 0)) words (wait_synchronization_n k r words tick).kernel
unfolding wait_synchronization_n
wait_n_asks k r words tick few =
    let c : Kernel = caught_up k tick in
    let os : List ℕ = resolve_all c.current_thread c.handles c.objects words in
    let s : ObjectStore = resolve_store c.current_thread c.handles c.objects words in
    let all : Bool = not (eqb r.r3 0) in
    pick_if (λ (y : Served). AsksNamed k all words y.kernel) (contains os 0) _ _ (λ e. left k all words (with_objects c s) (record { threads = refl; relief = refl }))
    (λ e. wait_n_as (with_objects c s) all words os (omega (arith, all-length c.current_thread c.handles words c.objects))
    (all_named k.current_thread k.handles words c.objects e) (pair r.r0 r.r4) tick c.current_thread)

-- ---- every call that begins a timed wait
pub call_asks : (number : ℕ) (k : Kernel) (r : Registers) (words : List ℕ) (tick : ℕ) → (eqb number 0x25 ≡ true → length words ≤ wait_list) → timed_wait? number r ≡ true → runs? k ≡ true
    → (c : ℕ) → k.current_thread ≡ Some c → Blocked (call number k r words tick).kernel.threads c
    → awaited_by (thread_at (call number k r words tick).kernel.threads c) ≡ asks_for number r words
    (named (Some c) k.handles (call number k r words tick).kernel.objects)
unfolding timed_wait? call ◌or◌ ◌and◌
call_asks number k r words tick few timed run c e b = go (eqb number 0x0A) (eqb number 0x24) (eqb number 0x25) (eqb number 0x22) refl refl refl refl timed
  where
    At : ℕ → Type 0
    At m = Blocked (call m k r words tick).kernel.threads c
        → awaited_by (thread_at (call m k r words tick).kernel.threads c) ≡ asks_for m r words
        (named (Some c) k.handles (call m k r words tick).kernel.objects)

    at : (m : ℕ) → eqb number m ≡ true → At m
        → awaited_by (thread_at (call number k r words tick).kernel.threads c) ≡ asks_for number r words
        (named (Some c) k.handles (call number k r words tick).kernel.objects)
    at m f h = subst At (sym (eqb-true number m f)) h b

    go : (p q u v : Bool) → eqb number 0x0A ≡ p → eqb number 0x24 ≡ q → eqb number 0x25 ≡ u → eqb number 0x22 ≡ v → p or (q or (u or (v and (eqb r.r2 3 or eqb r.r2 4)))) ≡ true
        → awaited_by (thread_at (call number k r words tick).kernel.threads c) ≡ asks_for number r words
        (named (Some c) k.handles (call number k r words tick).kernel.objects)
    go true q u v f g h i w = at 0x0A f (sleep_asks k r tick c e (runs-current k run c e))
    go false true u v f g h i w = at 0x24 g (wait1_asks k r tick c e (runs-current k run c e))
    go false false true v f g h i w = at 0x25 h (wait_n_asks k r words tick (few h) c e (runs-current k run c e))
    go false false false true f g h i w = at 0x22 i (arbitrate_asks k r (get_or words 0 0) tick c e (runs-current k run c e))
    go false false false false f g h i w = false-true w
