-- 0x22: kind 0 wakes threads that are parked at the address, the others park the current thread.
use Rattle.units.specs.declared.Ticks.{Ticks}
use Rattle.std.specs.Prelude.{◌≡◌, refl, Bool, true, false, not, cond, ◌≢◌, ℕ, zero, suc, ◌+◌, ◌<◌, eqb, ltb, length}
use Rattle.std.specs.Prelude.{Option, Some, None}
use Rattle.std.proofs.Common.{ap, sym, subst, ◌∙◌, inl, inr, arith}
use mathlib.Core.List.{List, [], ◌∷◌, ◌++◌}
use Rattle.laws.specs.Logic.{pick, pick_yes, pick_no, ◌and◌, ◌or◌, and-true, true-and, false-true}
use Rattle.units.specs.Ticks.{nanos_to_ticks}
use Rattle.types.specs.declared.thread.ThreadStatus.{ThreadStatus}
use Rattle.types.specs.declared.thread.ThreadStatus.TheVariants.{Dead, Running, Ready, Sleeping, WaitSync, WaitArbiter, Dormant}
use Rattle.types.specs.declared.thread.Thread.{Thread}
use Rattle.types.specs.declared.sync.ArbitrationType.{ArbitrationType}
use Rattle.types.specs.declared.sync.ArbitrationType.TheVariants.{Signal, WaitIfLessThan, DecrementAndWaitIfLessThan, WaitIfLessThanWithTimeout, DecrementAndWaitIfLessThanWithTimeout}
use Rattle.types.specs.declared.object.Waiter.{Waiter}
use Rattle.types.specs.declared.object.ObjectStore.{ObjectStore}
use Rattle.types.specs.declared.kernel.Kernel.{Kernel}
use Rattle.types.specs.Thread.{is_blocked}
use Rattle.types.specs.Sync.{arbitration_from_raw}
use Rattle.sound.specs.View.{thread_at}
use Rattle.sound.specs.Records.{chain_of}
use Rattle.object.specs.declared.kept.Resolved.{Resolved}
use Rattle.object.specs.Waiters.{waiter_at}
use Rattle.soundness.specs.Slots.{pick-both}
use Rattle.soundness.specs.Threads.{thread-same, thread-other}
use Rattle.kernel.specs.NextEvent.{contains}
use Rattle.pass.specs.Waits.{wake_tick}
use Rattle.timing.specs.Wait.{wait_of, Blocked, blocked_in}
use Rattle.svc.specs.declared.Registers.{Registers}
use Rattle.svc.specs.declared.Served.{Served}
use Rattle.svc.specs.Call.{done, answers, invalid_handle, with_objects, pair, negative, resolved}
use Rattle.svc.specs.Sync.{biased}
use Rattle.svc.specs.Arbiter.{waits_arbiter, parked_at, wakes_at, woken_by, to_wake, woken_up, wake_all, woken_at, signal_address, has_timeout, park_time, parked, park_as, park, wait_below, arbitrate_for, arbitrate_by, arbitrate_address}
use Rattle.deadlines.specs.Effect.{Runs, running_status, running_in, Timed, runs_out, timed_negative, timed_out, Effect, same_effect, effect-store}
use Rattle.kernel.specs.Marks.{contains-end}

-- ---- who is woken
-- the threads that a call wakes, x being what its handle names
abbrev pub woken_for : ArbitrationType → Kernel → Resolved → Registers → List ℕ
woken_for Signal k x r = pick (eqb x.object.0 0) [] (woken_at k.threads x.store x.object.0 r.r1 r.r3)
woken_for WaitIfLessThan k x r = []
woken_for DecrementAndWaitIfLessThan k x r = []
woken_for WaitIfLessThanWithTimeout k x r = []
woken_for DecrementAndWaitIfLessThanWithTimeout k x r = []

abbrev pub woken_if : Option ArbitrationType → Kernel → Registers → List ℕ
woken_if None k r = []
woken_if (Some kind) k r = woken_for kind k (resolved k r.r0) r

module _ (ts : List Thread) (ws : List Waiter) (a value : ℕ) where
  -- every thread of the list is parked at the address
  abbrev AllParked : List ℕ → Type 0
  AllParked woken = (w : ℕ) → contains woken w ≡ true → parked_at (thread_at ts w) a ≡ true

  by_parked : (woken : List ℕ) (x : ℕ) → AllParked woken → AllParked (woken_by ts ws a value woken x)
  by_parked woken x h = go (wakes_at ts ws a value woken x) refl
    where
      go : (q : Bool) → wakes_at ts ws a value woken x ≡ q → AllParked (pick q (woken ++ ((waiter_at ws x).thread ∷ [])) woken)
      go true e w f =
          elim (contains-end woken (waiter_at ws x).thread w f) [
            | inl g ↦ h w g
            | inr g ↦ subst (λ (j : ℕ). parked_at (thread_at ts j) a ≡ true) g (and-true _ _ (and-true _ _ (and-true _ _ e).1).0).0
          ]
      go false e w f = h w f

  to-parked : (xs woken : List ℕ) → AllParked woken → AllParked (to_wake ts ws a value woken xs)
  unfolding to_wake
  to-parked [] woken h = h
  to-parked (x ∷ xs) woken h = to-parked xs (woken_by ts ws a value woken x) (by_parked woken x h)

-- only threads that are parked at the address
pub woken-parked : (ts : List Thread) (s : ObjectStore) (o a value w : ℕ) → contains (woken_at ts s o a value) w ≡ true → parked_at (thread_at ts w) a ≡ true
unfolding contains
woken-parked ts s o a value w e = to-parked ts s.waiters a value (chain_of s o) [] (λ v f. false-true f) w e

-- ---- what becomes of them
arbiter-blocked : (s : ThreadStatus) → waits_arbiter s ≡ true → is_blocked s ≡ true
arbiter-blocked Dead e = e
arbiter-blocked Running e = e
arbiter-blocked Ready e = e
arbiter-blocked Sleeping e = refl
arbiter-blocked WaitSync e = refl
arbiter-blocked WaitArbiter e = e
arbiter-blocked Dormant e = e

-- a thread that is parked at an address is blocked
pub parked-blocked : (t : Thread) (a : ℕ) → parked_at t a ≡ true → is_blocked t.status ≡ true
parked-blocked t a e = arbiter-blocked t.status (and-true _ _ e).0

wake-at : (woken : List ℕ) (i : ℕ) (ts : List Thread) (w : ℕ) → w < length ts → thread_at (wake_all woken i ts) w ≡ pick (contains woken (i + w)) (woken_up (thread_at ts w)) (thread_at ts w)
unfolding wake_all
wake-at woken i [] w l = absurd (omega arith)
wake-at woken i (t ∷ ts) zero l = let e : i + 0 ≡ i = omega arith in rw e
wake-at woken i (t ∷ ts) (suc w) l = let e : i + suc w ≡ suc i + w = omega arith in rw e (wake-at woken (suc i) ts w (omega arith))

module _ (ts : List Thread) (woken : List ℕ) (w : ℕ) (b : Blocked ts w) where
  wake-all : thread_at (wake_all woken 0 ts) w ≡ pick (contains woken w) (woken_up (thread_at ts w)) (thread_at ts w)
  wake-all =
      let e : 0 + w ≡ w = omega arith in
      wake-at woken 0 ts w (blocked_in ts w b) ∙ ap (λ (j : ℕ). pick (contains woken j) (woken_up (thread_at ts w)) (thread_at ts w)) e

  wake-yes : contains woken w ≡ true → (thread_at (wake_all woken 0 ts) w).status ≡ Ready
  wake-yes e = ap (λ (t : Thread). t.status) (wake-all ∙ pick_yes (contains woken w) (woken_up (thread_at ts w)) (thread_at ts w) e)

  wake-no : contains woken w ≡ false → thread_at (wake_all woken 0 ts) w ≡ thread_at ts w
  wake-no e = wake-all ∙ pick_no (contains woken w) (woken_up (thread_at ts w)) (thread_at ts w) e

-- who is not blocked is not so afterwards
free-wake : (ts : List Thread) (woken : List ℕ) (i c : ℕ) → is_blocked (thread_at ts c).status ≡ false → is_blocked (thread_at (wake_all woken i ts) c).status ≡ false
unfolding wake_all
free-wake [] woken i c e = e
free-wake (t ∷ ts) woken i zero e = pick-both (λ (x : Thread). is_blocked x.status ≡ false) (contains woken i) (woken_up t) t refl e
free-wake (t ∷ ts) woken i (suc c) e = free-wake ts woken (suc i) c e

-- ---- kind 0, through the arbiter o
pub signal-free : (k : Kernel) (o a value c : ℕ) → Runs k c → is_blocked (thread_at (signal_address k o a value).threads c).status ≡ false
signal-free k o a value c x = free-wake k.threads (woken_at k.threads k.objects o a value) 0 c (running_status (thread_at k.threads c).status x)

signal-effect : (k : Kernel) (o a value : ℕ) (timed : Bool) (n tick : ℕ) → Effect k (woken_at k.threads k.objects o a value) true timed n tick (signal_address k o a value)
signal-effect k o a value timed n tick =
    let woken : List ℕ = woken_at k.threads k.objects o a value in
    record {
      waits = λ w b h e. ap wait_of (wake-no k.threads woken w b e);
      wakes = λ w e. wake-yes k.threads woken w (parked-blocked (thread_at k.threads w) a (woken-parked k.threads k.objects o a value w e)) e;
      parked = λ c e x b. refl;
      wake = λ c e x b t s. false-true (sym (signal-free k o a value c x) ∙ b);
      relief = refl;
    }

-- ---- kinds 1 to 4
park-other : (t : Option ℕ) (k : Kernel) (o a : ℕ) (time : Option Ticks) (tick w : ℕ) → t ≢ Some w
    → thread_at (park_as t k o a time tick).threads w ≡ thread_at k.threads w
park-other None k o a time tick w h = refl
park-other (Some c) k o a time tick w h = thread-other k.threads c w _ (λ e. h (ap Some (sym e)))

park-own : (k : Kernel) (c : ℕ) → k.current_thread ≡ Some c → c < length k.threads
    → (o a : ℕ) (time : Option Ticks) (tick : ℕ)
    → (thread_at (park k o a time tick).threads c).wakeup_at ≡ wake_tick time tick
park-own k c e l o a time tick =
    ap (λ (t : Option ℕ). (thread_at (park_as t k o a time tick).threads c).wakeup_at) e
    ∙ ap (λ (t : Thread). t.wakeup_at) (thread-same k.threads c (parked (thread_at k.threads c) a (wake_tick time tick)) l)

park-relief : (t : Option ℕ) (k : Kernel) (o a : ℕ) (time : Option Ticks) (tick : ℕ)
    → (park_as t k o a time tick).relief ≡ k.relief
park-relief None k o a time tick = refl
park-relief (Some c) k o a time tick = refl

park-time : (kind : ArbitrationType) (n tick : ℕ) → has_timeout kind ≡ true → Timed n tick → wake_tick (park_time kind n) tick ≡ runs_out n tick
park-time kind n tick t s =
    ap (λ (d : Option Ticks). wake_tick d tick)
    (pick_yes (has_timeout kind and not (negative n)) (Some (nanos_to_ticks (record { 0 = n }))) None
    (true-and (has_timeout kind) (not (negative n)) t (ap not (timed_negative n tick s))))
    ∙ ap (λ (m : ℕ). Some (record { 0 = m })) (timed_out n tick s)

abbrev Below : ArbitrationType → Kernel → ℕ → ℕ → Served → Type 0
Below kind k n tick x = Effect k [] true (has_timeout kind) n tick x.kernel

below-effect : (kind : ArbitrationType) (k : Kernel) (o a value word n tick : ℕ) → Below kind k n tick (wait_below kind k o a value word n tick)
unfolding contains
below-effect kind k o a value word n tick =
    pick-both (Below kind k n tick) (ltb (biased word) (biased value)) _ _
    (record {
      waits = λ w b h e. ap wait_of (park-other k.current_thread k o a (park_time kind n) tick w h);
      wakes = λ w e. false-true e;
      parked = λ c e x b. refl;
      wake = λ c e x b t s. park-own k c e (running_in k.threads c x) o a (park_time kind n) tick ∙ park-time kind n tick t s;
      relief = park-relief k.current_thread k o a (park_time kind n) tick;
    })
    (same_effect k k (record { threads = refl; relief = refl }) true (has_timeout kind) n tick)

-- ---- the call
abbrev pub timed_kind : Option ArbitrationType → Bool
timed_kind None = false
timed_kind (Some kind) = has_timeout kind

-- they are parked at the address
for-parked : (kind : ArbitrationType) (k : Kernel) (x : Resolved) (r : Registers) (w : ℕ) → contains (woken_for kind k x r) w ≡ true → parked_at (thread_at k.threads w) r.r1 ≡ true
unfolding contains
for-parked Signal k x r w e = go (eqb x.object.0 0) e
  where
    go : (q : Bool) → contains (pick q [] (woken_at k.threads x.store x.object.0 r.r1 r.r3)) w ≡ true → parked_at (thread_at k.threads w) r.r1 ≡ true
    go true f = false-true f
    go false f = woken-parked k.threads x.store x.object.0 r.r1 r.r3 w f
for-parked WaitIfLessThan k x r w e = false-true e
for-parked DecrementAndWaitIfLessThan k x r w e = false-true e
for-parked WaitIfLessThanWithTimeout k x r w e = false-true e
for-parked DecrementAndWaitIfLessThanWithTimeout k x r w e = false-true e

pub if_parked : (o : Option ArbitrationType) (k : Kernel) (r : Registers) (w : ℕ) → contains (woken_if o k r) w ≡ true
    → parked_at (thread_at k.threads w) r.r1 ≡ true
unfolding contains
if_parked None k r w e = false-true e
if_parked (Some kind) k r w e = for-parked kind k (resolved k r.r0) r w e

-- and only kind 0 wakes any
abbrev is_signal : Option ArbitrationType → Bool
is_signal None = false
is_signal (Some Signal) = true
is_signal (Some WaitIfLessThan) = false
is_signal (Some DecrementAndWaitIfLessThan) = false
is_signal (Some WaitIfLessThanWithTimeout) = false
is_signal (Some DecrementAndWaitIfLessThanWithTimeout) = false

woken-signal : (o : Option ArbitrationType) (k : Kernel) (r : Registers) (w : ℕ) → contains (woken_if o k r) w ≡ true
    → is_signal o ≡ true
unfolding contains
woken-signal None k r w e = e
woken-signal (Some Signal) k r w e = refl
woken-signal (Some WaitIfLessThan) k r w e = e
woken-signal (Some DecrementAndWaitIfLessThan) k r w e = e
woken-signal (Some WaitIfLessThanWithTimeout) k r w e = e
woken-signal (Some DecrementAndWaitIfLessThanWithTimeout) k r w e = e

signal_raw : (n : ℕ) → is_signal (arbitration_from_raw n) ≡ true → eqb n 0 ≡ true
signal_raw n e = go (eqb n 0) (eqb n 1) (eqb n 2) (eqb n 3) (eqb n 4) e
  where
    go : (a b c d f : Bool)
        → is_signal
        (cond a (Some Signal)
        (cond b (Some WaitIfLessThan)
        (cond c (Some DecrementAndWaitIfLessThan)
        (cond d (Some WaitIfLessThanWithTimeout) (cond f (Some DecrementAndWaitIfLessThanWithTimeout) None)))))
        ≡ true → a ≡ true
    go true b c d f h = refl
    go false true c d f h = h
    go false false true d f h = h
    go false false false true f h = h
    go false false false false true h = h
    go false false false false false h = h

pub if_signal : (k : Kernel) (r : Registers) (w : ℕ) → contains (woken_if (arbitration_from_raw r.r2) k r) w ≡ true → eqb r.r2 0 ≡ true
if_signal k r w e = signal_raw r.r2 (woken-signal (arbitration_from_raw r.r2) k r w e)

-- an unknown handle leaves every thread
unknown : (k : Kernel) (s : ObjectStore) (timed : Bool) (n tick : ℕ) → Effect k [] true timed n tick (with_objects k s)
unknown k s timed n tick = same_effect k (with_objects k s) (record { threads = refl; relief = refl }) true timed n tick

module _ (k : Kernel) (x : Resolved) (r : Registers) (word tick : ℕ) where
  abbrev n : ℕ
  n = pair r.r4 r.r5

  below : (kind : ArbitrationType) → Below kind k n tick (pick (eqb x.object.0 0) (answers invalid_handle (with_objects k x.store)) (wait_below kind (with_objects k x.store) x.object.0 r.r1 r.r3 word n tick))
  below kind =
      pick-both (Below kind k n tick) (eqb x.object.0 0) _ _ (unknown k x.store (has_timeout kind) n tick)
      (effect-store k x.store [] true (has_timeout kind) n tick _ (below-effect kind (with_objects k x.store) x.object.0 r.r1 r.r3 word n tick))

  for-effect : (kind : ArbitrationType) → Effect k (woken_for kind k x r) true (has_timeout kind) n tick (arbitrate_for kind k x r word tick).kernel
  for-effect Signal = go (eqb x.object.0 0)
    where
      go : (q : Bool) → Effect k (pick q [] (woken_at k.threads x.store x.object.0 r.r1 r.r3)) true false n tick
          (pick q (answers invalid_handle (with_objects k x.store)) (done (signal_address (with_objects k x.store) x.object.0 r.r1 r.r3))).kernel
      go true = unknown k x.store false n tick
      go false = effect-store k x.store _ true false n tick _ (signal-effect (with_objects k x.store) x.object.0 r.r1 r.r3 false n tick)
  for-effect WaitIfLessThan = below WaitIfLessThan
  for-effect DecrementAndWaitIfLessThan = below DecrementAndWaitIfLessThan
  for-effect WaitIfLessThanWithTimeout = below WaitIfLessThanWithTimeout
  for-effect DecrementAndWaitIfLessThanWithTimeout = below DecrementAndWaitIfLessThanWithTimeout

by_effect : (o : Option ArbitrationType) (k : Kernel) (r : Registers) (word tick : ℕ)
    → Effect k (woken_if o k r) true (timed_kind o) (pair r.r4 r.r5) tick (arbitrate_by o k r word tick).kernel
by_effect None k r word tick = same_effect k k (record { threads = refl; relief = refl }) true false
    (pair r.r4 r.r5) tick
by_effect (Some kind) k r word tick = for-effect k (resolved k r.r0) r word tick kind

pub arbitrate_effect : (k : Kernel) (r : Registers) (word tick : ℕ)
    → Effect k (woken_if (arbitration_from_raw r.r2) k r) true (timed_kind (arbitration_from_raw r.r2)) (pair r.r4 r.r5) tick (arbitrate_address k r word tick).kernel
unfolding arbitrate_address
arbitrate_effect k r word tick = by_effect (arbitration_from_raw r.r2) k r word tick
