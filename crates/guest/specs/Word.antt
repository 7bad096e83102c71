-- Which calls write a word: only one that reads it. Assumes nothing.
use Rattle.std.specs.Prelude.{◌≡◌, Bool, true, false, not, ◌⊎◌, eqb, leb, ltb, get_or, Option, Some, None}
use Rattle.std.proofs.Math.Path.{refl}
use Rattle.std.proofs.Common.{ap, sym, subst, inl, inr, arith, eq-eqb, ne_eqb, eqb-true, le-leb, leb-true, leb-false, ltb-false}
use mathlib.Core.List.{List, [], ◌∷◌}
use Prim.Native.Nat.{ℕ, ◌+◌, ◌*◌, ◌≤◌, ◌<◌}
use Rattle.std.proofs.lemmas.Bool.{eqb-false}
use Rattle.laws.specs.Logic.{pick, ◌and◌, and-true, true-and, false-true}
use Rattle.types.specs.declared.object.KObject.{KObject}
use Rattle.types.specs.declared.object.KObject.TheVariants.{Free, Thread, Event, Mutex, Semaphore, Timer, AddressArbiter, Process, ResourceLimit}
use Rattle.types.specs.declared.object.ObjectStore.{ObjectStore}
use Rattle.types.specs.declared.kernel.Kernel.{Kernel}
use Rattle.sound.specs.View.{object_at}
use Rattle.object.specs.declared.kept.Resolved.{Resolved}
use Rattle.kernel.specs.NextEvent.{contains}
use Rattle.pass.specs.Signal.{is_signaled}
use Rattle.pass.specs.Waits.{satisfied_at}
use Rattle.types.specs.declared.thread.WaitSyscall.{WaitSyscall}
use Rattle.types.specs.declared.thread.WaitSyscall.TheVariants.{WaitSynchronization1, WaitSynchronizationN}
use Rattle.types.specs.Sync.{arbitration_from_raw}
use Rattle.types.specs.Thread.{wait_list}
use Rattle.svc.specs.declared.Registers.{Registers}
use Rattle.svc.specs.declared.Served.{Served}
use Rattle.svc.specs.Call.{with_objects, pair, resolved, create_object}
use Rattle.svc.specs.Threads as threads
use Rattle.svc.specs.Sync as sync
use Rattle.svc.specs.Timers as timers
use Rattle.svc.specs.Arbiter as arbiter
use Rattle.svc.specs.Waits as waits
use Rattle.svc.specs.Handles as handles
use Rattle.svc.specs.Table.{known?}
use Rattle.svc.specs.Dispatch.{words_read, in_window, outside?, runs?, too_many?, refusal, handle_call, signal_call, lock_call, call}

-- a word that is written has its place in the window of len bytes from base
abbrev pub word_fits : ℕ → ℕ → ℕ → Option ℕ → Bool
word_fits base len a None = true
word_fits base len a (Some v) = leb base a and leb (a + 4) (base + len)

abbrev Wordless : Served → Type 0
Wordless s = s.word ≡ None

either : (b : Bool) (x y : Served) → Wordless x → Wordless y → Wordless (pick b x y)
either true x y p q = p
either false x y p q = q

-- ---- each call but 0x22
exit-as : (c : Option ℕ) (k : Kernel) → Wordless (threads.exit_as c k)
exit-as None k = refl
exit-as (Some c) k = refl

priority_as : (t : Option ℕ) (k : Kernel) (p : ℕ) → Wordless (threads.set_priority_as t k p)
priority_as None k p = refl
priority_as (Some t) k p = refl

mutex_as : (x : KObject) (k : Kernel) (o : ℕ) → Wordless (sync.release_mutex_as x k o)
mutex_as (Free n) k o = refl
mutex_as (Thread t) k o = refl
mutex_as (Event e) k o = refl
mutex_as (Mutex m) k o = refl
mutex_as (Semaphore s) k o = refl
mutex_as (Timer t) k o = refl
mutex_as (AddressArbiter a) k o = refl
mutex_as Process k o = refl
mutex_as ResourceLimit k o = refl

semaphore_as : (x : KObject) (k : Kernel) (o c : ℕ) → Wordless (sync.release_semaphore_as x k o c)
semaphore_as (Free n) k o c = refl
semaphore_as (Thread t) k o c = refl
semaphore_as (Event e) k o c = refl
semaphore_as (Mutex m) k o c = refl
semaphore_as (Semaphore s) k o c = refl
semaphore_as (Timer t) k o c = refl
semaphore_as (AddressArbiter a) k o c = refl
semaphore_as Process k o c = refl
semaphore_as ResourceLimit k o c = refl

timer_as : (x : KObject) (k : Kernel) (o a b tick : ℕ) → Wordless (timers.set_timer_as x k o a b tick)
timer_as (Free n) k o a b tick = refl
timer_as (Thread t) k o a b tick = refl
timer_as (Event e) k o a b tick = refl
timer_as (Mutex m) k o a b tick = refl
timer_as (Semaphore s) k o a b tick = refl
timer_as (Timer t) k o a b tick = refl
timer_as (AddressArbiter x) k o a b tick = refl
timer_as Process k o a b tick = refl
timer_as ResourceLimit k o a b tick = refl

unless : (k : Kernel) (c : ℕ) (os : List ℕ) (all : Bool) (nanos tick : ℕ) (s : Option WaitSyscall)
    → Wordless (waits.wait_unless k c os all nanos tick s)
unless k c os all nanos tick s = either (eqb nanos 0) _ _ refl refl

wait1-as : (c : Option ℕ) (k : Kernel) (o nanos tick : ℕ) → Wordless (waits.wait1_as c k o nanos tick)
wait1-as None k o nanos tick = refl
wait1-as (Some c) k o nanos tick =
    either (is_signaled k.threads (object_at k.objects o) c) _ _ refl
    (unless k c (o ∷ []) false nanos tick (Some WaitSynchronization1))

take_at_lem : (i : Option ℕ) (k : Kernel) (c : ℕ) (os : List ℕ) (all : Bool) (nanos tick : ℕ)
    → Wordless (waits.take_at i k c os all nanos tick)
take_at_lem None k c os all nanos tick = unless k c os all nanos tick (Some WaitSynchronizationN)
take_at_lem (Some i) k c os all nanos tick = refl

wait_n_as : (c : Option ℕ) (k : Kernel) (os : List ℕ) (all : Bool) (nanos tick : ℕ)
    → Wordless (waits.wait_nas c k os all nanos tick)
wait_n_as None k os all nanos tick = refl
wait_n_as (Some c) k os all nanos tick = take_at_lem (satisfied_at k.threads k.objects c all os) k c os all nanos tick

module _ (k : Kernel) (r : Registers) (tick : ℕ) where
  exits : Wordless (threads.exit_thread k)
  unfolding threads.exit_thread
  exits = exit-as k.current_thread k

  sets-priority : Wordless (threads.set_thread_priority k r)
  unfolding threads.set_thread_priority
  sets-priority = priority_as (threads.resolve_thread k r.r0) k r.r1

  releases_mutex : Wordless (sync.release_mutex k r)
  unfolding sync.release_mutex
  releases_mutex =
      let x : Resolved = resolved k r.r0 in
      mutex_as (object_at x.store x.object.0) (with_objects k x.store) x.object.0

  releases_semaphore : Wordless (sync.release_semaphore k r)
  unfolding sync.release_semaphore
  releases_semaphore =
      let x : Resolved = resolved k r.r1 in
      semaphore_as (object_at x.store x.object.0) (with_objects k x.store) x.object.0 r.r2

  sets_timer : Wordless (timers.set_timer k r tick)
  unfolding timers.set_timer
  sets_timer =
      let c : Kernel = timers.caught_up k tick in
      let x : Resolved = resolved c r.r0 in
      timer_as (object_at x.store x.object.0) (with_objects c x.store) x.object.0 (timers.not_below (pair r.r2 r.r3)) (timers.not_below (pair r.r1 r.r4)) tick

  waits-1 : Wordless (waits.wait_synchronization1 k r tick)
  unfolding waits.wait_synchronization1
  waits-1 =
      let c : Kernel = timers.caught_up k tick in
      let x : Resolved = resolved c r.r0 in
      either (eqb x.object.0 0) _ _ refl (wait1-as c.current_thread (with_objects c x.store) x.object.0 (pair r.r2 r.r3) tick)

  waits-n : (hs : List ℕ) → Wordless (waits.wait_synchronization_n k r hs tick)
  unfolding waits.wait_synchronization_n
  waits-n hs =
      let c : Kernel = timers.caught_up k tick in
      let os : List ℕ = waits.resolve_all c.current_thread c.handles c.objects hs in
      let s : ObjectStore = waits.resolve_store c.current_thread c.handles c.objects hs in
      either (contains os 0) _ _ refl (wait_n_as c.current_thread (with_objects c s) os (not (eqb r.r3 0)) (pair r.r0 r.r4) tick)

-- ---- 0x22 of kind 0 or of an unknown kind
arbitrates : (k : Kernel) (r : Registers) (word tick : ℕ) (n : ℕ) → (n ≡ 0) ⊎ (4 < n) → Wordless (arbiter.arbitrate_by (arbitration_from_raw n) k r word tick)
arbitrates k r word tick n (inl e) = rw (eq-eqb n 0 e) (either (eqb (resolved k r.r0).object.0 0) _ _ refl refl)
arbitrates k r word tick n (inr h) =
    rw (ne_eqb n 0 (λ e. omega (arith, e, h)), ne_eqb n 1 (λ e. omega (arith, e, h)), ne_eqb n 2 (λ e. omega (arith, e, h)), ne_eqb n 3 (λ e. omega (arith, e, h)), ne_eqb n 4 (λ e. omega (arith, e, h)))

arbitrates-none : (k : Kernel) (r : Registers) (word tick : ℕ) → (r.r2 ≡ 0) ⊎ (4 < r.r2) → Wordless (arbiter.arbitrate_address k r word tick)
unfolding arbiter.arbitrate_address
arbitrates-none k r word tick h = arbitrates k r word tick r.r2 h

reads_none : (r : Registers) → words_read 0x22 r ≡ 0 → (r.r2 ≡ 0) ⊎ (4 < r.r2)
unfolding ◌and◌
reads_none r e = go (leb 1 r.r2) (leb r.r2 4) refl refl e
  where
    go : (b c : Bool) → leb 1 r.r2 ≡ b → leb r.r2 4 ≡ c → ◌≡◌ {A = ℕ} (pick (b and c) 1 0) 0 → (r.r2 ≡ 0) ⊎ (4 < r.r2)
    go true true p q z = absurd (omega (arith, z))
    go true false p q z = inr (leb-false r.r2 4 q)
    go false c p q z = inl (omega (arith, leb-false 1 r.r2 p))

-- ---- a call without a word to read writes none
when : (b : Bool) (x y : Served) → (b ≡ true → Wordless x) → Wordless y → Wordless (pick b x y)
when true x y p q = p refl
when false x y p q = q

module _ (n : ℕ) (k : Kernel) (r : Registers) (words : List ℕ) (tick : ℕ) (q : eqb n 0x22 ≡ true → Wordless (arbiter.arbitrate_address k r (get_or words 0 0) tick)) where
  handles-none : Wordless (handle_call n k r words tick)
  unfolding arbiter.create_address_arbiter create_object handles.close_handle handles.duplicate_handle
  handles-none =
      either (eqb n 0x21) _ _ refl
      (when (eqb n 0x22) _ _ q
      (either (eqb n 0x23) _ _ refl
      (either (eqb n 0x24) _ _ (waits-1 k r tick)
      (either (eqb n 0x25) _ _ (waits-n k r tick words)
      (either (eqb n 0x27) _ _ (either (eqb (resolved k r.r1).object.0 0) _ _ refl refl) refl)))))

  signals-none : Wordless (signal_call n k r words tick)
  unfolding create_object sync.create_event sync.signal_event sync.clear_event timers.create_timer timers.cancel_timer timers.clear_timer
  signals-none =
      either (eqb n 0x17) _ _ refl
      (either (eqb n 0x18) _ _ (either (eqb (resolved k r.r0).object.0 0) _ _ refl refl)
      (either (eqb n 0x19) _ _ (either (eqb (resolved k r.r0).object.0 0) _ _ refl refl)
      (either (eqb n 0x1A) _ _ refl
      (either (eqb n 0x1B) _ _ (sets_timer k r tick)
      (either (eqb n 0x1C) _ _ refl
      (either (eqb n 0x1D) _ _ refl handles-none))))))

  locks_none : Wordless (lock_call n k r words tick)
  unfolding create_object sync.create_mutex sync.create_semaphore
  locks_none =
      either (eqb n 0x13) _ _ refl
      (either (eqb n 0x14) _ _ (releases_mutex k r tick)
      (either (eqb n 0x15) _ _ refl
      (either (eqb n 0x16) _ _ (releases_semaphore k r tick) signals-none)))

  call_none : Wordless (call n k r words tick)
  unfolding call threads.create_thread threads.sleep_thread
  call_none =
      either (eqb n 0x08) _ _ refl
      (either (eqb n 0x09) _ _ (exits k r tick)
      (either (eqb n 0x0A) _ _ refl
      (either (eqb n 0x0C) _ _ (sets-priority k r tick) locks_none)))

pub word_none : (n : ℕ) (k : Kernel) (r : Registers) (words : List ℕ) (tick : ℕ) → words_read n r ≡ 0
    → (call n k r words tick).word ≡ None
word_none n k r words tick e = call_none n k r words tick quiet
  where
    quiet : eqb n 0x22 ≡ true → Wordless (arbiter.arbitrate_address k r (get_or words 0 0) tick)
    quiet t = arbitrates-none k r (get_or words 0 0) tick (reads_none r (subst (λ (m : ℕ). words_read m r ≡ 0) (eqb-true n 0x22 t) e))

-- ---- the questions answered
pub few : (number : ℕ) (r : Registers) → too_many? number r ≡ false → words_read number r ≤ wait_list
unfolding too_many? ◌and◌
few number r e = go (eqb number 0x25) (eqb number 0x22 and (leb 1 r.r2 and leb r.r2 4)) e
  where
    go : (b c : Bool) → (b and ltb wait_list r.r2) ≡ false → pick b r.r2 (pick c 1 0) ≤ wait_list
    go true c p = ltb-false wait_list r.r2 p
    go false true p = omega arith
    go false false p = omega arith

pub room : (base len number : ℕ) (r : Registers) → outside? base len number r ≡ false → (words_read number r ≡ 0 → ⊥)
    → (base ≤ r.r1) × (r.r1 + 4 * words_read number r ≤ base + len)
unfolding outside?
room base len number r e z = go (in_window base len r.r1 (words_read number r)) refl (rw (ne_eqb (words_read number r) 0 z) at e)
  where
    go : (w : Bool) → in_window base len r.r1 (words_read number r) ≡ w → ◌≡◌ {A = Bool} (pick w false true) false
        → (base ≤ r.r1) × (r.r1 + 4 * words_read number r ≤ base + len)
    go true p q =
        let s = and-true _ _ (and-true _ _ p).1 in
        (leb-true base r.r1 s.0, leb-true (r.r1 + 4 * words_read number r) (base + len) s.1)
    go false p q = false-true (sym q)

has-place : (base len a : ℕ) (w : Option ℕ) → base ≤ a → a + 4 ≤ base + len → word_fits base len a w ≡ true
has-place base len a None g h = refl
has-place base len a (Some v) g h = true-and _ _ (le-leb base a g) (le-leb (a + 4) (base + len) h)

-- the word that a call writes is one that question 6 asked for
pub word_fits_lem : (base len number : ℕ) (k : Kernel) (r : Registers) (words : List ℕ) (tick : ℕ) → outside? base len number r ≡ false
    → word_fits base len r.r1 (call number k r words tick).word ≡ true
word_fits_lem base len number k r words tick e = go (eqb (words_read number r) 0) refl
  where
    go : (b : Bool) → eqb (words_read number r) 0 ≡ b → word_fits base len r.r1 (call number k r words tick).word ≡ true
    go true p = ap (λ (w : Option ℕ). word_fits base len r.r1 w) (word_none number k r words tick (eqb-true _ 0 p))
    go false p =
        let h = room base len number r e (eqb-false _ 0 p) in
        has-place base len r.r1 (call number k r words tick).word h.0 (omega (arith, h.1, eqb-false (words_read number r) 0 p))

pub asked : (base len number : ℕ) (r : Registers) (k : Kernel) → refusal base len number r k ≡ 0
    → (too_many? number r ≡ false) × (outside? base len number r ≡ false)
unfolding refusal
asked base len number r k e = go (known? number) (runs? k) (too_many? number r) (outside? base len number r) e
  where
    go : (a b c d : Bool) → ◌≡◌ {A = ℕ} (pick a (pick b (pick c 5 (pick d 6 0)) 4) 3) 0 → (c ≡ false) × (d ≡ false)
    go false b c d z = absurd (omega (arith, z))
    go true false c d z = absurd (omega (arith, z))
    go true true true d z = absurd (omega (arith, z))
    go true true false true z = absurd (omega (arith, z))
    go true true false false z = (refl, refl)
