-- `arbitrate_address` keeps a state sound.
use Rattle.std.specs.Prelude.{◌≡◌, refl, Bool, true, false, ℕ, ◌≤◌, ◌<◌, eqb, Option, Some, None}
use Rattle.std.proofs.Common.{inl, inr, arith}
use Rattle.std.proofs.lemmas.Bool.{eqb-false}
use Rattle.laws.specs.Logic.{pick}
use Rattle.types.specs.declared.sync.ArbitrationType.{ArbitrationType}
use Rattle.types.specs.declared.sync.ArbitrationType.TheVariants.{Signal, WaitIfLessThan, DecrementAndWaitIfLessThan, WaitIfLessThanWithTimeout, DecrementAndWaitIfLessThanWithTimeout}
use Rattle.types.specs.declared.kernel.Kernel.{Kernel}
use Rattle.types.specs.Sync.{arbitration_from_raw}
use Rattle.sound.specs.Sound.{Sound}
use Rattle.soundness.specs.Fits.{Word}
use Rattle.soundness.specs.Whole.{Parts, sound-parts, parts-sound}
use Rattle.passing.specs.Sleeps.{Unlisted, runs_unlisted}
use Rattle.svc.specs.declared.Registers.{Registers}
use Rattle.svc.specs.declared.Served.{Served}
use Rattle.svc.specs.Call.{answers, invalid_handle, with_objects, pair, resolved}
use Rattle.svc.specs.Arbiter.{arbitrate_as, arbitrate_by, arbitrate_address}
use Rattle.svc.specs.Dispatch.{runs?}
use Rattle.calling.specs.Resolves.{resolved-parts, resolved-slot}
use Rattle.calling.specs.Call.{RegistersFit, Clear, Accepted}
use Rattle.calling.specs.Threads.{runs-current}
use Rattle.parking.specs.Wakes.{signal_address-parts}
use Rattle.parking.specs.Parks.{wait_below-parts, wait_below-full, wait_below-answer}

-- ---- each kind, with an object
module _ (k : Kernel) (o a value word nanos tick : ℕ) where
  module _ (z : 0 < o) (l : o ≤ 128) (w : Word a) (u : Unlisted k.threads k.current_thread) (p : Parts k) where
    as_parts : (kind : ArbitrationType) → (arbitrate_as kind k o a value word nanos tick).kernel.overflow ≡ false → (arbitrate_as kind k o a value word nanos tick).kernel.objects.full ≡ false
        → Parts (arbitrate_as kind k o a value word nanos tick).kernel
    as_parts Signal v e = signal_address-parts k o a value z l p
    as_parts WaitIfLessThan v e = wait_below-parts WaitIfLessThan k o a value word nanos tick w u p v e
    as_parts DecrementAndWaitIfLessThan v e = wait_below-parts DecrementAndWaitIfLessThan k o a value word nanos tick w u p v e
    as_parts WaitIfLessThanWithTimeout v e = wait_below-parts WaitIfLessThanWithTimeout k o a value word nanos tick w u p v e
    as_parts DecrementAndWaitIfLessThanWithTimeout v e = wait_below-parts DecrementAndWaitIfLessThanWithTimeout k o a value word nanos tick w u p v e

  -- the finding sticks
  as_full : (kind : ArbitrationType) → (arbitrate_as kind k o a value word nanos tick).kernel.objects.full ≡ false → k.objects.full ≡ false
  as_full Signal e = e
  as_full WaitIfLessThan e = wait_below-full WaitIfLessThan k o a value word nanos tick e
  as_full DecrementAndWaitIfLessThan e = wait_below-full DecrementAndWaitIfLessThan k o a value word nanos tick e
  as_full WaitIfLessThanWithTimeout e = wait_below-full WaitIfLessThanWithTimeout k o a value word nanos tick e
  as_full DecrementAndWaitIfLessThanWithTimeout e = wait_below-full DecrementAndWaitIfLessThanWithTimeout k o a value word nanos tick e

  as_answer : (kind : ArbitrationType) → (arbitrate_as kind k o a value word nanos tick).answer ≡ 0
  as_answer Signal = refl
  as_answer WaitIfLessThan = wait_below-answer WaitIfLessThan k o a value word nanos tick
  as_answer DecrementAndWaitIfLessThan = wait_below-answer DecrementAndWaitIfLessThan k o a value word nanos tick
  as_answer WaitIfLessThanWithTimeout = wait_below-answer WaitIfLessThanWithTimeout k o a value word nanos tick
  as_answer DecrementAndWaitIfLessThanWithTimeout = wait_below-answer DecrementAndWaitIfLessThanWithTimeout k o a value word nanos tick

-- ---- the handle is resolved; an unknown one is refused
module _ (kind : ArbitrationType) (k : Kernel) (r : Registers) (word tick : ℕ) where
  abbrev served : Bool → Served
  served b =
      pick b
      (answers invalid_handle (with_objects k (resolved k r.r0).store))
      (arbitrate_as kind (with_objects k (resolved k r.r0).store) (resolved k r.r0).object.0 r.r1 r.r3 word (pair r.r4 r.r5) tick)

  served-parts : (b : Bool) → eqb (resolved k r.r0).object.0 0 ≡ b → RegistersFit r → Unlisted k.threads k.current_thread → Parts k → Clear (served b).kernel → Parts (served b).kernel
  served-parts true q f u p c = resolved-parts k p r.r0 c.store_full
  served-parts false q f u p c =
      let h : ℕ = r.r0 in
      let n = eqb-false (resolved k h).object.0 0 q in
      let z : 0 < (resolved k h).object.0 = omega arith in
      let e : (resolved k h).store.full ≡ false = as_full (with_objects k (resolved k h).store) (resolved k h).object.0 r.r1 r.r3 word (pair r.r4 r.r5) tick kind c.store_full in
      as_parts (with_objects k (resolved k h).store) (resolved k h).object.0 r.r1 r.r3 word (pair r.r4 r.r5) tick z (resolved-slot k p h e z) f.r1 u (resolved-parts k p h e) kind c.overflow c.store_full

  served-answers : (b : Bool) → Accepted (served b).answer
  served-answers true = inr (omega arith, omega arith)
  served-answers false = inl (as_answer (with_objects k (resolved k r.r0).store) (resolved k r.r0).object.0 r.r1 r.r3 word (pair r.r4 r.r5) tick kind)

-- ---- an unknown kind is refused before that
by_parts : (kind : Option ArbitrationType) (k : Kernel) (r : Registers) (word tick : ℕ) → RegistersFit r
    → Unlisted k.threads k.current_thread → Parts k
    → Clear (arbitrate_by kind k r word tick).kernel → Parts (arbitrate_by kind k r word tick).kernel
by_parts None k r word tick f u p c = p
by_parts (Some kind) k r word tick f u p c = served-parts kind k r word tick
    (eqb (resolved k r.r0).object.0 0) refl f u p c

by_answers : (kind : Option ArbitrationType) (k : Kernel) (r : Registers) (word tick : ℕ)
    → Accepted (arbitrate_by kind k r word tick).answer
by_answers None k r word tick = inr (omega arith, omega arith)
by_answers (Some kind) k r word tick = served-answers kind k r word tick (eqb (resolved k r.r0).object.0 0)

pub arbitrate_address-sound : (k : Kernel) (r : Registers) (word tick : ℕ) → RegistersFit r → runs? k ≡ true → Sound k → Clear (arbitrate_address k r word tick).kernel
    → Sound (arbitrate_address k r word tick).kernel
unfolding arbitrate_address
arbitrate_address-sound k r word tick f run s c =
    let p : Parts k = sound-parts k s in
    parts-sound (arbitrate_by (arbitration_from_raw r.r2) k r word tick).kernel (by_parts (arbitration_from_raw r.r2) k r word tick f (runs_unlisted k p k.current_thread (runs-current k run)) p c)

pub arbitrate_address-answers : (k : Kernel) (r : Registers) (word tick : ℕ) → Accepted (arbitrate_address k r word tick).answer
unfolding arbitrate_address
arbitrate_address-answers k r word tick = by_answers (arbitration_from_raw r.r2) k r word tick
