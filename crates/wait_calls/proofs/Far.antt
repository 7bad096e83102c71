-- Counts that are not near the end of their type fit after a wait has taken of them at each place of its list. Assumes nothing.
use Rattle.std.specs.Prelude.{◌||◌}
use Rattle.std.specs.List.{list_any}
use mathlib.Core.Path.{◌≡◌, refl, sym, ap, subst, ◌∙◌}
use mathlib.Core.Bool.{Bool, true, false}
use mathlib.Core.List.{List, [], ◌∷◌}
use mathlib.Core.Logic.{◌⊎◌, inl, inr}
use Prim.Native.Nat.{ℕ, zero, suc, ◌+◌, ◌-◌, ◌≤◌, ◌<◌}
use native.Mathlib.Omega.{arith}
use lib.ListN.{length, get_or}
use borrow.Author.Tests.{ne_eqb, lt-ltb, leb-false}
use Rattle.laws.specs.Logic.{pick, ◌and◌, ◌or◌, or-end, lt-cases}
use Rattle.laws.specs.All.{All, all_as, all_get}
use Rattle.units.specs.declared.ObjectId.{ObjectId}
use Rattle.types.specs.declared.object.KObject.{KObject}
use Rattle.types.specs.declared.object.KObject.TheVariants.{Free, Thread, Event, Mutex, Semaphore, Timer, AddressArbiter, Process, ResourceLimit}
use Rattle.types.specs.declared.sync.Semaphore as se
use Rattle.types.specs.declared.object.Slot.{Slot}
use Rattle.types.specs.declared.object.ObjectStore.{ObjectStore}
use Rattle.types.specs.Thread.{wait_list}
use Rattle.sound.specs.View.{ids, slot_at, object_at}
use Rattle.sound.specs.Objects.{ref_of, of_none}
use Rattle.object.specs.Slots.{with_object, content}
use Rattle.soundness.specs.Slots.{slot_cases}
use Rattle.pass.specs.Signal.{acquired, acquire_over, acquire, acquires}
use Rattle.wait_calls.specs.Near.{near, any_near, may_find}

-- n waits fit; a semaphore counts down from below 2147483648 through 0, then from 4294967295
abbrev pub Far : ℕ → KObject → Type 0
Far n (Free m) = Unit {0}
Far n (Thread u) = Unit {0}
Far n (Event e) = Unit {0}
Far n (Mutex m) = m.lock_count + n ≤ 4294967295
Far n (Semaphore s) = ((s.count < 2147483648) × (n ≤ 2147483647)) ⊎ ((2147483648 + n ≤ s.count) × (s.count < 4294967296))
Far n (Timer t) = Unit {0}
Far n (AddressArbiter a) = Unit {0}
Far n Process = Unit {0}
Far n ResourceLimit = Unit {0}

near-far : (x : KObject) → near x ≡ false → Far wait_list x
near-far (Free m) e = tt
near-far (Thread u) e = tt
near-far (Event v) e = tt
near-far (Mutex m) e = omega (arith, leb-false (4294967296 - wait_list) m.lock_count e)
near-far (Semaphore s) e = inl (omega (arith, leb-false 2147483648 s.count e), omega arith)
near-far (Timer t) e = tt
near-far (AddressArbiter a) e = tt
near-far Process e = tt
near-far ResourceLimit e = tt

-- ---- one wait of them
less_semaphore : (n : ℕ) (s : se.Semaphore) → Far (suc n) (Semaphore s) → Far n (Semaphore s)
less_semaphore n s (inl h) = inl (h.0, omega arith)
less_semaphore n s (inr h) = inr (omega arith, h.1)

far-less : (n : ℕ) (x : KObject) → Far (suc n) x → Far n x
far-less n (Free m) f = tt
far-less n (Thread u) f = tt
far-less n (Event v) f = tt
far-less n (Mutex m) f = omega arith
far-less n (Semaphore s) f = less_semaphore n s f
far-less n (Timer t) f = tt
far-less n (AddressArbiter a) f = tt
far-less n Process f = tt
far-less n ResourceLimit f = tt

fits_semaphore : (n : ℕ) (s : se.Semaphore) → Far (suc n) (Semaphore s) → acquire_over (Semaphore s) ≡ false
fits_semaphore n s (inl h) = ne_eqb s.count 2147483648 (λ z. omega arith)
fits_semaphore n s (inr h) = ne_eqb s.count 2147483648 (λ z. omega arith)

far-fits : (n : ℕ) (x : KObject) → Far (suc n) x → acquire_over x ≡ false
far-fits n (Free m) f = refl
far-fits n (Thread u) f = refl
far-fits n (Event v) f = refl
far-fits n (Mutex m) f = ne_eqb m.lock_count 4294967295 (λ z. omega arith)
far-fits n (Semaphore s) f = fits_semaphore n s f
far-fits n (Timer t) f = refl
far-fits n (AddressArbiter a) f = refl
far-fits n Process f = refl
far-fits n ResourceLimit f = refl

taken_semaphore : (n : ℕ) (s : se.Semaphore) (w : ℕ) → Far (suc n) (Semaphore s) → Far n (acquired (Semaphore s) w)
taken_semaphore n s w (inl h) = elim (lt-cases 0 s.count) [ inl p ↦ inl (omega arith, omega arith) | inr p ↦ inr (omega arith, omega arith) ]
taken_semaphore n s w (inr h) = inr (omega arith, omega arith)

far-taken : (n : ℕ) (x : KObject) (w : ℕ) → Far (suc n) x → Far n (acquired x w)
far-taken n (Free m) w f = tt
far-taken n (Thread u) w f = tt
far-taken n (Event v) w f = tt
far-taken n (Mutex m) w f = rw (lt-ltb m.lock_count 4294967295 (omega arith)) (omega arith)
far-taken n (Semaphore s) w f = taken_semaphore n s w f
far-taken n (Timer t) w f = tt
far-taken n (AddressArbiter a) w f = tt
far-taken n Process w f = tt
far-taken n ResourceLimit w f = tt

-- ---- objects without a count
pub near_fits : (x : KObject) → near x ≡ false → acquire_over x ≡ false
near_fits x e = far-fits (wait_list - 1) x (near-far x e)

-- what names a thread or the process
pub near-kept : (x : KObject) → (ref_of x ≡ of_none → ⊥) → near x ≡ false
near-kept (Free m) n = refl
near-kept (Thread u) n = refl
near-kept (Event e) n = refl
near-kept (Mutex m) n = absurd (n refl)
near-kept (Semaphore s) n = absurd (n refl)
near-kept (Timer t) n = refl
near-kept (AddressArbiter a) n = refl
near-kept Process n = refl
near-kept ResourceLimit n = refl

pub near_none : (s : ObjectStore) (o : ℕ) → o ≡ 0 → near (object_at s o) ≡ false
unfolding slot_at
near_none s o e = rw e

-- ---- a list
module _ (s : ObjectStore) (o w : ℕ) where
  taken-far : (n i : ℕ) → Far (suc n) (object_at s o) → Far (suc n) (object_at s i) → Far n (object_at (acquire s o w) i)
  unfolding acquire content
  taken-far n i f g = elim (slot_cases s.slots o (with_object (slot_at s.slots o) (acquired (object_at s o) w)) i) [
    | inl h ↦ subst (λ (y : Slot). Far n y.object) (sym h.1) (far-taken n (object_at s o) w f)
    | inr h ↦ subst (λ (y : Slot). Far n y.object) (sym h) (far-less n (object_at s i) g)
  ]

  over-same : (n : ℕ) → Far (suc n) (object_at s o) → (acquire s o w).overflow ≡ s.overflow
  unfolding acquire content
  over-same n f = ap (λ (b : Bool). s.overflow or b) (far-fits n (object_at s o) f) ∙ or-end s.overflow

acquires_fit : (os : List ℕ) (n : ℕ) (s : ObjectStore) (w : ℕ) → length os ≤ n → All (λ o. Far n (object_at s o)) os → (acquires s os w).overflow ≡ s.overflow
unfolding acquires
acquires_fit [] n s w h a = refl
acquires_fit (o ∷ os) zero s w h a = absurd (omega arith)
acquires_fit (o ∷ os) (suc n) s w h a =
    acquires_fit os n (acquire s o w) w (omega arith) (all_as (λ i. Far (suc n) (object_at s i)) (λ i. Far n (object_at (acquire s o w) i)) (λ i g. taken-far s o w n i a.0 g) os a.1)
    ∙ over-same s o w n a.0

-- what a wait on objects with such counts takes
pub taken-fits : (all : Bool) (os : List ℕ) (i : ℕ) (s : ObjectStore) (w : ℕ) → length os ≤ wait_list → All (λ o. near (object_at s o) ≡ false) os
    → (pick all (acquires s os w) (acquire s (get_or os i 0) w)).overflow ≡ s.overflow
taken-fits true os i s w h a = acquires_fit os wait_list s w h (all_as (λ o. near (object_at s o) ≡ false) (λ o. Far wait_list (object_at s o)) (λ o e. near-far (object_at s o) e) os a)
taken-fits false os i s w h a = over-same s (get_or os i 0) w (wait_list - 1) (near-far (object_at s (get_or os i 0)) (all_get (λ o. near (object_at s o) ≡ false) os i 0 (near_none s 0 refl) a))

-- where no copy is needed
pub finds_none : (s : ObjectStore) (os : List ℕ) (all fires known : Bool) → may_find s os all fires known ≡ false
    → ((all ≡ false) × ((fires ≡ false) × (known ≡ true))) ⊎ (any_near s os ≡ false)
unfolding ◌and◌ ◌or◌
finds_none s os true fires known e = inr e
finds_none s os false true known e = inr e
finds_none s os false false true e = inl (refl, (refl, refl))
finds_none s os false false false e = inr e

-- of a list of objects
pub any-near : (s : ObjectStore) (l : List ObjectId) → any_near s (ids l) ≡ list_any (λ (o : ObjectId). near (object_at s o.0)) l
unfolding any_near ◌or◌
any-near s [] = refl
any-near s (o ∷ os) = ap (λ (t : Bool). near (object_at s o.0) or t) (any-near s os) ∙ or-is (near (object_at s o.0)) _
  where
    or-is : (x y : Bool) → x or y ≡ x || y
    or-is true y = refl
    or-is false y = refl
