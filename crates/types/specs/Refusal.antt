-- The numbers of refusals.
use Rattle.std.specs.Prelude.{◌≡◌, refl, Bool, true, false, cond, ℕ, eqb, Result, Ok, Err}
use Rattle.std.proofs.Common.{arith, sym, ◌∙◌, ap}
use borrow.Author.Tests.{eqb-true, eq-eqb, ne_eqb}
use Rattle.types.specs.declared.refusal.Refusal.{Refusal}
use Rattle.types.specs.declared.refusal.Refusal.TheVariants.{Length, Unsound, UnknownCall, NoThread, TooManyHandles}
use Rattle.types.specs.declared.refusal.Refusal.TheVariants.{OutsideWindow, Full, Overflow}

abbrev pub refusal_number : Refusal → ℕ
refusal_number Length = 1
refusal_number Unsound = 2
refusal_number UnknownCall = 3
refusal_number NoThread = 4
refusal_number TooManyHandles = 5
refusal_number OutsideWindow = 6
refusal_number Full = 7
refusal_number Overflow = 8

-- the refusal of a number; any number but 1 to 7 is 8's
abbrev pub refusal_of : ℕ → Refusal
refusal_of n =
    cond (eqb n 1) Length
    (cond (eqb n 2) Unsound
    (cond (eqb n 3) UnknownCall
    (cond (eqb n 4) NoThread
    (cond (eqb n 5) TooManyHandles
    (cond (eqb n 6) OutsideWindow
    (cond (eqb n 7) Full Overflow))))))

-- what was found: 0 for nothing, else the number of the refusal
abbrev pub found_in : {A : Type 0} → Result A Refusal → ℕ
found_in (Ok x) = 0
found_in (Err r) = refusal_number r

-- x, or the refusal that a number says
abbrev pub unless_found : {A : Type 0} → ℕ → A → Result A Refusal
unless_found n x = cond (eqb n 0) (Ok x) (Err (refusal_of n))

pub refusal-back : (r : Refusal) → refusal_of (refusal_number r) ≡ r
refusal-back Length = refl
refusal-back Unsound = refl
refusal-back UnknownCall = refl
refusal-back NoThread = refl
refusal-back TooManyHandles = refl
refusal-back OutsideWindow = refl
refusal-back Full = refl
refusal-back Overflow = refl

-- what is refused is found
pub refusal-some : (r : Refusal) → refusal_number r ≡ 0 → ⊥
refusal-some Length e = omega arith
refusal-some Unsound e = omega arith
refusal-some UnknownCall e = omega arith
refusal-some NoThread e = omega arith
refusal-some TooManyHandles e = omega arith
refusal-some OutsideWindow e = omega arith
refusal-some Full e = omega arith
refusal-some Overflow e = omega arith

-- where nothing is refused nothing is found
pub unless-ok : {A : Type 0} (n : ℕ) (x y : A) → unless_found n x ≡ Ok y → n ≡ 0
unless-ok {A = A} n x y e = go (eqb n 0) refl e
  where
    go : (t : Bool) → eqb n 0 ≡ t → cond t (Ok x) (Err (refusal_of n)) ≡ Ok y → n ≡ 0
    go true z u = eqb-true n 0 z
    go false z u = cc

-- what is refused does not depend on the value
pub unless-err : {A B : Type 0} (n : ℕ) (x : A) (y : B) (r : Refusal) → unless_found n x ≡ Err r
    → unless_found n y ≡ Err r
unless-err {A = A} {B = B} n x y r e = go (eqb n 0) e
  where
    go : (t : Bool) → cond t (Ok x) (Err (refusal_of n)) ≡ Err r → cond t (Ok y) (Err (refusal_of n)) ≡ Err r
    go true u = cc
    go false u = cc

pub unless-none : {A : Type 0} (n : ℕ) (x : A) → n ≡ 0 → unless_found n x ≡ Ok x
unless-none n x e = rw (eq-eqb n 0 e)
