-- The first n numbers of an array, by index and by cell. Assumes nothing.
use mathlib.Core.Path.{◌≡◌, refl}
use mathlib.Core.List.{List, [], ◌∷◌}
use Prim.Native.Nat.{ℕ, zero, suc, ◌≤◌, ◌<◌}
use native.Mathlib.Omega.{arith}
use lib.ListN.{length, get_or, take}
use Rattle.laws.specs.Count.{at}

pub take_short : (n : ℕ) (s : List ℕ) → length (take n s) ≤ n
take_short zero s = omega arith
take_short (suc n) [] = omega arith
take_short (suc n) (x ∷ s) = omega (arith, take_short n s)

pub take_get : (n : ℕ) (s : List ℕ) (i : ℕ) → i < n → get_or (take n s) i 0 ≡ get_or s i 0
take_get zero s i h = absurd (omega arith)
take_get (suc n) [] i h = refl
take_get (suc n) (x ∷ s) zero h = refl
take_get (suc n) (x ∷ s) (suc i) h = take_get n s i (omega arith)

pub take_cell : (n : ℕ) (s : List ℕ) (h : ℕ) → h ≤ n → at (take n s) h ≡ at s h
unfolding at
take_cell n s zero p = refl
take_cell n s (suc i) p = take_get n s i (omega arith)

pub take_long : (n : ℕ) (s : List ℕ) → n ≤ length s → n ≤ length (take n s)
take_long zero s h = omega arith
take_long (suc n) [] h = absurd (omega arith)
take_long (suc n) (x ∷ s) h = omega (arith, take_long n s (omega arith))
