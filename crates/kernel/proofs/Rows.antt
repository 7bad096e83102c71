-- A loop that fills an array with cells in a row. Assumes nothing.
use mathlib.Core.Path.{◌≡◌, refl, ap, sym, ◌∙◌}
use mathlib.Core.List.{List, ◌∷◌, ◌++◌, append_assoc, append-nil}
use Prim.Native.Nat.{ℕ, suc, ◌+◌, ◌-◌, ◌≤◌, ◌<◌}
use native.Mathlib.Numerals.{add-one}
use native.Mathlib.Omega.{arith}
use lib.Dec.{eqb}
use lib.ListN.{length, set, take}
use lib.Seq.{take-suc-set, take_all}
use Rattle.laws.specs.Logic.{pick}
use Rattle.kernel.specs.Fresh.{in_row}

row_one : {A : Type 0} (cell : ℕ → A) (m k : ℕ) → in_row cell (suc m) k ≡ cell (pick (eqb m 0) 0 k) ∷ in_row cell m (k + 1)
unfolding in_row
row_one cell m k = refl

pub row_done : {A : Type 0} (cell : ℕ → A) (n : ℕ) (l : List A) (i k : ℕ) → n ≤ i → length l ≡ n → take i l ++ in_row cell (n - i) k ≡ in_row cell n 2 → l ≡ in_row cell n 2
unfolding in_row
row_done cell n l i k h e f =
    let a : n - i ≡ 0 = omega arith in
    sym (append-nil _ ∙ take_all i l (omega arith)) ∙ rw a at f

pub row_step : {A : Type 0} (cell : ℕ → A) (n : ℕ) (l : List A) (i : ℕ) → i < n → length l ≡ n → take i l ++ in_row cell (n - i) (i + 2) ≡ in_row cell n 2
    → take (i + 1) (set l i (cell (pick (eqb (n - 1 - i) 0) 0 (i + 2)))) ++ in_row cell (n - (i + 1)) (i + 1 + 2) ≡ in_row cell n 2
row_step cell n l i h e f =
    let a : n - i ≡ suc (n - 1 - i) = omega arith in
    let b : n - (i + 1) ≡ n - 1 - i = omega arith in
    let d : i + 1 + 2 ≡ i + 2 + 1 = omega arith in
    let k : i < length l = omega arith in
    rw (b, d, add-one i, take-suc-set l i _ k, append_assoc) (sym (ap (λ z. take i l ++ z) (row_one cell (n - 1 - i) (i + 2))) ∙ rw a at f)
