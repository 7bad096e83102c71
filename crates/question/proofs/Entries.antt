-- Entries of a block that are zero, as words and as handles. Assumes nothing.
use mathlib.Core.Path.{◌≡◌, refl, ap, sym, ◌∙◌}
use mathlib.Core.List.{List, [], ◌∷◌, ◌++◌}
use Prim.Native.Nat.{ℕ, zero, suc, ◌+◌, ◌-◌, ◌*◌, ◌≤◌}
use native.Mathlib.Nat.{add-zero, suc-mul, zero-mul}
use native.Mathlib.Omega.{arith}
use lib.Dec.{eqb}
use borrow.Author.Tests.{ne_eqb}
use lib.ListN.{length, take, drop, replicate, length-drop}
use lib.Seq.{drop-drop, take-add, take_all}
use Rattle.laws.specs.Logic.{◌and◌, and_assoc}
use Rattle.codec.specs.Bytes.{num, le, same}
use Rattle.codec.specs.Layout.{dec_all}
use Rattle.codec.proofs.Same.{same_append, same-cut, length_part}
use Rattle.block.specs.Table.{dec_entry}
use Rattle.sound.specs.Handles.{no_entries?}

-- the records of a table from n on
module _ {A : Type 0} (dec : List ℕ → A) (size : ℕ) where
  pub rows_drop : (m n : ℕ) (s : List ℕ) (at : ℕ) → n ≤ m → drop n (dec_all dec size m s at) ≡ dec_all dec size (m - n) s (at + n * size)
  unfolding dec_all
  rows_drop m zero s at h = let e : m - 0 ≡ m = omega arith in rw (e, zero-mul, add-zero)
  rows_drop zero (suc n) s at h = absurd (omega arith)
  rows_drop (suc m) (suc n) s at h =
      let e : suc m - suc n ≡ m - n = omega arith in
      let f : at + suc n * size ≡ at + size + n * size = rw (suc-mul n size) (omega arith) in
      rw (e, f) (rows_drop m n s (at + size) (omega arith))

-- numbers that say 0
zero-num : (xs : List ℕ) → same xs (replicate (length xs) 0) ≡ eqb (num xs) 0
unfolding same ◌and◌
zero-num [] = refl
zero-num (zero ∷ xs) = zero-num xs ∙ go (num xs)
  where
    go : (n : ℕ) → eqb n 0 ≡ eqb (0 + 256 * n) 0
    go zero = refl
    go (suc n) = ne_eqb (suc n) 0 (omega arith) ∙ sym (ne_eqb (0 + 256 * suc n) 0 (omega arith))
zero-num (suc x ∷ xs) = rw (ne_eqb (suc x) 0 (omega arith)) (sym (ne_eqb (suc x + 256 * num xs) 0 (omega arith)))

zero_word : (xs : List ℕ) → length xs ≡ 4 → same xs (replicate 4 0) ≡ eqb (num xs) 0
zero_word xs e = rw e at (zero-num xs)

zero-entry : (t : List ℕ) → length t ≡ 8 → same t (replicate 8 0) ≡ eqb (le 4 t 0) 0 and eqb (le 4 t 4) 0
zero-entry t e =
    let a : length (take 4 (drop 0 t)) ≡ 4 = length_part t 0 4 (omega arith) in
    let b : length (take 4 (drop 4 t)) ≡ 4 = length_part t 4 4 (omega arith) in
    let f : take 4 (drop 4 t) ≡ drop 4 t = take_all 4 (drop 4 t) (rw length-drop (omega arith)) in
    same-cut t (replicate 4 0) (replicate 4 0) 0 4 refl (omega arith)
    ∙ rw (zero_word (take 4 (drop 0 t)) a) (ap (λ (x : List ℕ). eqb (num (take 4 (drop 0 t))) 0 and same x (replicate 4 0)) (sym f) ∙ rw (zero_word (take 4 (drop 4 t)) b))

zeros_add : (m n : ℕ) → ◌≡◌ {A = List ℕ} (replicate (m + n) 0) (replicate m 0 ++ replicate n 0)
zeros_add zero n = let e : 0 + n ≡ n = omega arith in rw e
zeros_add (suc m) n = let e : suc m + n ≡ suc (m + n) = omega arith in rw (e, zeros_add m n)

-- n entries that are zero
pub none-zero : (n : ℕ) (s : List ℕ) (at : ℕ) → at + n * 8 ≤ length s → same (take (n * 8) (drop at s)) (replicate (n * 8) 0) ≡ no_entries? (dec_all dec_entry 8 n s at)
unfolding dec_all no_entries? dec_entry same
none-zero zero s at h = refl
none-zero (suc n) s at h =
    let k : suc n * 8 ≡ 8 + n * 8 = omega arith in
    let a : length (take 8 (drop at s)) ≡ 8 = length_part s at 8 (omega arith) in
    rw (k, take-add 8 (n * 8) (drop at s), drop-drop 8 at s, zeros_add 8 (n * 8))
    (same_append (take 8 (drop at s)) (replicate 8 0) (take (n * 8) (drop (at + 8) s)) (replicate (n * 8) 0) a
    ∙ rw (zero-entry (take 8 (drop at s)) a, none-zero n s (at + 8) (omega arith)) (sym (and_assoc _ _ _)))
