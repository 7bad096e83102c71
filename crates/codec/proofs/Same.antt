-- Lists compared: element by element, and a number at a time. Assumes nothing.
use mathlib.Core.Path.{◌≡◌, refl, ap, sym, ◌∙◌}
use mathlib.Core.Bool.{Bool, true, false}
use mathlib.Core.Logic.{◌≢◌}
use mathlib.Core.List.{List, [], ◌∷◌, ◌++◌}
use Prim.Native.Nat.{ℕ, zero, suc, ◌+◌, ◌≤◌}
use native.Mathlib.Nat.{add-zero}
use native.Mathlib.Omega.{arith}
use lib.Dec.{eqb}
use lib.ListN.{length, take, drop, replicate, length-drop, take-append-drop}
use lib.Seq.{length-take-le, drop-drop, take-take}
use borrow.Author.Tests.{eqb-true, eq-eqb}
use Rattle.laws.specs.Logic.{◌and◌, and-true, true-and, and_no, and_yes, and_assoc, false-true}
use Rattle.laws.specs.Test.{Test, t_as, t_same}
use Rattle.codec.specs.Bytes.{num, le, same}
use Rattle.codec.specs.Layout.{total, enc_as, dec_as}
use Rattle.codec.proofs.Laws.{bytes-num}
use Rattle.codec.proofs.Back.{Fit, Bytes, bytes_part, dec_as-drop, dec_as_enc, enc_as_dec}

pub same-eq : (xs ys : List ℕ) → same xs ys ≡ true → xs ≡ ys
unfolding same
same-eq [] [] e = refl
same-eq [] (y ∷ ys) e = false-true e
same-eq (x ∷ xs) [] e = false-true e
same-eq (x ∷ xs) (y ∷ ys) e = let a = and-true _ _ e in rw (eqb-true x y a.0, same-eq xs ys a.1)

pub same_refl : (xs : List ℕ) → same xs xs ≡ true
unfolding same
same_refl [] = refl
same_refl (x ∷ xs) = true-and _ _ (eq-eqb x x refl) (same_refl xs)

pub t-list : (xs ys : List ℕ) → Test (same xs ys) (xs ≡ ys)
t-list xs ys = record { yes = same-eq xs ys; has = λ e. rw e (same_refl ys) }

pub same_append : (xs ys us vs : List ℕ) → length xs ≡ length ys → same (xs ++ us) (ys ++ vs) ≡ same xs ys and same us vs
unfolding same ◌and◌
same_append [] [] us vs e = refl
same_append [] (y ∷ ys) us vs e = absurd (omega arith)
same_append (x ∷ xs) [] us vs e = absurd (omega arith)
same_append (x ∷ xs) (y ∷ ys) us vs e = rw (same_append xs ys us vs (omega arith)) (and_assoc (eqb x y) (same xs ys) (same us vs))

pub length_part : (s : List ℕ) (at n : ℕ) → at + n ≤ length s → length (take n (drop at s)) ≡ n
length_part s at n h = length-take-le n (drop at s) (rw length-drop (omega arith))

-- what stands at a place compared with two parts: each by itself
pub same-cut : (s xs ys : List ℕ) (at n : ℕ) → length xs ≡ n → at + n ≤ length s
    → same (drop at s) (xs ++ ys) ≡ same (take n (drop at s)) xs and same (drop (at + n) s) ys
same-cut s xs ys at n e h =
    let f : same (take n (drop at s) ++ drop n (drop at s)) (xs ++ ys) ≡ same (take n (drop at s)) xs and same (drop n (drop at s)) ys =
    same_append (take n (drop at s)) xs (drop n (drop at s)) ys (length_part s at n h ∙ sym e) in
    rw (take-append-drop n (drop at s), drop-drop n at s) at f

-- lists of bytes that say the same number are the same
num-eq : (xs ys : List ℕ) → Bytes xs → Bytes ys → length xs ≡ length ys → num xs ≡ num ys → xs ≡ ys
num-eq xs ys a b e f = sym (bytes-num xs a) ∙ rw (e, f) (bytes-num ys b)

same_as : (xs ys : List ℕ) (t : Bool) → same xs ys ≡ t → xs ≢ ys → same xs ys ≡ false
same_as xs ys true e n = absurd (n (same-eq xs ys e))
same_as xs ys false e n = e

module _ (a b : List ℕ) (at w : ℕ) (h : at + w ≤ length a) (k : at + w ≤ length b) (u : Bytes a) (v : Bytes b) where
  part_a : length (take w (drop at a)) ≡ w
  part_a = length_part a at w h

  part_b : length (take w (drop at b)) ≡ w
  part_b = length_part b at w k

  cut : same (drop at a) (drop at b) ≡ same (take w (drop at a)) (take w (drop at b)) and same (drop (at + w) a) (drop (at + w) b)
  cut = rw (take-append-drop w (drop at b), drop-drop w at b) at (same-cut a (take w (drop at b)) (drop w (drop at b)) at w part_b h)

  -- the same number at the same place
  pub same_more : le w a at ≡ le w b at → same (drop at a) (drop at b) ≡ same (drop (at + w) a) (drop (at + w) b)
  same_more e =
      let f : take w (drop at a) ≡ take w (drop at b) = num-eq _ _ (bytes_part a at w u) (bytes_part b at w v) (part_a ∙ sym part_b) e in
      cut ∙ and_yes _ _ (rw f (same_refl (take w (drop at b))))

  -- another number
  pub same-less : le w a at ≢ le w b at → same (drop at a) (drop at b) ≡ false
  same-less n = cut ∙ and_no _ _ (same_as _ _ (same (take w (drop at a)) (take w (drop at b))) refl (λ e. n (ap num e)))

-- fields compared as bytes, or as the numbers that they say
pub same_fields : (ws vs s : List ℕ) (at : ℕ) → Bytes s → at + total ws ≤ length s → Fit ws vs
    → same (take (total ws) (drop at s)) (enc_as ws vs) ≡ same (dec_as ws s at) vs
same_fields ws vs s at b h f =
    let post = drop (total ws) (drop at s) in
    let there : take (total ws) (drop at s) ≡ enc_as ws vs → dec_as ws s at ≡ vs = λ e.
    let z : at + 0 ≡ at = add-zero at in
    let d : drop at s ≡ enc_as ws vs ++ post = sym (take-append-drop (total ws) (drop at s)) ∙ ap (λ t. t ++ post) e in
    rw (← z, ← dec_as-drop ws s at 0, d) (dec_as_enc ws vs post f) in
    let back : dec_as ws s at ≡ vs → take (total ws) (drop at s) ≡ enc_as ws vs = λ e. sym (enc_as_dec ws s at b h) ∙ ap (enc_as ws) e in
    t_same _ _ (t-list (take (total ws) (drop at s)) (enc_as ws vs)) (t_as back there (t-list (dec_as ws s at) vs))

-- ---- a part, and zeros
part_of : (i w m : ℕ) (s : List ℕ) → i + w ≤ m → take w (drop i (take m s)) ≡ take w (drop i s)
part_of zero w m s h = take-take w m s (omega arith)
part_of (suc i) w zero s h = absurd (omega arith)
part_of (suc i) w (suc m) [] h = refl
part_of (suc i) w (suc m) (x ∷ s) h = part_of i w m s (omega arith)

-- a number that stands in a part
pub part_le : (s : List ℕ) (at m i w : ℕ) → i + w ≤ m → le w (take m (drop at s)) i ≡ le w s (at + i)
part_le s at m i w h = rw (part_of i w m (drop at s) h, drop-drop)

num_zeros : (w n : ℕ) → num (take w (replicate n 0)) ≡ 0
num_zeros zero n = refl
num_zeros (suc w) zero = refl
num_zeros (suc w) (suc n) = omega (arith, num_zeros w n)

pub le_zeros : (w n i : ℕ) → le w (replicate n 0) i ≡ 0
le_zeros w n zero = num_zeros w n
le_zeros w zero (suc i) = num_zeros w 0
le_zeros w (suc n) (suc i) = le_zeros w n i
