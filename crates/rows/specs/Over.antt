-- One record of a row of records anew, inside a longer list. Assumes nothing.
use Rattle.std.specs.Prelude.{◌≡◌, take, drop, set}
use Rattle.std.proofs.Common.{sym, ◌∙◌, add-zero, zero-mul, suc-mul, arith, length-append, take_at, drop_at}
use Rattle.std.proofs.Math.Path.{ap}
use mathlib.Core.List.{List, [], ◌∷◌, ◌++◌, append_assoc}
use Prim.Native.Nat.{ℕ, zero, suc, ◌+◌, ◌*◌, ◌<◌}
use Rattle.std.proofs.Math.ListN.{length}
use Rattle.codec.specs.Bytes.{over}
use Rattle.codec.specs.Layout.{enc_all}

-- a part anew, of the same length
pub over-at : (p y x e : List ℕ) (at size : ℕ) → length p ≡ at → length y ≡ size → length x ≡ size → over (p ++ (y ++ e)) at x ≡ p ++ (x ++ e)
over-at p y x e at size lp ly lx =
    let t : take at (p ++ (y ++ e)) ≡ p = take_at p (y ++ e) at lp in
    let d : drop (at + length x) (p ++ (y ++ e)) ≡ e =
    ap (drop (at + length x)) (sym (append_assoc p y e)) ∙ drop_at (p ++ y) e (at + length x) (rw (length-append, lp, ly, lx)) in
    λ i. t i ++ (x ++ d i)

-- record i anew
module _ {A : Type 0} (enc : A → List ℕ) (size : ℕ) (sized : (x : A) → length (enc x) ≡ size) where
  pub replace : (p q : List ℕ) (at : ℕ) (l : List A) (i : ℕ) (x : A) → length p ≡ at → i < length l
      → over (p ++ (enc_all enc l ++ q)) (at + i * size) (enc x) ≡ p ++ (enc_all enc (set l i x) ++ q)
  unfolding enc_all
  replace p q at [] i x e h = absurd (omega arith)
  replace p q at (y ∷ ys) zero x e h =
      let z : at + 0 * size ≡ at = rw (zero-mul, add-zero) in
      rw (z, append_assoc (enc y) (enc_all enc ys) q, append_assoc (enc x) (enc_all enc ys) q)
      (over-at p (enc y) (enc x) (enc_all enc ys ++ q) at size e (sized y) (sized x))
  replace p q at (y ∷ ys) (suc i) x e h =
      let z : at + suc i * size ≡ at + size + i * size = rw (suc-mul i size) (omega arith) in
      let l : length (p ++ enc y) ≡ at + size = rw (length-append, e, sized y) in
      rw (z, append_assoc (enc y) (enc_all enc ys) q, ← append_assoc p (enc y) (enc_all enc ys ++ q))
      (replace (p ++ enc y) q (at + size) ys i x l (omega arith)
      ∙ append_assoc p (enc y) (enc_all enc (set ys i x) ++ q) ∙ ap (λ (t : List ℕ). p ++ t) (sym (append_assoc (enc y) (enc_all enc (set ys i x)) q)))
