-- Records of one size, compared with the encoding of what they decode to: one after the other, or all at once. Assumes nothing.
use Rattle.std.specs.Prelude.{◌≡◌, Bool, true, List, [], drop}
use Rattle.std.proofs.Math.Path.{sym}
use Rattle.std.proofs.Common.{◌∙◌, add-mul, add_comm, add_assoc, add-one, arith}
use Prim.Native.Nat.{ℕ, suc, ◌+◌, ◌*◌, ◌-◌, ◌≤◌, ◌<◌}
use Rattle.std.proofs.Math.Nat.{zero-mul, suc-mul, mul-le-mul_right}
use Rattle.std.proofs.Math.ListN.{length, take}
use Rattle.laws.specs.Logic.{◌and◌}
use Rattle.codec.specs.Bytes.{same}
use Rattle.codec.specs.Layout.{enc_all, dec_all}
use Rattle.codec.proofs.Back.{Bytes, bytes_part, enc_all_dec}
use Rattle.codec.proofs.Fit.{part_join}
use Rattle.codec.proofs.Same.{same_refl, same_append, length_part}

module _ {A : Type 0} (enc : A → List ℕ) (dec : List ℕ → A) (size : ℕ) where
  -- n records from at on
  unfoldable pub rows? : ℕ → List ℕ → ℕ → Bool
  rows? n s at = same (take (n * size) (drop at s)) (enc_all enc (dec_all dec size n s at))

  pub rows_end : (s : List ℕ) (at : ℕ) → rows? 0 s at ≡ true
  unfolding rows? enc_all dec_all
  rows_end s at = rw zero-mul (same_refl [])

  rows_next : ((x : A) → length (enc x) ≡ size) → (n : ℕ) (s : List ℕ) (at : ℕ) → at + suc n * size ≤ length s
      → rows? (suc n) s at ≡ same (take size (drop at s)) (enc (dec (take size (drop at s)))) and rows? n s (at + size)
  unfolding rows? enc_all dec_all
  rows_next sized n s at h =
      let t = take size (drop at s) in
      let l : length t ≡ size = length_part s at size (omega (arith, suc-mul n size)) in
      let e : suc n * size ≡ size + n * size = rw suc-mul (add_comm (n * size) size) in
      rw (e, ← part_join s at size (n * size))
      (same_append t (enc (dec t)) (take (n * size) (drop (at + size) s)) (enc_all enc (dec_all dec size n s (at + size))) (l ∙ sym (sized (dec t))))

  -- a turn of the loop that compares n records
  pub rows-turn : ((x : A) → length (enc x) ≡ size) → (n i : ℕ) (s : List ℕ) (at : ℕ) → i < n → at + n * size ≤ length s
      → rows? (n - i) s (at + i * size)
      ≡ same (take size (drop (at + i * size) s)) (enc (dec (take size (drop (at + i * size) s)))) and rows? (n - (i + 1)) s (at + (i + 1) * size)
  rows-turn sized n i s at h k =
      let m = n - (i + 1) in
      let e : n - i ≡ suc m = omega arith in
      let f : at + (i + 1) * size ≡ at + i * size + size = rw (add-one, suc-mul, add_assoc) in
      let g : n ≡ i + suc m = omega arith in
      let l : at + i * size + suc m * size ≤ length s = rw (add_assoc, ← add-mul i (suc m) size, ← g) k in
      rw (e, f) (rows_next sized m s (at + i * size) l)

  -- records whose bytes are always the encoding of what they say
  pub rows_all : ((t : List ℕ) → Bytes t → length t ≡ size → enc (dec t) ≡ t) → (n : ℕ) (s : List ℕ) (at : ℕ) → Bytes s → at + n * size ≤ length s
      → rows? n s at ≡ true
  unfolding rows?
  rows_all f n s at b h =
      let e = enc_all_dec enc dec size n s at (λ k l. f _ (bytes_part s (at + k * size) size b) (length_part s (at + k * size) size (omega (arith, suc-mul k size, mul-le-mul_right size l)))) in
      rw e (same_refl (take (n * size) (drop at s)))
