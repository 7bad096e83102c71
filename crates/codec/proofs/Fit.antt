-- Widths and places: what bytes say fits, what is encoded is bytes, and what stands at a place of a list comes back. Assumes nothing.
use mathlib.Core.Path.{◌≡◌, refl, sym, ap, ◌∙◌}
use mathlib.Core.Bool.{Bool, true, false}
use mathlib.Core.List.{List, [], ◌∷◌, ◌++◌, append_assoc}
use Prim.Native.Nat.{ℕ, zero, suc, ◌+◌, ◌^◌, ◌/◌, ◌≤◌, ◌<◌}
use native.Mathlib.Nat.{add-zero, pow-suc, pow-zero}
use native.Mathlib.Omega.{arith}
use mir.Val.{bool_byte}
use lib.Dec.{eqb}
use lib.ListN.{length, take, drop, get_or, replicate, length-drop}
use lib.Seq.{take_at, drop_at, drop-drop, take-add, length-take-le}
use Rattle.laws.specs.All.{All}
use Rattle.codec.specs.Bytes.{num, bytes, le}
use Rattle.codec.specs.Layout.{enc_as, dec_as, enc_all, dec_all}
use Rattle.codec.proofs.Laws.{length-bytes, num-bytes, bytes-num}
use Rattle.codec.proofs.Back.{Fit, Bytes, bytes_part, dec_all-drop}

-- ---- what bytes say fits
num-lt : (w : ℕ) (s : List ℕ) → Bytes s → num (take w s) < 256 ^ w
num-lt zero s b = rw pow-zero (omega arith)
num-lt (suc w) [] b = rw pow-suc (omega (arith, num-lt w [] b))
num-lt (suc w) (x ∷ s) b = let h : num (take w s) < 256 ^ w = num-lt w s (λ i. b (suc i)) in rw pow-suc (omega (arith, b 0))

bytes_drop : (n : ℕ) (s : List ℕ) → Bytes s → Bytes (drop n s)
bytes_drop zero s b = b
bytes_drop (suc n) [] b = b
bytes_drop (suc n) (x ∷ s) b = bytes_drop n s (λ i. b (suc i))

pub le-lt : (w : ℕ) (s : List ℕ) (at : ℕ) → Bytes s → le w s at < 256 ^ w
le-lt w s at b = num-lt w (drop at s) (bytes_drop at s b)

-- values that fit, one after the other
infixr 20 ◌&◌
pub ◌&◌ : {A B : Type 0} → A → B → A × B
a & b = (a, b)

pub fit_dec : (ws s : List ℕ) (at : ℕ) → Bytes s → Fit ws (dec_as ws s at)
unfolding dec_as
fit_dec [] s at b = tt
fit_dec (w ∷ ws) s at b = (le-lt w s at b, fit_dec ws s (at + w) b)

-- one of the values that fit
pub fit_at : (ws vs : List ℕ) → Fit ws vs → (k : ℕ) → get_or vs k 0 < 256 ^ get_or ws k 0
fit_at [] [] f k = rw pow-zero (omega arith)
fit_at [] (v ∷ vs) f k = elim f [ ]
fit_at (w ∷ ws) [] f k = elim f [ ]
fit_at (w ∷ ws) (v ∷ vs) f zero = f.0
fit_at (w ∷ ws) (v ∷ vs) f (suc k) = fit_at ws vs f.1 k

pub all_dec : {A : Type 0} (P : A → Type 0) (dec : List ℕ → A) (size n : ℕ) (s : List ℕ) (at : ℕ) → ((t : List ℕ) → Bytes t → P (dec t)) → Bytes s
    → All P (dec_all dec size n s at)
unfolding dec_all
all_dec P dec size zero s at f b = tt
all_dec P dec size (suc n) s at f b = (f _ (bytes_part s at size b), all_dec P dec size n s (at + size) f b)

pub length-dec_all : {A : Type 0} (dec : List ℕ → A) (size n : ℕ) (s : List ℕ) (at : ℕ) → length (dec_all dec size n s at) ≡ n
unfolding dec_all
length-dec_all dec size zero s at = refl
length-dec_all dec size (suc n) s at = ap suc (length-dec_all dec size n s (at + size))

-- ---- what is encoded is bytes
pub bytes_append : (s t : List ℕ) → Bytes s → Bytes t → Bytes (s ++ t)
bytes_append [] t a b i = b i
bytes_append (x ∷ s) t a b zero = a 0
bytes_append (x ∷ s) t a b (suc i) = bytes_append s t (λ k. a (suc k)) b i

pub bytes-bytes : (n v : ℕ) → Bytes (bytes n v)
unfolding bytes
bytes-bytes zero v i = omega arith
bytes-bytes (suc n) v zero = omega arith
bytes-bytes (suc n) v (suc i) = bytes-bytes n (v / 256) i

pub bytes_zeros : (n : ℕ) → Bytes (replicate n 0)
bytes_zeros zero i = omega arith
bytes_zeros (suc n) zero = omega arith
bytes_zeros (suc n) (suc i) = bytes_zeros n i

pub bytes-enc_as : (ws vs : List ℕ) → Bytes (enc_as ws vs)
unfolding enc_as
bytes-enc_as [] vs = λ i. omega arith
bytes-enc_as (w ∷ ws) vs = bytes_append (bytes w (get_or vs 0 0)) (enc_as ws (drop 1 vs)) (bytes-bytes w (get_or vs 0 0)) (bytes-enc_as ws (drop 1 vs))

pub bytes-enc_all : {A : Type 0} (enc : A → List ℕ) (xs : List A) → ((x : A) → Bytes (enc x)) → Bytes (enc_all enc xs)
unfolding enc_all
bytes-enc_all enc [] f = λ i. omega arith
bytes-enc_all enc (x ∷ xs) f = bytes_append (enc x) (enc_all enc xs) (f x) (bytes-enc_all enc xs f)

-- ---- a flag
pub flag-back : (b : Bool) → eqb (bool_byte b) 1 ≡ b
flag-back true = refl
flag-back false = refl

pub flag-fits : (b : Bool) → bool_byte b < 256 ^ 4
flag-fits true = omega arith
flag-fits false = omega arith

-- ---- what stands at a place
-- past what stands there
pub drop-next : (s : List ℕ) (at m : ℕ) (xs post : List ℕ) → drop at s ≡ xs ++ post → length xs ≡ m → drop (at + m) s ≡ post
drop-next s at m xs post d l = sym (drop-drop m at s) ∙ ap (drop m) d ∙ drop_at xs post m l

-- a number
pub word_at : (w v : ℕ) (s : List ℕ) (at : ℕ) (post : List ℕ) → drop at s ≡ bytes w v ++ post → v < 256 ^ w → le w s at ≡ v
word_at w v s at post d h = rw (d, take_at (bytes w v) post w (length-bytes w v)) (num-bytes w v h)

-- the bytes of the number that stands there
pub word-whole : (w : ℕ) (s : List ℕ) (at : ℕ) → Bytes s → at + w ≤ length s → bytes w (le w s at) ≡ take w (drop at s)
word-whole w s at b h =
    let l : length (take w (drop at s)) ≡ w = length-take-le w (drop at s) (rw length-drop (omega arith)) in
    rw l at (bytes-num (take w (drop at s)) (bytes_part s at w b))

-- two parts that stand side by side
pub part_join : (s : List ℕ) (at m n : ℕ) → take m (drop at s) ++ take n (drop (at + m) s) ≡ take (m + n) (drop at s)
part_join s at m n = rw (take-add m n, drop-drop)

-- records
module _ {A : Type 0} (enc : A → List ℕ) (dec : List ℕ → A) (size : ℕ) (sized : (x : A) → length (enc x) ≡ size) where
  all_back : (n : ℕ) (xs : List A) (post : List ℕ) → length xs ≡ n → All (λ x. dec (enc x) ≡ x) xs → dec_all dec size n (enc_all enc xs ++ post) 0 ≡ xs
  unfolding dec_all enc_all
  all_back zero [] post e a = refl
  all_back zero (x ∷ xs) post e a = absurd (omega arith)
  all_back (suc n) [] post e a = absurd (omega arith)
  all_back (suc n) (x ∷ xs) post e a =
      let f : 0 + size ≡ size + 0 = omega arith in
      let i = all_back n xs post (omega arith) a.1 in
      rw (
        append_assoc,
        take_at (enc x) (enc_all enc xs ++ post) size (sized x),
        a.0,
        f,
        ← dec_all-drop enc dec size n (enc x ++ (enc_all enc xs ++ post)) size 0,
        drop_at (enc x) (enc_all enc xs ++ post) size (sized x),
        i,
      )

  pub all-at : (n : ℕ) (xs : List A) (s : List ℕ) (at : ℕ) (post : List ℕ) → drop at s ≡ enc_all enc xs ++ post → length xs ≡ n → All (λ x. dec (enc x) ≡ x) xs
      → dec_all dec size n s at ≡ xs
  all-at n xs s at post d e a =
      let z : at + 0 ≡ at = add-zero at in
      rw (← z, ← dec_all-drop enc dec size n s at 0, d) (all_back n xs post e a)
