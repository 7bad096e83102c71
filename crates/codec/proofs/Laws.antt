-- Laws of little-endian numbers and of writing over a part of a list, over every width. Assumes nothing.
use mathlib.Core.Path.{◌≡◌, refl, sym, ap}
use mathlib.Core.List.{List, [], ◌∷◌, ◌++◌, append_assoc, append-nil}
use Prim.Native.Nat.{ℕ, zero, suc, ◌+◌, ◌*◌, ◌/◌, ◌%◌, ◌^◌, ◌≤◌, ◌<◌}
use native.Mathlib.Nat.{zero-add, add-zero, add_assoc, pow-suc, div-lt_iff_lt-mul}
use native.Mathlib.Omega.{arith}
use lib.ListN.{length, take, drop, get_or, length-append, length-take, length-drop, take-append-drop, drop_of_length-le}
use lib.Seq.{take_at, drop_at, drop-drop}
use Rattle.codec.specs.Bytes.{num, bytes, over}

pub length_over : (b : List ℕ) (at : ℕ) (xs : List ℕ) → at + length xs ≤ length b → length (over b at xs) ≡ length b
length_over b at xs h = simp (length-append, length-take, length-drop) (omega arith)

pub take-over : (b : List ℕ) (at : ℕ) (xs : List ℕ) → at ≤ length b → take (at + length xs) (over b at xs) ≡ take at b ++ xs
take-over b at xs h =
    rw (← append_assoc) (take_at (take at b ++ xs) _ (at + length xs) (simp (length-append, length-take) (omega arith)))

pub drop-over : (b : List ℕ) (at : ℕ) (xs : List ℕ) (n : ℕ) → at ≤ length b
    → drop (at + length xs + n) (over b at xs) ≡ drop (at + length xs + n) b
drop-over b at xs n h =
    let e : length (take at b ++ xs) ≡ at + length xs = simp (length-append, length-take) (omega arith) in
    rw (← append_assoc, ← drop-drop, drop_at (take at b ++ xs) (drop (at + length xs) b) (at + length xs) e, drop-drop)

-- a write that starts where the one before it ended
pub over-over : (b : List ℕ) (at : ℕ) (xs ys : List ℕ) → at + length xs + length ys ≤ length b
    → over (over b at xs) (at + length xs) ys ≡ over b at (xs ++ ys)
over-over b at xs ys h =
    let l : at ≤ length b = omega arith in
    rw (length-append, take-over b at xs l, drop-over b at xs (length ys) l, append_assoc, append_assoc, add_assoc)

-- the same, with the length of the first in hand
pub over-next : (b : List ℕ) (at n : ℕ) (xs ys : List ℕ) → length xs ≡ n → at + n + length ys ≤ length b
    → over (over b at xs) (at + n) ys ≡ over b at (xs ++ ys)
over-next b at n xs ys e h = rw (← e) (over-over b at xs ys (omega arith))

pub length-bytes : (n v : ℕ) → length (bytes n v) ≡ n
unfolding bytes
length-bytes zero v = refl
length-bytes (suc n) v = ap suc (length-bytes n (v / 256))

pub num-bytes : (n v : ℕ) → v < 256 ^ n → num (bytes n v) ≡ v
unfolding bytes
num-bytes zero v h = omega arith
num-bytes (suc n) v h =
    let l : v / 256 < 256 ^ n = (div-lt_iff_lt-mul {k = 256} (omega arith)).1 (rw pow-suc at h) in
    omega (arith, num-bytes n (v / 256) l)

pub bytes-num : (xs : List ℕ) → ((i : ℕ) → get_or xs i 0 < 256) → bytes (length xs) (num xs) ≡ xs
unfolding bytes
bytes-num [] h = refl
bytes-num (x ∷ xs) h =
    let l : x < 256 = h 0 in
    let m : (x + 256 * num xs) % 256 ≡ x = omega arith in
    let d : (x + 256 * num xs) / 256 ≡ num xs = omega arith in
    rw (m, d, bytes-num xs (λ i. h (suc i)))

-- nothing written
pub over_none : (b : List ℕ) (at : ℕ) → b ≡ over b at []
over_none b at = sym (rw add-zero (take-append-drop at b))

-- a whole list written over
pub over-all : (b xs : List ℕ) → length xs ≡ length b → over b 0 xs ≡ xs
over-all b xs e =
    let h : length b ≤ length xs = omega arith in
    rw (zero-add, drop_of_length-le b h, append-nil)

-- a part that was lent and came back
pub part_over : (b ys : List ℕ) (a k : ℕ) → length ys ≡ k → take a b ++ (ys ++ drop k (drop a b)) ≡ over b a ys
part_over b ys a k e = rw (drop-drop, e)
