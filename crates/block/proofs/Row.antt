-- A row of writes into a list, each from where the one before it ended. Assumes nothing.
use mathlib.Core.Path.{◌≡◌, refl, sym, ap, ◌∙◌}
use mathlib.Core.Bool.{true}
use mathlib.Core.List.{List, [], ◌++◌}
use Prim.Native.Nat.{ℕ, ◌+◌, ◌*◌, ◌≤◌}
use native.Mathlib.Omega.{arith}
use lib.Dec.{leb}
use lib.ListN.{length, length-append}
use borrow.Author.Tests.{leb-true}
use Rattle.codec.specs.Bytes.{over}
use Rattle.codec.specs.Layout.{enc_all}
use Rattle.codec.proofs.Laws.{over_none, over-next, over-all}
use Rattle.codec.proofs.Rows.{length-enc_all}

-- c is b, of N bytes, with the n bytes xs written over its first
pub record Row (b : List ℕ) (N n : ℕ) (xs c : List ℕ) : Type 0 where
  pub room : length b ≡ N
  pub size : length xs ≡ n
  pub same : c ≡ over b 0 xs

-- nothing written
pub start : {b : List ℕ} {N : ℕ} → length b ≡ N → Row b N 0 [] b
start {b} e = record { room = e; size = refl; same = over_none b 0 }

-- one write more, of m bytes
pub next : {b c d xs : List ℕ} {N n : ℕ} (ys : List ℕ) (m : ℕ) → Row b N n xs c → length ys ≡ m → leb (n + m) N ≡ true → d ≡ over c n ys
    → Row b N (n + m) (xs ++ ys) d
next {b} {c} {d} {xs} {N} {n} ys m r l f e =
    let h : n + m ≤ N = leb-true _ _ f in
    let k : 0 + n + length ys ≤ length b = omega (arith, r.room) in
    let z : 0 + n ≡ n = omega arith in
    record {
      room = r.room;
      size = rw (length-append, r.size, l);
      same = e ∙ rw r.same (rw z at (over-next b 0 n xs ys r.size k));
    }

-- all of it written
pub whole : {b c xs : List ℕ} {N : ℕ} → Row b N N xs c → c ≡ xs
whole {b} {c} {xs} r = r.same ∙ over-all b xs (r.size ∙ sym r.room)

-- the bytes of n records of one size
pub length-all : {A : Type 0} (enc : A → List ℕ) (size : ℕ) → ((x : A) → length (enc x) ≡ size) → (n : ℕ) (xs : List A) → length xs ≡ n
    → length (enc_all enc xs) ≡ n * size
length-all enc size sized n xs e = length-enc_all enc size sized xs ∙ ap (λ (k : ℕ). k * size) e
