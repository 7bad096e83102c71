-- The least of two, and one turn of each loop. Assumes nothing.
use mathlib.Core.Path.{◌≡◌, refl, ap, sym, ◌∙◌}
use mathlib.Core.Logic.{◌≢◌}
use mathlib.Core.Bool.{Bool, true, false}
use mathlib.Core.List.{List, [], ◌∷◌}
use Prim.Native.Nat.{ℕ, zero, suc, ◌+◌, ◌-◌, ◌≤◌, ◌<◌, min}
use native.Mathlib.Omega.{arith}
use lib.Dec.{eqb}
use lib.ListN.{get_or, set}
use borrow.Author.Tests.{eq-eqb, ne_eqb}
use Rattle.std.proofs.Common.{inl, inr, lt-ltb, le-ltb}
use Rattle.laws.specs.Logic.{pick, lt-cases}
use Rattle.laws.specs.Count.{count}
use Rattle.types.specs.declared.kernel.Kernel.{Kernel}
use Rattle.sound.specs.Tls.{held}
use Rattle.thread.specs.Threads.{least, free_from, tls_slot}
use Rattle.thread.specs.Marks.{least-le, free_marked}

-- the library's minimum is the definitions'
pub min-least : (a b : ℕ) → min a b ≡ least a b
min-least a b = elim (lt-cases a b) [
  | inl h ↦ rw (lt-ltb a b h) (omega arith)
  | inr h ↦ rw (le-ltb a b h) (omega arith)
]

module _ (m : List ℕ) (n i : ℕ) where
  step : i < n → free_marked m (n - i) i ≡ pick (eqb (get_or m i 0) 0) i (free_marked m (n - (i + 1)) (i + 1))
  unfolding free_marked
  step h = let e : n - i ≡ suc (n - (i + 1)) = omega arith in rw e

  pub free_hit : i < n → get_or m i 0 ≡ 0 → free_marked m (n - i) i ≡ i
  free_hit h e = step h ∙ rw (eq-eqb (get_or m i 0) 0 e)

  pub free_miss : i < n → get_or m i 0 ≢ 0 → free_marked m (n - (i + 1)) (i + 1) ≡ free_marked m (n - i) i
  free_miss h e = sym (step h ∙ rw (ne_eqb (get_or m i 0) 0 e))

  pub free_end : n ≤ i → free_marked m (n - i) i ≡ i
  unfolding free_marked
  free_end h = let e : n - i ≡ 0 = omega arith in rw e

-- a slot that is looked for lies below the bound, or is the bound
pick-le : (b : Bool) (s x n : ℕ) → s ≤ n → x ≤ n → pick b s x ≤ n
pick-le true s x n h k = h
pick-le false s x n h k = k

free-le : (l : List ℕ) (n s : ℕ) → free_from l n s ≤ s + n
unfolding free_from
free-le l zero s = omega arith
free-le l (suc n) s = pick-le (eqb (count s l) 0) s (free_from l n (s + 1)) (s + suc n) (omega arith) (omega (arith, free-le l n (s + 1)))

pub tls-le : (k : Kernel) → tls_slot k ≤ 32
unfolding tls_slot
tls-le k = omega (arith, free-le (held k.threads) (least k.next_tls_slot 32) 0, least-le k.next_tls_slot 32)

-- a cell that is changed twice
pub set_again : {A : Type 0} (f : A → A) (d : A) (l : List A) (i : ℕ) (a : A) → set l i (f a) ≡ set (set l i a) i (f (get_or (set l i a) i d))
set_again f d [] i a = refl
set_again f d (x ∷ xs) zero a = refl
set_again f d (x ∷ xs) (suc i) a = ap (λ z. x ∷ z) (set_again f d xs i a)
