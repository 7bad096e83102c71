-- One turn of a loop that asks a test at each number, from the first to the last. Assumes nothing.
use Rattle.std.specs.Prelude.{◌≡◌, Bool, true, false, ℕ, zero, suc, ◌+◌, ◌-◌, ◌<◌}
use Rattle.std.proofs.Common.{ap, ◌∙◌, inl, inr, add-one, arith}
use Rattle.laws.specs.Logic.{true-and, and_no, and-false, lt-cases}
use Rattle.laws.specs.Numbers.{all_to, all_below}

-- at each number from 1 to n
module _ (f : ℕ → Bool) where
  pub all-more : (i : ℕ) → all_to i f ≡ true → f (i + 1) ≡ true → all_to (i + 1) f ≡ true
  unfolding all_to
  all-more i e h = rw add-one (true-and (f (suc i)) _ (rw add-one at h) e)

  pub all-fails : (n i : ℕ) → i < n → f (i + 1) ≡ false → all_to n f ≡ false
  unfolding all_to
  all-fails zero i h e = absurd (omega arith)
  all-fails (suc n) i h e =
      elim (lt-cases i n) [
        | inl p ↦ rw (all-fails n i p e) (and-false (f (suc n)))
        | inr p ↦ let z : suc n ≡ i + 1 = omega arith in and_no _ _ (rw z e)
      ]

-- at each number below n
module _ (f : ℕ → Bool) (i : ℕ) where
  back : i + 1 - 1 ≡ i
  back = omega arith

  pub below-more : all_below i f ≡ true → f i ≡ true → all_below (i + 1) f ≡ true
  below-more e h = all-more (λ k. f (k - 1)) i e (ap f back ∙ h)

  pub below-fails : (n : ℕ) → i < n → f i ≡ false → all_below n f ≡ false
  below-fails n h e = all-fails (λ k. f (k - 1)) n i h (ap f back ∙ e)
