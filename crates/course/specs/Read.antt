-- The call table hides none of the registers that the words of the demand look at.
use Rattle.std.specs.Prelude.{◌≡◌, not, List, [], ◌∷◌, map, ℕ, Some}
use Rattle.std.proofs.Math.Path.{refl, ap}
use Rattle.std.proofs.Math.Bool.{Bool, true, false}
use Rattle.std.proofs.Math.Dec.{eqb}
use Rattle.std.proofs.Common.{eqb-true}
use Rattle.laws.specs.Logic.{pick, ◌and◌, ◌or◌}
use Rattle.types.specs.declared.kernel.Kernel.{Kernel}
use Rattle.svc.specs.declared.Registers.{Registers}
use Rattle.svc.specs.Table.{table, row_in, row_of}
use Rattle.svc.specs.Dispatch.{given}
use Rattle.demand.specs.Words.{calls, wide, objects, signal, asks_for, wait_nanos, timed_wait?, gives?, target, resets?}

-- ---- by number
pick-read : {A : Type 0} (t : Bool) (a b c d : A) → (t ≡ true → a ≡ c) → b ≡ d → pick t a b ≡ pick t c d
pick-read true a b c d e f = e refl
pick-read false a b c d e f = f

and-read : (t a b : Bool) → (t ≡ true → a ≡ b) → t and a ≡ t and b
unfolding ◌and◌
and-read true a b e = e refl
and-read false a b e = refl

module _ (number : ℕ) (r : Registers) where
  pub nanos-read : wait_nanos number (given number r) ≡ wait_nanos number r
  unfolding wait_nanos row_of row_in table
  nanos-read =
      pick-read (eqb number 0x0A) _ _ _ _ (λ e. ap (λ (m : ℕ). wide (given m r).r0 (given m r).r1) (eqb-true number 0x0A e))
      (pick-read (eqb number 0x22) _ _ _ _ (λ e. ap (λ (m : ℕ). wide (given m r).r4 (given m r).r5) (eqb-true number 0x22 e))
      (pick-read (eqb number 0x24) _ _ _ _ (λ e. ap (λ (m : ℕ). wide (given m r).r2 (given m r).r3) (eqb-true number 0x24 e))
      (pick-read (eqb number 0x25) _ _ _ _ (λ e. ap (λ (m : ℕ). wide (given m r).r0 (given m r).r4) (eqb-true number 0x25 e)) refl)))

  pub timed_read : timed_wait? number (given number r) ≡ timed_wait? number r
  unfolding timed_wait? row_of row_in table
  timed_read =
      ap (λ (q : Bool). eqb number 0x0A or (eqb number 0x24 or (eqb number 0x25 or q)))
      (and-read (eqb number 0x22) _ _ (λ e. ap (λ (m : ℕ). eqb (given m r).r2 3 or eqb (given m r).r2 4) (eqb-true number 0x22 e)))

  pub asks_read : (words : List ℕ) (name : ℕ → ℕ) → asks_for number (given number r) words name ≡ asks_for number r words name
  unfolding row_of row_in table
  asks_read words name =
      pick-read (eqb number 0x0A) _ _ _ _ (λ e. refl)
      (pick-read (eqb number 0x22) _ _ _ _ (λ e. ap (λ (m : ℕ). signal (Some (given m r).r1)) (eqb-true number 0x22 e))
      (pick-read (eqb number 0x24) _ _ _ _ (λ e. ap (λ (m : ℕ). objects false (name (given m r).r0 ∷ [])) (eqb-true number 0x24 e))
      (pick-read (eqb number 0x25) _ _ _ _ (λ e. ap (λ (m : ℕ). objects (not (eqb (given m r).r3 0)) (map name words)) (eqb-true number 0x25 e)) refl)))

  module _ (words : List ℕ) (tick i : ℕ) (k : Kernel) where
    pub gives-read : gives? i (calls number (given number r) words tick) k ≡ gives? i (calls number r words tick) k
    unfolding row_of row_in table ◌and◌
    gives-read = and-read (eqb number 0x22) _ _ (λ e. ap (λ (m : ℕ). gives_at (given m r)) (eqb-true number 0x22 e))
      where
        gives_at : Registers → Bool
        gives_at x = gives? i (calls 0x22 x words tick) k

    pub resets-read : resets? i (calls number (given number r) words tick) k ≡ resets? i (calls number r words tick) k
    unfolding row_of row_in table ◌or◌ ◌and◌
    resets-read = go (eqb number 0x1B) (eqb number 0x1C) refl refl
      where
        go : (p q : Bool) → eqb number 0x1B ≡ p → eqb number 0x1C ≡ q → (p or q) and eqb (target k (given number r)) i ≡ (p or q) and eqb (target k r) i
        go true q e f = ap (λ (m : ℕ). true and eqb (target k (given m r)) i) (eqb-true number 0x1B e)
        go false true e f = ap (λ (m : ℕ). true and eqb (target k (given m r)) i) (eqb-true number 0x1C f)
        go false false e f = refl
