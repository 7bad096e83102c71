-- A chain, cell by cell.
use Rattle.std.specs.Prelude.{◌≡◌, refl, ◌≢◌, ◌⊎◌, List, [], ℕ, zero, suc, ◌-◌, ◌<◌, eqb, get_or, length}
use Rattle.std.proofs.Common.{inl, inr, arith}
use Rattle.laws.specs.Logic.{◌and◌, ◌or◌}
use Rattle.laws.specs.Count.{at}
use Rattle.laws.specs.StoreTest.{at_out}
use Rattle.laws.specs.Walk.{walk, walk-nil, walk-out, walk-go}
use Rattle.sound.specs.Records.{has?}

-- the cells numbered from 1
pub at-cell : (l : List ℕ) (r : ℕ) → r ≢ 0 → at l r ≡ get_or l (r - 1) 0
unfolding at
at-cell l zero p = absurd (p refl)
at-cell l (suc i) p = let e : suc i - 1 ≡ i = omega arith in rw e

pub at-none : (l : List ℕ) (r : ℕ) → (r ≡ 0) ⊎ ((r ≢ 0) × (length l < r)) → at l r ≡ 0
unfolding at
at-none l r (inl e) = rw e
at-none l r (inr p) = at_out l r p.1

-- where a walk ends, and a record of the walk with those after it
module _ (nx : List ℕ) (left h : ℕ) where
  pub walk-end : (h ≡ 0) ⊎ ((h ≢ 0) × (left ≡ 0)) → walk nx left h ≡ []
  walk-end (inl e) = walk-nil nx left h e
  walk-end (inr p) = walk-out nx left h p.1

  pub has-step : (ts ad : List ℕ) (t a : ℕ) → left ≢ 0 → h ≢ 0
      → has? ts ad t a (walk nx left h) ≡ (eqb (at ts h) t and eqb (at ad h) a)
      or has? ts ad t a (walk nx (left - 1) (at nx h))
  unfolding has?
  has-step ts ad t a p q = rw (walk-go nx left h p q)
