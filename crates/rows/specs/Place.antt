-- The place of a handle as an index. Assumes nothing.
use Rattle.std.specs.Prelude.{◌≡◌, cond, Bool, true, false, ℕ, ◌≤◌, ◌<◌, ltb, Option, Some, None}
use Rattle.std.proofs.Common.{refl}
use borrow.Author.Tests.{ltb-true, ltb-false}

-- none past the last entry
abbrev pub index_of : ℕ → Option ℕ
index_of n = cond (ltb n 256) (Some n) None

some_place : (n i : ℕ) (t : Bool) → ltb n 256 ≡ t → Some i ≡ cond t (Some n) None → (i ≡ n) × (n < 256)
some_place n i true e h = (cc, ltb-true n 256 e)
some_place n i false e h = absurd (cc)

pub index_some : (n i : ℕ) → Some i ≡ index_of n → (i ≡ n) × (n < 256)
index_some n i h = some_place n i (ltb n 256) refl h

no_place : (n : ℕ) (t : Bool) → ltb n 256 ≡ t → None ≡ cond t (Some n) None → 256 ≤ n
no_place n true e h = absurd (cc)
no_place n false e h = ltb-false n 256 e

pub index_none : (n : ℕ) → None ≡ index_of n → 256 ≤ n
index_none n h = no_place n (ltb n 256) refl h
