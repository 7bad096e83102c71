-- A list of objects in n places, the unused ones 0. Assumes nothing.
use Rattle.std.specs.Prelude.{◌≡◌, refl, List, [], ◌∷◌, ◌++◌, ℕ, zero, suc, ◌≤◌, ◌<◌, length, take, set}
use Rattle.std.proofs.Common.{ap, arith}
use Rattle.sound.specs.View.{ids}
use Rattle.pass.specs.Asks.{padded}

-- one place more
pub padded-more : (n : ℕ) (os : List ℕ) (o : ℕ) → length os < n → set (padded n os) (length os) (record { 0 = o }) ≡ padded n (os ++ (o ∷ []))
unfolding padded
padded-more zero os o h = absurd (omega arith)
padded-more (suc n) [] o h = refl
padded-more (suc n) (x ∷ xs) o h = ap (λ l. record { 0 = x } ∷ l) (padded-more n xs o (omega arith))

-- the first places are the objects
pub padded-first : (n : ℕ) (os : List ℕ) → length os ≤ n → take (length os) (ids (padded n os)) ≡ os
unfolding padded
padded-first n [] h = refl
padded-first zero (x ∷ xs) h = absurd (omega arith)
padded-first (suc n) (x ∷ xs) h = ap (λ l. x ∷ l) (padded-first n xs (omega arith))
