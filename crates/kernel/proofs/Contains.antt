-- Whether a list has an object, as `any` tells it. Assumes nothing.
use Rattle.std.specs.Prelude.{◌≡◌, refl, Bool, true, false, List, [], ◌∷◌, ℕ, eqb, ◌||◌}
use Rattle.std.specs.List.{list_any}
use Rattle.laws.specs.Logic.{◌or◌}
use Rattle.units.specs.declared.ObjectId.{ObjectId}
use Rattle.sound.specs.View.{ids}
use Rattle.kernel.specs.NextEvent.{contains}

pub any-contains : (l : List ObjectId) (o : ℕ) → list_any (λ (x : ObjectId). eqb x.0 o) l ≡ contains (ids l) o
unfolding contains ◌or◌
any-contains [] o = refl
any-contains (x ∷ l) o = rw (any-contains l o) (go (eqb x.0 o) (contains (ids l) o))
  where
    go : (a b : Bool) → a || b ≡ a or b
    go true b = refl
    go false b = refl
