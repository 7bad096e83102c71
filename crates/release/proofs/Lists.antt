-- The objects of a list, in order. Assumes nothing.
use Rattle.std.specs.Prelude.{◌≡◌, List, [], ◌∷◌, ℕ, ◌+◌, ◌<◌, ◌≤◌, length}
use Rattle.std.proofs.Common.{get_or, drop, add-one, ◌∙◌}
use Rattle.std.proofs.Math.ListN.{length-map, get_or-map, drop_of_length-le}
use Rattle.std.proofs.Math.Seq.{drop-cons}
use Rattle.units.specs.declared.ObjectId.{ObjectId}
use Rattle.sound.specs.View.{ids}

-- the objects of a list from a place on
pub list-next : (l : List ObjectId) (i : ℕ) → i < length l → drop i (ids l) ≡ (get_or l i (record { 0 = 0 })).0 ∷ drop (i + 1) (ids l)
list-next l i h =
    let m : i < length (ids l) = simp length-map h in
    drop-cons (ids l) i 0 m ∙ rw (get_or-map (λ (o : ObjectId). o.0) l i (record { 0 = 0 }), add-one)

pub list-all : (l : List ObjectId) (i : ℕ) → length l ≤ i → drop i (ids l) ≡ []
list-all l i h = let e : length (ids l) ≤ i = simp length-map h in drop_of_length-le (ids l) e
