-- Places of a list of words, and of a list of objects. Assumes nothing.
use Rattle.std.proofs.lemmas.Grind.{common_steps}
use Rattle.laws.specs.Logic.{pick_yes, pick_no, and_yes, and_no, or_yes, or_no}
use mathlib.Core.Path.{◌≡◌, ◌∙◌}
use mathlib.Core.List.{List, [], ◌∷◌}
use Prim.Native.Nat.{ℕ, ◌+◌, ◌≤◌, ◌<◌}
use native.Mathlib.Numerals.{add-one}
use lib.ListN.{length, drop, get_or, length-map, drop_of_length-le, get_or-map}
use lib.Seq.{drop-cons}
use Rattle.units.specs.declared.ObjectId.{ObjectId}
use Rattle.sound.specs.View.{ids}

-- the rest of a list from a place on
pub words-next : (l : List ℕ) (i : ℕ) → i < length l → drop i l ≡ get_or l i 0 ∷ drop (i + 1) l
words-next l i h = drop-cons l i 0 h ∙ rw add-one

pub words-end : (l : List ℕ) (i : ℕ) → length l ≤ i → drop i l ≡ []
words-end l i h = drop_of_length-le l h

pub ids-next : (l : List ObjectId) (i : ℕ) → i < length l → drop i (ids l) ≡ (get_or l i (record { 0 = 0 })).0 ∷ drop (i + 1) (ids l)
ids-next l i h =
    let m : i < length (ids l) = simp length-map h in
    words-next (ids l) i m ∙ rw (get_or-map (λ (o : ObjectId). o.0) l i (record { 0 = 0 }))

pub ids-end : (l : List ObjectId) (i : ℕ) → length l ≤ i → drop i (ids l) ≡ []
ids-end l i h = let e : length (ids l) ≤ i = simp length-map h in words-end (ids l) i e

pub ruleset steps = (common_steps, pick_yes, pick_no, words-next, words-end)

pub ruleset cases = (common_steps, and_yes, and_no, or_yes, or_no)
