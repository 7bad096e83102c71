-- What a step of a count or of a walk does, and the laws by which one test after another is one. Assumes nothing.
use mathlib.Core.Path.{◌≡◌, refl}
use mathlib.Core.Bool.{Bool, true, false}
use mathlib.Core.List.{List, [], ◌∷◌}
use Prim.Native.Nat.{ℕ, ◌+◌, ◌<◌}
use lib.Dec.{ltb}
use lib.ListN.{length, get_or, set, drop}
use Rattle.std.proofs.lemmas.Grind.{common_steps}
use Rattle.laws.specs.Logic.{pick, pick_yes, pick_no, and_no, and_yes, and-false, or_no, or_yes}
use Rattle.laws.specs.Count.{at}
use Rattle.laws.specs.StoreTest.{at_out}
use Rattle.laws.specs.Walk.{walk-nil, walk-out}
use Rattle.laws.specs.Tally.{bump, tally, tally-more, tally-none}
use Rattle.units.specs.declared.ObjectId.{ObjectId}
use Rattle.sound.specs.View.{ids}
use Rattle.sound.specs.Tls.{held_if}
use Rattle.sound.specs.Records.{has?}
use Rattle.tally.specs.Lists.{name_of, names}
use Rattle.tally.specs.Chain.{at-cell, has-step}
use Rattle.tally.specs.Place.{index-slot, index-none, slot-some}

pub bump-is : (n : ℕ) (c : List ℕ) (o : ℕ)
    → bump n c o ≡ pick (ltb o n) (pick (ltb (get_or c o 0) 100000) (set c o (get_or c o 0 + 1)) c) c
unfolding bump
bump-is n c o = refl

pub tally_nil : (n : ℕ) (c : List ℕ) → tally n c [] ≡ c
unfolding tally
tally_nil n c = refl

pub tally_one : (n : ℕ) (c : List ℕ) (o : ℕ) → tally n c (o ∷ []) ≡ bump n c o
unfolding tally
tally_one n c o = refl

pub held_dead : (b : Bool) (s : ℕ) (l : List ℕ) → b ≡ true → held_if b s l ≡ l
held_dead b s l e = rw e

pub held_live : (b : Bool) (s : ℕ) (l : List ℕ) → b ≡ false → held_if b s l ≡ s ∷ l
held_live b s l e = rw e

pub has_none : (ts ad : List ℕ) (t a : ℕ) → has? ts ad t a [] ≡ false
unfolding has?
has_none ts ad t a = refl

pub at_zero : (l : List ℕ) (r : ℕ) → r ≡ 0 → at l r ≡ 0
unfolding at
at_zero l r e = rw e

pub ids_more : (n : ℕ) (l : List ObjectId) (i : ℕ) (c : List ℕ) → i < length l
    → tally n c (ids (drop i l)) ≡ tally n (bump n c (get_or l i (record { 0 = 0 })).0) (ids (drop (i + 1) l))
ids_more n l i c h = tally-more n (λ (o : ObjectId). o.0) l i (record { 0 = 0 }) c h

pub names_more : (n : ℕ) (l : List ObjectId) (i : ℕ) (c : List ℕ) → i < length l
    → tally n c (names (drop i l))
    ≡ tally n (bump n c (name_of (get_or l i (record { 0 = 0 })).0)) (names (drop (i + 1) l))
names_more n l i c h = tally-more n (λ (o : ObjectId). name_of o.0) l i (record { 0 = 0 }) c h

pub ruleset steps = (
  common_steps,
  pick_yes,
  pick_no,
  and_no,
  and_yes,
  and-false,
  or_no,
  or_yes,
  bump-is,
  tally_nil,
  tally_one,
  ids_more,
  names_more,
  tally-none,
  held_dead,
  held_live,
  walk-nil,
  walk-out,
  has_none,
  has-step,
  at_zero,
  at-cell,
  at_out,
  index-slot,
  index-none,
  slot-some,
)
