-- Laws of a record read where it lies, as sets. Assumes nothing.
use Rattle.std.proofs.lemmas.Grind.{common_steps}
use mathlib.Core.Path.{◌≡◌, refl}
use Prim.Native.Nat.{ℕ}
use lib.ListN.{get_or, get_or-eq_default}
use Rattle.types.specs.declared.object.HandleTable.{HandleTable}
use Rattle.object.specs.Handles.{no_entry, place_of, object_of}
use Rattle.tally.specs.Place.{slot-past, slot-some, index-slot}
use Rattle.codec.proofs.Fit.{length-dec_all}
use Rattle.block.specs.Tables.{row_at}
use Rattle.sound.specs.View.{slot_at-out, slot_at-pos}
use Rattle.object.proofs.Laws.{place_hit, place_miss, place_end}
use Rattle.rows.specs.Place.{index_some, index_none}

pub ruleset places = (common_steps, row_at, length-dec_all, place_hit, place_miss, place_end)

-- the object of a handle
pub object-at : (t : HandleTable) (h : ℕ) → object_of t h ≡ (get_or t.entries (place_of t.entries h) no_entry).object.0
unfolding object_of
object-at t h = refl

pub ruleset entries = (common_steps, object-at, row_at, length-dec_all, get_or-eq_default, index_some, index_none)

pub ruleset slots = (common_steps, row_at, length-dec_all, slot-past, slot-some, index-slot, slot_at-out, slot_at-pos)
