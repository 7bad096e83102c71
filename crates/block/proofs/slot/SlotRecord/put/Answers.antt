use mathlib.Core.Path.{refl, ap, ◌∙◌}
use mathlib.Core.List.{append_assoc}
use mir.Val.{bool_byte}
use Rattle.codec.specs.Bytes.{bytes}
use Rattle.codec.specs.Groups.{two_bytes, four_bytes}
use Rattle.codec.specs.declared.Two.{Two}
use Rattle.codec.specs.declared.Four.{Four}
use Rattle.codec.proofs.Laws.{length-bytes}
use Rattle.block.specs.declared.slot.ObjectWords.{ObjectWords}
use Rattle.block.specs.Slot.{enc_slot, enc_slot_words}
use Rattle.block.proofs.Row.{start, next, whole}
use Rattle.block.proofs.Sizes.{length_two, length-four}
use Rattle.block.proofs.slot.SlotRecord.put.Goals as goal

-- The words of the object and the two fields beside it, one after the other.

pub returns : goal.returns
unfolding enc_slot
returns c =
    let x = c.args.self in
    let o = c.object_words-w in
    let w = o.result in
    let u : Four = record { 0 = w.kind; 1 = x.refcount; 2 = bool_byte x.pulsed; 3 = w.a } in
    let v : Two = record { 0 = w.b; 1 = w.c } in
    let r1 = next (four_bytes u) 16 (start c.requires) (length-four u) refl c.put_four.ensures in
    let r2 = next (two_bytes v) 8 r1 (length_two v) refl c.put_two.ensures in
    let r3 = next (bytes 8 w.x) 8 r2 (length-bytes 8 w.x) refl c.put64.ensures in
    let r4 = next (bytes 8 w.y) 8 r3 (length-bytes 8 w.y) refl c.put64-2.ensures in
    whole r4 ∙ (simp append_assoc) ∙ ap (λ (k : ObjectWords). enc_slot_words k x.refcount (bool_byte x.pulsed)) o.ensures
