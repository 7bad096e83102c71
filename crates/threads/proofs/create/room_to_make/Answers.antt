use Rattle.std.proofs.Common.{◌≡◌, Bool, ap, ◌∙◌, rules}
use lib.Dec.{leb}
use borrow.Author.Tests.{le-leb, lt-leb}
use Rattle.threads.proofs.create.room_to_make.Goals.{then-id-ge32, else-id-ge32}
use Rattle.laws.specs.Logic.{◌or◌}
use Rattle.codec.specs.Layout.{dec_as}
use Rattle.types.specs.Refusal.{unless_found}
use Rattle.block.specs.Block.{dec_block}
use Rattle.outcome.specs.Findings.{found_of}
use Rattle.threads.proofs.create.room_to_make.Goals as goal

pub returns : goal.returns
unfolding dec_block dec_as ◌or◌
returns c =
    let n : c.if-none.crowded ≡ (c.no_slot-none.result or leb 256 c.get32-count.result) = search rules in
    let f : c.if-id-ge32.room ≡ (leb 32 c.args.id or c.if-none.crowded) = elim c.if-id-ge32.branch [
      | then-id-ge32 w ↦ rw (w.room-is, le-leb 32 c.args.id w.if-id-ge32.true)
      | else-id-ge32 w ↦ rw (w.room-is, lt-leb 32 c.args.id w.if-id-ge32.false)
    ] in
    let v : c.if-guest-ge4294967295.room ≡ (leb 4294967295 c.get32-guest.result or leb 0xFFFF8000 c.get32-next.result) = search rules in
    c.room.ensures
    ∙ (λ i. unless_found (found_of ((f ∙ ap (λ (x : Bool). leb 32 c.args.id or x) n) i) (v i)) tt)
    ∙ (λ i. unless_found
    (found_of (leb 32 (c.requires.id_value i) or (c.no_slot-none.ensures i or leb 256 (c.get32-count.ensures i)))
    (leb 4294967295 (c.get32-guest.ensures i) or leb 0xFFFF8000 (c.get32-next.ensures i))) tt)
