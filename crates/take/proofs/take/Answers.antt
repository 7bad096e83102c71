use Rattle.std.proofs.Common.{sym, ap, ◌∙◌}
use Rattle.std.specs.Prelude.{Bool}
use Rattle.laws.specs.Logic.{pick}
use Rattle.types.specs.Refusal.{unless_found}
use Rattle.block.specs.Block.{dec_block}
use Rattle.take.proofs.Taken.{over-is, taken}
use Rattle.take.proofs.take.Goals as goal

pub returns : goal.returns
returns c =
    let b = c.args.block.now in
    let e = sym c.if-over_after.false ∙ over-is (dec_block b).objects c.args.o.0 c.slot_at-x.result c.slot_at-x.ensures c.over_after.result c.over_after.ensures in
    let g = taken b c.requires.block_value c.args.o.0 c.args.w c.requires.live (sym e) c.slot_at-x.result c.slot_at-x.ensures c.put_slot.new.b (rw (c.put_slot.ensures, c.acquired_slot.ensures)) in
    record {
      value = ap (λ (v : Bool). unless_found (pick v 8 0) tt) e;
      block_unchanged = λ q. cc;
      block_after = λ _. g.0;
      block_after_2 = g.1;
    }
