use mathlib.Core.Path.{◌∙◌}
use Rattle.block.specs.Block.{dec_block}
use Rattle.release.specs.Encoded.{encoded-head}
use Rattle.release.proofs.Released.{freed}
use Rattle.release.proofs.free_slot.Goals as goal

pub returns : goal.returns
returns c = let b = c.args.block.now in
    let k = dec_block b in
    rw (c.put_head.ensures, c.put_slot.ensures)
    (freed _ k c.args.o.0 c.get_head-head.result (c.get_head-head.ensures ∙ encoded-head b c.requires.encoded) c.args.old c.requires.value c.head_of.result c.head_of.ensures c.free_records-free.result c.free_records-free.ensures.value c.free_records-free.ensures.holds)
