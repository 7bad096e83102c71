use Rattle.codec.proofs.Laws.{part_over}
use Rattle.block.specs.Block.{enc_head}
use Rattle.block.proofs.Sizes.{length-enc_head}
use Rattle.rows.specs.Rows.{head_put}
use Rattle.rows.proofs.write.put_head.Goals as goal

pub returns : goal.returns
unfolding head_put
returns c = let a = c.args in
    rw c.put_head.ensures (part_over a.b.now (enc_head a.h) 0 128 (length-enc_head a.h))
