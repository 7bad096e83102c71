use mathlib.Core.Path.{ap, ◌∙◌}
use lib.Dec.{ltb}
use Rattle.codec.specs.Layout.{dec_as}
use Rattle.block.specs.Block.{dec_block}
use Rattle.lent.specs.Operations.{out_of_handles?}
use Rattle.outcome.proofs.out_of_handles.Goals as goal

pub returns : goal.returns
unfolding out_of_handles? dec_block dec_as
returns c = c.out_of_handles.ensures ∙ ap (ltb 0xFFFF8000) c.get32.ensures
