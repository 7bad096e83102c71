use Rattle.std.proofs.Common.{drop}
use Rattle.block.specs.Block.{dec_block}
use Rattle.sound.specs.View.{ids}
use Rattle.take.proofs.Taken.{Taking}
use Rattle.take.proofs.take_list.Given as goal

abbrev pub invariant-loop-o : goal.invariant-loop-o
invariant-loop-o l = Taking (dec_block l.initial.block) (ids l.list) l.w l.block (drop l.o-index (ids l.list))
