use Rattle.std.proofs.Common.{drop}
use Rattle.block.specs.Block.{dec_block}
use Rattle.sound.specs.View.{ids}
use Rattle.release.proofs.Released.{Releasing}
use Rattle.release.proofs.release_list.Given as goal

abbrev pub invariant-loop-o : goal.invariant-loop-o
invariant-loop-o l = Releasing (dec_block l.initial.block) (ids l.list) l.block (drop l.o-index (ids l.list))
