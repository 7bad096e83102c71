use lib.ListN.{drop}
use Rattle.block.specs.Block.{dec_block}
use Rattle.sound.specs.View.{ids}
use Rattle.wait_calls.proofs.Holding.{Holding}
use Rattle.wait_calls.proofs.begin_wait.hold_list.Given as goal

abbrev pub invariant-loop-o : goal.invariant-loop-o
invariant-loop-o l = Holding (dec_block l.initial.block) (ids l.list) l.block (drop l.o-index (ids l.list))
