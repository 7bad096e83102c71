use Rattle.block.specs.Block.{dec_block}
use Rattle.tries.proofs.Turns.{Trying}
use Rattle.tries.proofs.try_waits.Given as goal

abbrev pub invariant-loop-i : goal.invariant-loop-i
invariant-loop-i l = Trying (dec_block l.initial.block) l.tick.0 l.i l.block
