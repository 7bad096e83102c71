use Rattle.block.specs.Block.{dec_block}
use Rattle.wait_calls.proofs.Opens.{Opening}
use Rattle.wait_calls.proofs.handles.open_list.Given as goal

abbrev pub invariant-loop-i : goal.invariant-loop-i
invariant-loop-i l = Opening (dec_block l.initial.block) l.handles l.block l.l l.i
