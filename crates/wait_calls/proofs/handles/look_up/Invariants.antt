use Rattle.block.specs.Block.{dec_block}
use Rattle.wait_calls.proofs.Looked.{Looking}
use Rattle.wait_calls.proofs.handles.look_up.Given as goal

abbrev pub invariant-loop-i : goal.invariant-loop-i
invariant-loop-i l = Looking (dec_block l.block) l.handles l.l l.unknown l.i
