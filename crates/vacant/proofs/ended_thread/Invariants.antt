use Rattle.std.specs.Prelude.{◌≡◌, ◌-◌}
use Rattle.block.specs.Block.{dec_block}
use Rattle.thread.specs.Threads.{ended_from}
use Rattle.vacant.proofs.ended_thread.Given as goal

abbrev pub invariant-loop-i : goal.invariant-loop-i
invariant-loop-i l = ended_from (dec_block l.b) (l.n - l.i) l.i ≡ ended_from (dec_block l.b) l.n 0
