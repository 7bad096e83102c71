use mathlib.Core.Path.{◌≡◌}
use lib.ListN.{length, take}
use Rattle.block.specs.Block.{dec_block}
use Rattle.arbiter.specs.Marks.{parked_marks}
use Rattle.arbiter_calls.proofs.wake.parked_marks.Given as goal

abbrev pub invariant-loop-i : goal.invariant-loop-i
invariant-loop-i l = (length l.r ≡ 32) × (take l.i l.r ≡ parked_marks (take l.i (dec_block l.block).threads) l.a)
