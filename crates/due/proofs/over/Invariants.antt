use mathlib.Core.Path.{◌≡◌}
use lib.ListN.{drop}
use Rattle.block.specs.Block.{dec_block}
use Rattle.pass.specs.Timers.{any_over}
use Rattle.due.proofs.over.Given as goal

abbrev pub invariant-loop-i : goal.invariant-loop-i
invariant-loop-i l = any_over l.tick.0 (drop l.i (dec_block l.b).objects.slots) ≡ any_over l.tick.0 (dec_block l.b).objects.slots
