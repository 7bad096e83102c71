use mathlib.Core.Path.{◌≡◌}
use lib.ListN.{drop}
use Rattle.block.specs.Block.{dec_block}
use Rattle.pass.specs.Timers.{timer_due}
use Rattle.due.proofs.timer_due.Given as goal

abbrev pub invariant-loop-i : goal.invariant-loop-i
invariant-loop-i l = timer_due l.tick.0 (drop l.i (dec_block l.b).objects.slots) ≡ timer_due l.tick.0 (dec_block l.b).objects.slots
