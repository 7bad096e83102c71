use mathlib.Core.Path.{◌≡◌}
use lib.ListN.{drop}
use Rattle.block.specs.Block.{dec_block}
use Rattle.quiet_release.proofs.Still.{any_moves}
use Rattle.quiet_release.proofs.quiet.none_due.Given as goal

abbrev pub invariant-loop-i : goal.invariant-loop-i
invariant-loop-i l = any_moves l.tick.0 (drop l.i (dec_block l.b).objects.slots) ≡ any_moves l.tick.0 (dec_block l.b).objects.slots
