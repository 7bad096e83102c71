use mathlib.Core.Path.{◌≡◌}
use lib.ListN.{drop}
use Rattle.block.specs.Block.{dec_block}
use Rattle.pass.specs.Asks.{calm_from}
use Rattle.quiet_release.proofs.quiet.all_calm.Given as goal

abbrev pub invariant-loop-i : goal.invariant-loop-i
invariant-loop-i l = calm_from l.o.0 l.c l.p l.i (drop l.i (dec_block l.b).threads) ≡ calm_from l.o.0 l.c l.p 0 (dec_block l.b).threads
