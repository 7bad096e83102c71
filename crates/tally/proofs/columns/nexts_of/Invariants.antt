use mathlib.Core.Path.{◌≡◌}
use lib.ListN.{length, take}
use Rattle.sound.specs.View.{waiter_nexts}
use Rattle.tally.proofs.columns.nexts_of.Given as goal

abbrev pub invariant-loop-i : goal.invariant-loop-i
invariant-loop-i l = record { made : length l.r ≡ 64; column : take l.i l.r ≡ waiter_nexts (take l.i l.l) }
