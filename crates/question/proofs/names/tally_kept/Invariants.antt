use mathlib.Core.Path.{◌≡◌}
use lib.ListN.{drop}
use Rattle.laws.specs.Tally.{tally}
use Rattle.block.specs.Tables.{kept_in}
use Rattle.tally.specs.Lists.{names}
use Rattle.question.proofs.names.tally_kept.Given as goal

abbrev pub invariant-loop-i : goal.invariant-loop-i
invariant-loop-i l = tally 129 l.c (names (drop l.i (kept_in l.b))) ≡ tally 129 l.initial.c (names (kept_in l.b))
