use mathlib.Core.Path.{◌≡◌}
use lib.ListN.{drop}
use Rattle.laws.specs.Tally.{tally}
use Rattle.tally.specs.Lists.{names}
use Rattle.tally.proofs.tally_names.Given as goal

abbrev pub invariant-loop-o : goal.invariant-loop-o
invariant-loop-o l = tally 129 l.c (names (drop l.o-index l.fn.l)) ≡ tally 129 l.fn.c (names l.fn.l)
