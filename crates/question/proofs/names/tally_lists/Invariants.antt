use mathlib.Core.Path.{◌≡◌}
use lib.ListN.{drop}
use Rattle.laws.specs.Tally.{tally_all}
use Rattle.block.specs.Tables.{threads_in}
use Rattle.tally.specs.Lists.{list_names}
use Rattle.question.proofs.names.tally_lists.Given as goal

abbrev pub invariant-loop-i : goal.invariant-loop-i
invariant-loop-i l = tally_all 129 l.c (list_names (drop l.i (threads_in l.b))) ≡ tally_all 129 l.initial.c (list_names (threads_in l.b))
