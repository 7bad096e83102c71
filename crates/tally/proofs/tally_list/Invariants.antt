use mathlib.Core.Path.{◌≡◌}
use lib.ListN.{drop}
use Rattle.laws.specs.Tally.{tally}
use Rattle.sound.specs.View.{ids}
use Rattle.tally.proofs.tally_list.Given as goal

abbrev pub invariant-loop-o : goal.invariant-loop-o
invariant-loop-o l = tally 129 l.c (ids (drop l.o-index l.fn.l)) ≡ tally 129 l.fn.c (ids l.fn.l)
