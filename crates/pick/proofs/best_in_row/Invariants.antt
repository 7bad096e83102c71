use mathlib.Core.Path.{◌≡◌}
use lib.ListN.{drop}
use Rattle.pass.specs.Pick.{least_priority}
use Rattle.pick.proofs.best_in_row.Given as goal

abbrev pub invariant-loop-t : goal.invariant-loop-t
invariant-loop-t l = least_priority l.best (drop l.t-index l.row) ≡ least_priority 64 l.row
