use mathlib.Core.Path.{◌≡◌}
use lib.ListN.{drop}
use Rattle.svc.specs.Table.{table, row_in, row_of}
use Rattle.table.proofs.row_of.Given as goal

abbrev pub invariant-loop-row : goal.invariant-loop-row
invariant-loop-row l = row_in (drop l.row-index table) l.number ≡ row_of l.number
