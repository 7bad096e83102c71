use mathlib.Core.Path.{◌∙◌}
use Rattle.svc.specs.Table.{table}
use Rattle.table.proofs.Rows.{row_hit, row_miss}
use Rattle.table.proofs.row_of.Goals as goal

pub returns-then-row-number : goal.returns-then-row-number
unfolding table
returns-then-row-number c = row_hit table c.loop-row.row-index c.args.number _ c.loop-row-test.true c.if-row-number.true ∙ c.loop-row.invariant

pub loop-row-preserved : goal.loop-row-preserved
unfolding table
loop-row-preserved c = row_miss table c.loop-row.row-index c.args.number _ c.loop-row-test.true c.if-row-number.false ∙ c.loop-row.invariant
