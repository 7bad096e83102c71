use mathlib.Core.Path.{◌∙◌}
use Rattle.std.proofs.Common.{eqb, rules, tests}
use Rattle.std.proofs.lemmas.Iterator.{YieldsList-from_slice}
use Rattle.std.proofs.lemmas.Iterator.Search.{any_from_yields_List}
use Rattle.svc.specs.declared.CallRow.{CallRow}
use Rattle.svc.specs.Table.{table, known?}
use Rattle.table.proofs.Rows.{any-known}
use Rattle.table.proofs.known.Goals as goal

pub returns : goal.returns
unfolding table known?
returns c =
    any_from_yields_List (λ (r : CallRow). eqb r.number c.args.number) _ _ _ c.any.ensures.ran (YieldsList-from_slice table cc) (λ x b q k. search (rules, tests))
    ∙ any-known table c.args.number
