use Rattle.std.proofs.Common.{◌∙◌, []}
use borrow.Author.Tests.{eq-eqb, ne_eqb}
use Rattle.laws.specs.Logic.{and_yes}
use Rattle.kernel.specs.NextEvent.{next_event}
use Rattle.lent.specs.Lent.{lent}
use Rattle.lent.specs.Operations.{tick_bytes}
use Rattle.lent.specs.Operations as operation
use Rattle.lent.proofs.Cases.{inspect-1}
use Rattle.next_event.proofs.look.Goals as goal

pub returns-in_default-as_mut_array : goal.returns-in_default-as_mut_array
unfolding operation.next_event
returns-in_default-as_mut_array c =
    let a = c.args in
    inspect-1 _ (λ k. tick_bytes (next_event k)) (lent a.block.now [] [] [] a.answer.now)
    (and_yes _ _ (eq-eqb _ 16384 c.in-Some.ensures.cases.long) ∙ ne_eqb _ 16 c.in_default-as_mut_array.ensures.cases)
