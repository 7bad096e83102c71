use Rattle.std.proofs.Common.{◌∙◌, []}
use Rattle.std.specs.Prelude.{not, eqb}
use borrow.Author.Tests.{eq-eqb, ne_eqb}
use Rattle.laws.specs.Logic.{and_no, and_yes}
use Rattle.pass.specs.Asks.{satisfied_now}
use Rattle.lent.specs.Lent.{lent}
use Rattle.lent.specs.Operations.{words, satisfied_bytes}
use Rattle.lent.specs.Operations as operation
use Rattle.lent.proofs.Cases.{inspect-1}
use Rattle.satisfied_now.proofs.look.Goals as goal

pub returns-then-handles-ne0 : goal.returns-then-handles-ne0
unfolding operation.satisfied_now
returns-then-handles-ne0 c =
    let a = c.args in
    inspect-1 _ (λ k. satisfied_bytes (satisfied_now k (words a.handles.now) (not (eqb a.wait_all 0)) a.tick.0)) (lent a.block.now [] [] [] a.answer.now)
    (and_yes _ _ (eq-eqb _ 16384 c.in-Some.ensures.cases.long) ∙ and_no _ _ (ne_eqb _ 0 c.if-handles-ne0.true))

pub returns-in_default-as_mut_array : goal.returns-in_default-as_mut_array
unfolding operation.satisfied_now
returns-in_default-as_mut_array c =
    let a = c.args in
    inspect-1 _ (λ k. satisfied_bytes (satisfied_now k (words a.handles.now) (not (eqb a.wait_all 0)) a.tick.0)) (lent a.block.now [] [] [] a.answer.now)
    (and_yes _ _ (eq-eqb _ 16384 c.in-Some.ensures.cases.long)
    ∙ (and_yes _ _ (eq-eqb _ 0 c.if-handles-ne0.false) ∙ ne_eqb _ 40 c.in_default-as_mut_array.ensures.cases))
