use Rattle.std.proofs.Common.{◌∙◌, []}
use borrow.Author.Tests.{eq-eqb, ne_eqb}
use Rattle.laws.specs.Logic.{and_yes}
use Rattle.pass.specs.Asks.{quiet_release}
use Rattle.lent.specs.Lent.{lent}
use Rattle.lent.specs.Operations.{release_bytes}
use Rattle.lent.specs.Operations as operation
use Rattle.lent.proofs.Cases.{inspect-1}
use Rattle.quiet_release.proofs.look.Goals as goal

pub returns-in_default-as_mut_array : goal.returns-in_default-as_mut_array
unfolding operation.quiet_release
returns-in_default-as_mut_array c =
    let a = c.args in
    inspect-1 _ (λ k. release_bytes (quiet_release k a.handle.0 a.tick.0)) (lent a.block.now [] [] [] a.answer.now)
    (and_yes _ _ (eq-eqb _ 16384 c.in-Some.ensures.cases.long) ∙ ne_eqb _ 12 c.in_default-as_mut_array.ensures.cases)
