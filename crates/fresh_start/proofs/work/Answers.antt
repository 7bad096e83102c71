use Rattle.std.proofs.Common.{sym, ap, ◌∙◌}
use Rattle.std.proofs.Math.ListN.{replicate}
use borrow.Author.Tests.{eq-eqb, ne_eqb}
use Rattle.std.specs.Prelude.{length}
use Rattle.laws.specs.Logic.{and_yes, true-and}
use Rattle.codec.proofs.Laws.{over-all}
use Rattle.lent.specs.Operations.{fresh_start}
use Rattle.fresh_start.proofs.work.Goals as goal

pub returns-in_default-as_mut_array : goal.returns-in_default-as_mut_array
unfolding fresh_start
returns-in_default-as_mut_array c =
    let b = c.in-Some.ensures.cases in
    rw (b.same, and_yes _ _ (eq-eqb _ 16384 b.long) ∙ ne_eqb _ 6656 c.in_default-as_mut_array.ensures.cases)

pub returns : goal.returns
unfolding fresh_start
returns c =
    let b = c.in-Some.ensures.cases in
    let k = c.in-Some-as_mut_array.ensures.cases in
    rw (
      true-and _ _ (eq-eqb _ 16384 b.long) (eq-eqb _ 6656 k.long),
      c.encode.ensures,
      c.fresh_kernel.ensures,
      c.put_zeros.ensures,
      over-all c.in-Some-as_mut_array.bank.now (replicate 6656 0) (sym (ap length k.same ∙ k.long)),
    )
