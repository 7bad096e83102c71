use mathlib.Core.Path.{sym}
use native.Mathlib.Omega.{arith}
use borrow.Author.Tests.{ne_eqb}
use Rattle.question.specs.ObjectSteps.{once-fails}
use Rattle.question.proofs.records.once_ok.Goals as goal

pub returns-then-m-i-ne1 : goal.returns-then-m-i-ne1
returns-then-m-i-ne1 c =
    sym (once-fails c.args.m.now 64 c.loop-i.i (omega arith) (omega arith) (ne_eqb _ 1 c.if-m-i-ne1.true))
