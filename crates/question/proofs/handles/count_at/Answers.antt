use native.Mathlib.Omega.{arith}
use borrow.Author.Tests.{lt-ltb}
use Rattle.laws.specs.Tally.{bump}
use Rattle.question.proofs.handles.count_at.Goals as goal

pub returns : goal.returns
unfolding bump
returns c = rw (lt-ltb c.args.o.0 129 (omega (arith, c.requires.o_bound)), lt-ltb _ 100000 c.requires.o_bound_2)
