use mathlib.Core.Path.{◌≡◌, sym}
use native.Mathlib.Omega.{arith}
use lib.Dec.{leb}
use lib.ListN.{get_or}
use borrow.Author.Tests.{le-leb, lt-leb}
use Rattle.laws.specs.Numbers.{all_to-end}
use Rattle.question.specs.Linear.{once32?}
use Rattle.question.specs.Turns.{below-more, below-fails}
use Rattle.question.proofs.tls.once_ok.Goals as goal

pub loop-i-init : goal.loop-i-init
loop-i-init c = all_to-end _ 0 (omega arith)

pub returns-then-m-i-gt1 : goal.returns-then-m-i-gt1
unfolding once32?
returns-then-m-i-gt1 c = sym (below-fails (λ s. leb (get_or c.args.m.now s 0) 1) c.loop-i.i 32 (omega arith) (lt-leb _ 1 c.if-m-i-gt1.true))

pub loop-i-preserved : goal.loop-i-preserved
loop-i-preserved c = below-more (λ s. leb (get_or c.args.m.now s 0) 1) c.loop-i.i c.loop-i.invariant (le-leb _ 1 c.if-m-i-gt1.false)

pub returns : goal.returns
unfolding once32?
returns c = let e : c.loop-i.i ≡ 32 = omega arith in sym (rw e at c.loop-i.invariant)
