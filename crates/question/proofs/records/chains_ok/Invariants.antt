use mathlib.Core.Path.{◌≡◌}
use mathlib.Core.Bool.{true}
use Rattle.question.specs.LinearObjects.{chains_by?}
use Rattle.question.proofs.records.chains_ok.Given as goal

abbrev pub invariant-loop-head : goal.invariant-loop-head
invariant-loop-head l = chains_by? l.r.nexts l.r.threads l.r.addresses l.n l.heads l.head-index ≡ true
