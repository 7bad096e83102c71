use mathlib.Core.Path.{◌≡◌}
use mathlib.Core.Bool.{true}
use lib.Dec.{leb}
use lib.ListN.{get_or}
use Rattle.laws.specs.Numbers.{all_below}
use Rattle.question.proofs.tls.once_ok.Given as goal

abbrev pub invariant-loop-i : goal.invariant-loop-i
invariant-loop-i l = all_below l.i (λ s. leb (get_or l.m s 0) 1) ≡ true
