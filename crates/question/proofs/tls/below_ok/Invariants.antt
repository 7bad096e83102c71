use mathlib.Core.Path.{◌≡◌}
use lib.ListN.{drop}
use Rattle.block.specs.Tables.{threads_in}
use Rattle.sound.specs.Tls.{held, below?}
use Rattle.question.proofs.tls.below_ok.Given as goal

abbrev pub invariant-loop-i : goal.invariant-loop-i
invariant-loop-i l = below? l.next (held (drop l.i (threads_in l.b))) ≡ below? l.next (held (threads_in l.b))
