use mathlib.Core.Path.{◌≡◌}
use lib.ListN.{drop}
use Rattle.laws.specs.Tally.{tally}
use Rattle.block.specs.Tables.{threads_in}
use Rattle.sound.specs.Tls.{held}
use Rattle.question.proofs.tls.tally_tls.Given as goal

abbrev pub invariant-loop-i : goal.invariant-loop-i
invariant-loop-i l = tally 129 l.m (held (drop l.i (threads_in l.b))) ≡ tally 129 l.initial.m (held (threads_in l.b))
