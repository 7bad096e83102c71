use Rattle.ending.proofs.Ended.{DisownedTo}
use Rattle.ending.proofs.disown.Given as goal

abbrev pub invariant-loop-i : goal.invariant-loop-i
invariant-loop-i l = DisownedTo l.t l.initial.block l.i l.block
