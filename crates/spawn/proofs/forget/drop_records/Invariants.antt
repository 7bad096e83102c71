use Rattle.spawn.proofs.Forgets.{DropTo}
use Rattle.spawn.proofs.forget.drop_records.Given as goal

abbrev pub invariant-loop-i : goal.invariant-loop-i
invariant-loop-i l = DropTo l.initial.block l.t l.i l.block l.ws l.free
