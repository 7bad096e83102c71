use Rattle.due.proofs.Caught.{CaughtTo}
use Rattle.due.proofs.catch_up_slots.Given as goal

abbrev pub invariant-loop-i : goal.invariant-loop-i
invariant-loop-i l = CaughtTo l.m l.tick.0 l.initial.b l.i l.b
