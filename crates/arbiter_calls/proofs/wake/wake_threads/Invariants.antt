use Rattle.arbiter_calls.proofs.Woken.{WokenTo}
use Rattle.arbiter_calls.proofs.wake.wake_threads.Given as goal

abbrev pub invariant-loop-i : goal.invariant-loop-i
invariant-loop-i l = WokenTo l.p l.initial.block l.i l.block
