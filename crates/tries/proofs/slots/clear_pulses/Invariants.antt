use Rattle.rows.specs.Slots.{SlotsTo}
use Rattle.pass.specs.Signal.{unpulsed_slot}
use Rattle.tries.proofs.slots.clear_pulses.Given as goal

abbrev pub invariant-loop-i : goal.invariant-loop-i
invariant-loop-i l = SlotsTo l.initial.block (λ _. unpulsed_slot) l.i l.block
