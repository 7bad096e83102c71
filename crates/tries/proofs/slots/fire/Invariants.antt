use Rattle.std.specs.Prelude.{◌≡◌}
use Rattle.std.proofs.Common.{drop}
use Rattle.rows.specs.Slots.{before, SlotsTo}
use Rattle.pass.specs.Timers.{fired_slot, any_over}
use Rattle.tries.proofs.slots.fire.Given as goal

abbrev pub invariant-loop-i : goal.invariant-loop-i
invariant-loop-i l = record {
  slots : SlotsTo l.initial.block (λ _. fired_slot l.tick.0) l.i l.block;
  none_over : any_over l.tick.0 (drop l.i (before l.initial.block)) ≡ any_over l.tick.0 (before l.initial.block);
}
