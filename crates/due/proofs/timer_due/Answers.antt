use mathlib.Core.Path.{refl, sym, ap, ◌∙◌}
use native.Mathlib.Omega.{arith}
use Rattle.types.specs.declared.object.Slot.{Slot}
use Rattle.kernel.specs.NextEvent.{due_of}
use Rattle.pass.specs.Timers.{due_by, timer_due}
use Rattle.due.proofs.Looked.{look_hit, look_miss, look_end}
use Rattle.due.proofs.timer_due.Goals as goal

pub returns-then-slot_due : goal.returns-then-slot_due
unfolding timer_due
returns-then-slot_due c = let a = c.args in
    sym (look_hit a.b.now (λ (x : Slot). due_by (due_of x.object) a.tick.0) (timer_due a.tick.0) refl (λ x xs. refl) c.loop-i.i c.loop-i.invariant (omega arith) (sym (c.slot_due.ensures ∙ ap (λ (x : Slot). due_by (due_of x.object) a.tick.0) c.slot_at.ensures) ∙ c.if-slot_due.true))

pub loop-i-preserved : goal.loop-i-preserved
unfolding timer_due
loop-i-preserved c = let a = c.args in
    look_miss a.b.now (λ (x : Slot). due_by (due_of x.object) a.tick.0) (timer_due a.tick.0) refl (λ x xs. refl) c.loop-i.i c.loop-i.invariant (omega arith) (sym (c.slot_due.ensures ∙ ap (λ (x : Slot). due_by (due_of x.object) a.tick.0) c.slot_at.ensures) ∙ c.if-slot_due.false)

pub returns : goal.returns
unfolding timer_due
returns c = let a = c.args in
    sym (look_end a.b.now (λ (x : Slot). due_by (due_of x.object) a.tick.0) (timer_due a.tick.0) refl (λ x xs. refl) c.loop-i.i c.loop-i.invariant (omega arith))
