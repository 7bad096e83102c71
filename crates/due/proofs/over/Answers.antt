use mathlib.Core.Path.{refl, sym, ap, ◌∙◌}
use native.Mathlib.Omega.{arith}
use Rattle.types.specs.declared.object.Slot.{Slot}
use Rattle.pass.specs.Timers.{over_of, any_over}
use Rattle.due.proofs.Caught.{over_in}
use Rattle.due.proofs.Looked.{look_hit, look_miss, look_end}
use Rattle.due.proofs.over.Goals as goal

pub returns-then-slot_over : goal.returns-then-slot_over
unfolding any_over
returns-then-slot_over c = let a = c.args in
    sym (over_in a.b.now a.tick.0 ∙ look_hit a.b.now (λ (x : Slot). over_of x.object a.tick.0) (any_over a.tick.0) refl (λ x xs. refl) c.loop-i.i c.loop-i.invariant (omega arith) (sym (c.slot_over.ensures ∙ ap (λ (x : Slot). over_of x.object a.tick.0) c.slot_at.ensures) ∙ c.if-slot_over.true))

pub loop-i-preserved : goal.loop-i-preserved
unfolding any_over
loop-i-preserved c = let a = c.args in
    look_miss a.b.now (λ (x : Slot). over_of x.object a.tick.0) (any_over a.tick.0) refl (λ x xs. refl) c.loop-i.i c.loop-i.invariant (omega arith) (sym (c.slot_over.ensures ∙ ap (λ (x : Slot). over_of x.object a.tick.0) c.slot_at.ensures) ∙ c.if-slot_over.false)

pub returns : goal.returns
unfolding any_over
returns c = let a = c.args in
    sym (over_in a.b.now a.tick.0 ∙ look_end a.b.now (λ (x : Slot). over_of x.object a.tick.0) (any_over a.tick.0) refl (λ x xs. refl) c.loop-i.i c.loop-i.invariant (omega arith))
