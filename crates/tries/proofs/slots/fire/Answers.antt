use Rattle.std.proofs.Common.{ap, sym, subst, arith, refl, ◌∙◌}
use Rattle.std.specs.Prelude.{◌≡◌, Bool, ℕ, ◌<◌}
use Rattle.laws.specs.Logic.{pick}
use Rattle.types.specs.Refusal.{unless_found}
use Rattle.types.specs.declared.object.Slot.{Slot}
use Rattle.rows.specs.Holds.{holds}
use Rattle.rows.specs.Sizes.{size-slots}
use Rattle.rows.specs.Slots.{before, slots-none, slot-before, slots_next, slots-more}
use Rattle.signal.proofs.Timers.{fired-same, over_none}
use Rattle.pass.specs.Timers.{fired_slot, over_of}
use Rattle.tries.proofs.Fired.{over_miss, over-end, fired-all}
use Rattle.tries.proofs.slots.fire.Goals as goal
use Rattle.tries.proofs.slots.fire.Goals.{then-slot_due+else-slot_over, else-slot_due}

pub loop-i-init : goal.loop-i-init
loop-i-init c = record {
  slots = slots-none c.args.block.now (λ _. fired_slot c.args.tick.0) c.told-block (holds c.args.block.now c.requires.block_value);
  none_over = refl;
}

pub loop-i-preserved : goal.loop-i-preserved
loop-i-preserved c =
    let l = c.loop-i in
    let s = c.args.block.now in
    let t = c.args.tick.0 in
    let f : ℕ → Slot → Slot = λ _. fired_slot t in
    let h : l.i < 128 = omega arith in
    let g = l.invariant in
    let old = c.slot_at-old.ensures ∙ slot-before s l.i l.block h g.slots.rows in
    elim c.if-slot_due.branch [
      | then-slot_due+else-slot_over w ↦
          let n = slots-more s f l.i l.block h g.slots w.fired_slot.result (w.fired_slot.ensures ∙ ap (f 0) old) in
          let m = over_miss t (before s) l.i g.none_over (omega (arith, size-slots s)) (ap (λ (x : Slot). over_of x.object t) (sym old) ∙ sym w.slot_over.ensures ∙ w.if-slot_over.false) in
          rw (w.block-is, w.put_slot.ensures) record { slots = n; none_over = m }
      | else-slot_due w ↦
          let d = sym c.slot_due.ensures ∙ w.if-slot_due.false in
          let n = slots_next s f l.i l.block h g.slots (subst (λ (x : Slot). f 0 x ≡ x) old (fired-same c.slot_at-old.result c.slot_at-old.result.object t d)) in
          let m = over_miss t (before s) l.i g.none_over (omega (arith, size-slots s)) (ap (λ (x : Slot). over_of x.object t) (sym old) ∙ over_none c.slot_at-old.result.object t d) in
          rw w.block-is record { slots = n; none_over = m }
    ]

pub returns : goal.returns
returns c =
    let l = c.loop-i in
    let s = c.args.block.now in
    let none = over-end c.args.tick.0 (before s) l.i l.invariant.none_over (omega (arith, c.loop-i-test, size-slots s)) in
    let w = fired-all s c.requires.block_value c.args.tick.0 none l.block l.i c.loop-i-test.false l.invariant.slots in
    record { value = ap (λ (v : Bool). unless_found (pick v 8 0) tt) (sym none); block_after = λ _. w.0; block_after_2 = λ _. w.1 }
