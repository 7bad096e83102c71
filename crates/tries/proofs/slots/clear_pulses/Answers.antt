use Rattle.std.proofs.Common.{ap, subst, arith, ◌∙◌}
use Rattle.std.specs.Prelude.{◌≡◌, ℕ, ◌<◌}
use Rattle.types.specs.declared.object.Slot.{Slot}
use Rattle.rows.specs.Holds.{holds}
use Rattle.rows.specs.Slots.{slots-none, slot-before, slots_next, slots-more}
use Rattle.pass.specs.Signal.{unpulsed_slot}
use Rattle.signal.proofs.Pulses.{unpulsed_same}
use Rattle.tries.proofs.Fired.{cleared-all}
use Rattle.tries.proofs.slots.clear_pulses.Goals as goal
use Rattle.tries.proofs.slots.clear_pulses.Goals.{then-old, else-old}

pub loop-i-init : goal.loop-i-init
loop-i-init c = slots-none c.args.block.now (λ _. unpulsed_slot) c.told-block (holds c.args.block.now c.requires.block_value)

pub loop-i-preserved : goal.loop-i-preserved
loop-i-preserved c =
    let l = c.loop-i in
    let s = c.args.block.now in
    let f : ℕ → Slot → Slot = λ _. unpulsed_slot in
    let h : l.i < 128 = omega arith in
    let g = l.invariant in
    let old = c.slot_at-old.ensures ∙ slot-before s l.i l.block h g.rows in
    elim c.if-old.branch [
      | then-old w ↦ rw (w.block-is, w.put_slot.ensures) (slots-more s f l.i l.block h g w.unpulsed_slot.result (w.unpulsed_slot.ensures ∙ ap (f 0) old))
      | else-old w ↦ rw w.block-is (slots_next s f l.i l.block h g (subst (λ (x : Slot). f 0 x ≡ x) old (unpulsed_same c.slot_at-old.result w.if-old.false)))
    ]

pub returns : goal.returns
returns c =
    let l = c.loop-i in
    let w = cleared-all c.args.block.now c.requires.block_value l.block l.i c.loop-i-test.false l.invariant in
    record { block_after = w.0; block_after_2 = w.1 }
