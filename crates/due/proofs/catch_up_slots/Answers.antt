use Rattle.std.proofs.Common.{sym, ap, subst, arith, ◌∙◌}
use Rattle.std.specs.Prelude.{◌≡◌, ◌+◌, ◌<◌}
use Rattle.types.specs.declared.object.Slot.{Slot}
use Rattle.rows.specs.Holds.{holds}
use Rattle.rows.specs.Slots.{slot-before, slots-none, slots_next, slots-more}
use Rattle.due.proofs.Slots.{caught_slot, caught-same}
use Rattle.due.proofs.Caught.{caught-all}
use Rattle.due.proofs.catch_up_slots.Goals as goal
use Rattle.due.proofs.catch_up_slots.Goals.{then-may_change, else-may_change}

pub loop-i-init : goal.loop-i-init
loop-i-init c = let a = c.args in slots-none a.b.now (caught_slot a.m.now a.tick.0) c.told-b (holds a.b.now c.requires.b_value)

pub loop-i-preserved : goal.loop-i-preserved
loop-i-preserved c =
    let l = c.loop-i in
    let a = c.args in
    let m = a.m.now in
    let s = a.b.now in
    let h : l.i < 128 = omega arith in
    let g = l.invariant in
    let old = c.slot_at-old.ensures ∙ slot-before s l.i l.b h g.rows in
    elim c.if-may_change.branch [
      | then-may_change w ↦ rw (w.b-is, w.put_slot.ensures) (slots-more s (caught_slot m a.tick.0) l.i l.b h g w.caught_slot-x.result (w.caught_slot-x.ensures ∙ ap (caught_slot m a.tick.0 (l.i + 1)) old))
      | else-may_change w ↦
          let same = caught-same m a.tick.0 (l.i + 1) c.slot_at-old.result (sym c.may_change.ensures ∙ w.if-may_change.false) in
          rw w.b-is (slots_next s (caught_slot m a.tick.0) l.i l.b h g (subst (λ (x : Slot). caught_slot m a.tick.0 (l.i + 1) x ≡ x) old same))
    ]

pub returns : goal.returns
returns c = let a = c.args in caught-all a.m.now a.tick.0 a.b.now c.loop-i.b c.loop-i.i c.loop-i-test.false c.loop-i.invariant
