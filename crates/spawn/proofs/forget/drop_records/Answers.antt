use mathlib.Core.Path.{sym, ap, subst, ◌∙◌}
use Prim.Native.Nat.{ℕ, ◌<◌}
use native.Mathlib.Omega.{arith}
use Rattle.types.specs.declared.object.Slot.{Slot}
use Rattle.types.specs.Object.{head_of}
use Rattle.object.specs.Slots.{with_object}
use Rattle.object.specs.Waiters.{with_head}
use Rattle.object.specs.Ends.{links}
use Rattle.rows.specs.Slots.{slot-before}
use Rattle.release.specs.Encoded.{encoded-head}
use Rattle.release.proofs.Released.{waiters_are}
use Rattle.spawn.proofs.Forgets.{DropTo, drop-start, drop-next, drop_more, dropped}
use Rattle.spawn.proofs.forget.drop_records.Goals as goal
use Rattle.spawn.proofs.forget.drop_records.Goals.{then-first-ne0, else-first-ne0}

pub loop-i-init : goal.loop-i-init
loop-i-init c =
    let b = c.args.block.now in
    let ws = c.read_all-ws.result in
    let h = c.get_head-head.ensures ∙ encoded-head b c.requires.encoded in
    subst (λ (z : ℕ). DropTo b c.args.t 0 b ws z) (sym (λ i. (h i).free_waiter)) (drop-start b c.args.t c.told-block c.requires.encoded ws (c.read_all-ws.ensures ∙ waiters_are b))

pub loop-i-preserved : goal.loop-i-preserved
loop-i-preserved c =
    let l = c.loop-i in
    let s = c.args.block.now in
    let t = c.args.t in
    let h : l.i < 128 = omega arith in
    let g = l.invariant in
    let old = c.slot_at-old.ensures ∙ slot-before s l.i l.block h g.rows in
    let first = c.head_of-first.ensures ∙ ap (λ (x : Slot). head_of x.object) old in
    elim c.if-first-ne0.branch [
      | then-first-ne0 w ↦
          let u = links w.unlink-u.new.ws w.unlink-u.result in
          rw (w.block-is, w.ws-is, w.free-is, w.put_slot.ensures)
          (drop_more s t l.i l.block l.ws l.free h g c.requires.encoded u (rw first at w.unlink-u.ensures) w.headed.result (w.headed.ensures ∙ ap (λ (z : Slot). with_object z (with_head z.object u.head)) old))
      | else-first-ne0 w ↦
          rw (w.block-is, w.ws-is, w.free-is)
          (drop-next s t l.i l.block l.ws l.free h g c.requires.encoded (sym first ∙ w.if-first-ne0.false))
    ]

pub returns : goal.returns
returns c =
    let l = c.loop-i in
    let s = c.args.block.now in
    let w = dropped s c.args.t l.i l.block l.ws l.free c.loop-i-test.false l.invariant c.requires.encoded c.write_all.ensures.l_len c.get_head-head.result c.get_head-head.ensures in
    rw (c.put_head.ensures, c.write_all.ensures.b_after) record { block_after = w.0; encoded_2 = w.1 }
