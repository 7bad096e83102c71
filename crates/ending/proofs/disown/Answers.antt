use mathlib.Core.Path.{◌≡◌, sym, ap, subst, ◌∙◌}
use Prim.Native.Nat.{ℕ, ◌<◌}
use native.Mathlib.Omega.{arith}
use borrow.Author.Tests.{eqb-false}
use Rattle.types.specs.declared.object.Slot.{Slot}
use Rattle.object.specs.Slots.{with_object}
use Rattle.thread.specs.Threads.{disowned}
use Rattle.rows.specs.Slots.{slots-none, slot-before, slots_next, slots-more}
use Rattle.release.specs.Encoded.{encoded-holds}
use Rattle.ending.proofs.Ended.{disowned-other, disowned-all}
use Rattle.ending.proofs.disown.Goals as goal
use Rattle.ending.proofs.disown.Goals.{then-is_mutex, else-is_mutex}

pub loop-i-init : goal.loop-i-init
loop-i-init c = slots-none c.args.block.now (λ _ x. with_object x (disowned c.args.t x.object)) c.told-block (encoded-holds c.args.block.now c.requires.encoded)

pub loop-i-preserved : goal.loop-i-preserved
loop-i-preserved c =
    let l = c.loop-i in
    let s = c.args.block.now in
    let f : ℕ → Slot → Slot = λ _ x. with_object x (disowned c.args.t x.object) in
    let h : l.i < 128 = omega arith in
    let g = l.invariant in
    let old = c.slot_at-old.ensures ∙ slot-before s l.i l.block h g.rows in
    elim c.if-is_mutex.branch [
      | then-is_mutex w ↦ rw (w.block-is, w.put_slot.ensures) (slots-more s f l.i l.block h g w.disowned_slot.result (w.disowned_slot.ensures ∙ ap (f 0) old))
      | else-is_mutex w ↦ rw w.block-is (slots_next s f l.i l.block h g (subst (λ (x : Slot). f 0 x ≡ x) old (disowned-other c.args.t c.slot_at-old.result (eqb-false _ _ (sym c.is_mutex.ensures ∙ w.if-is_mutex.false)))))
    ]

pub returns : goal.returns
returns c = let l = c.loop-i in disowned-all c.args.t c.args.block.now l.block l.i c.loop-i-test.false l.invariant
