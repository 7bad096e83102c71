use mathlib.Core.Path.{sym, ◌∙◌}
use Prim.Native.Nat.{◌+◌}
use native.Mathlib.Omega.{arith}
use Rattle.block.specs.Block.{dec_block}
use Rattle.kernel.proofs.Steps.{due-step, due-end}
use Rattle.rows.specs.Sizes.{size-slots}
use Rattle.asked.proofs.event.next_due.Goals as goal

pub loop-i-preserved : goal.loop-i-preserved
loop-i-preserved c = let l = c.loop-i in
    let a = c.args in
    let n = size-slots a.b.now in
    rw c.due_at-best.ensures (sym (due-step a.m.now (dec_block a.b.now).objects.slots l.i l.best (omega arith)) ∙ l.invariant)

pub returns : goal.returns
returns c = let l = c.loop-i in
    let a = c.args in
    let n = size-slots a.b.now in
    sym (due-end a.m.now (dec_block a.b.now).objects.slots l.i (l.i + 1) l.best (omega arith)) ∙ l.invariant
