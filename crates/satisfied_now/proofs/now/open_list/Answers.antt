use mathlib.Core.Path.{refl, ap, ◌∙◌}
use native.Mathlib.Omega.{arith}
use Rattle.codec.specs.Layout.{dec_all}
use Rattle.block.specs.Block.{dec_block}
use Rattle.pass.specs.Asks.{padded, open_object}
use Rattle.satisfied_now.proofs.Open.{open_more}
use Rattle.satisfied_now.proofs.now.open_list.Goals as goal

pub loop-i-init : goal.loop-i-init
unfolding dec_all padded
loop-i-init c = refl

pub loop-i-preserved : goal.loop-i-preserved
loop-i-preserved c =
    let l = c.loop-i in
    let a = c.args in
    open_more (dec_block a.b.now) a.handles.now l.i l.l c.open_object.result (omega arith) l.invariant (c.open_object.ensures ∙ ap (open_object (dec_block a.b.now)) c.get32.ensures)
