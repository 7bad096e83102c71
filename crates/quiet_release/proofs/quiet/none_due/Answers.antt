use mathlib.Core.Path.{sym, ap, ◌∙◌}
use native.Mathlib.Omega.{arith}
use Rattle.block.specs.Block.{dec_block}
use Rattle.due.proofs.Looked.{look_hit, look_miss, look_end}
use Rattle.quiet_release.proofs.Still.{moves, any_moves, moves-none, moves_more, still-no, still-yes}
use Rattle.quiet_release.proofs.quiet.none_due.Goals as goal

pub returns-then-may_change : goal.returns-then-may_change
returns-then-may_change c =
    let a = c.args in
    let e = sym (c.may_change.ensures ∙ ap (moves a.tick.0) c.slot_at.ensures) ∙ c.if-may_change.true in
    still-no a.tick.0 (dec_block a.b.now).objects.slots (look_hit a.b.now (moves a.tick.0) (any_moves a.tick.0) (moves-none a.tick.0) (moves_more a.tick.0) c.loop-i.i c.loop-i.invariant (omega arith) e)

pub loop-i-preserved : goal.loop-i-preserved
loop-i-preserved c =
    let a = c.args in
    let e = sym (c.may_change.ensures ∙ ap (moves a.tick.0) c.slot_at.ensures) ∙ c.if-may_change.false in
    look_miss a.b.now (moves a.tick.0) (any_moves a.tick.0) (moves-none a.tick.0) (moves_more a.tick.0) c.loop-i.i c.loop-i.invariant (omega arith) e

pub returns : goal.returns
returns c =
    let a = c.args in
    still-yes a.tick.0 (dec_block a.b.now).objects.slots (look_end a.b.now (moves a.tick.0) (any_moves a.tick.0) (moves-none a.tick.0) (moves_more a.tick.0) c.loop-i.i c.loop-i.invariant (omega arith))
