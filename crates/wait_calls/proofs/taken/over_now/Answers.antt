use mathlib.Core.Path.{sym, ◌∙◌}
use Rattle.laws.specs.Logic.{◌or◌}
use Rattle.block.specs.Block.{dec_block}
use Rattle.wait_calls.specs.Over.{over_now}
use Rattle.wait_calls.proofs.Now.{over_none, over-some}
use Rattle.wait_calls.proofs.taken.over_now.Goals as goal

pub returns-then-over_after : goal.returns-then-over_after
unfolding ◌or◌
returns-then-over_after c =
    let k = dec_block c.args.block.now in
    let x = c.slot_at-x.result.object in
    c.signaled.ensures ∙ over-some c.in-Some.c k.threads x (sym c.over_after.ensures ∙ c.if-over_after.true)
    ∙ (λ i. over_now ((sym c.in-Some.is ∙ c.current.ensures) i) k.threads (c.slot_at-x.ensures i).object)

pub returns-else-over_after : goal.returns-else-over_after
unfolding ◌or◌
returns-else-over_after c =
    let k = dec_block c.args.block.now in
    let x = c.slot_at-x.result.object in
    c.if-over_after.false ∙ sym (over_none k.current_thread k.threads x (sym c.over_after.ensures ∙ c.if-over_after.false))
    ∙ (λ i. over_now k.current_thread k.threads (c.slot_at-x.ensures i).object)
