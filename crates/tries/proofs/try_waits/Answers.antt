use Rattle.std.proofs.Common.{sym, ◌∙◌}
use Rattle.std.proofs.lemmas.Result.{err_from_is_err_and}
use Rattle.block.specs.Block.{dec_block}
use Rattle.take.proofs.Taken.{refused-as}
use Rattle.tries.proofs.Turns.{try_over, fires-over, tried-over}
use Rattle.tries.proofs.try_waits.Goals as goal

pub returns-in_err-fire-clause-value : goal.returns-in_err-fire-clause-value
returns-in_err-fire-clause-value c =
    let p = err_from_is_err_and c.from_residual.result c.from_residual.ensures.1 in
    let q = refused-as _ tt _ (sym c.fire.ensures.value ∙ c.in_err-fire.was) in
    rw (p.1, p.2, q.1, fires-over (dec_block c.args.block.now) c.args.tick.0 q.0)

pub returns-in_err-try_wait-clause-value : goal.returns-in_err-try_wait-clause-value
returns-in_err-try_wait-clause-value c =
    let l = c.loop-i in
    let k = dec_block c.fire.new.block in
    let p = err_from_is_err_and c.from_residual-in_err-try_wait.result c.from_residual-in_err-try_wait.ensures.1 in
    let q = refused-as _ tt _ (sym c.try_wait.ensures.value ∙ c.in_err-try_wait.was) in
    let over = sym (tried-over (dec_block c.args.block.now) c.args.tick.0 k (c.fire.ensures.block_after c.in_ok-fire.was)) ∙ try_over k c.args.tick.0 l.i l.block c.loop-i-test.true l.invariant q.0 in
    rw (p.1, p.2, q.1, over)
