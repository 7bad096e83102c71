use lib.ListN.{take}
use mathlib.Core.Path.{sym, ap, ◌∙◌}
use mathlib.Core.Logic.{inr}
use Rattle.std.specs.Prelude.{Result, is_err}
use Rattle.types.specs.declared.refusal.Refusal.{Refusal}
use Rattle.block.specs.Block.{dec_block}
use Rattle.svc.specs.Waits.{wait_synchronization_n}
use Rattle.outcome.specs.declared.Outcome.{Outcome}
use Rattle.outcome.specs.Outcome.{left-found}
use Rattle.wait_calls.proofs.Ways.{refused-some, refused-none}
use Rattle.wait_calls.proofs.many.wait_saved.Goals as goal

pub returns-then-is_err-clause-block_after : goal.returns-then-is_err-clause-block_after
returns-then-is_err-clause-block_after c =
    let a = c.args in
    let b = a.block.now in
    let v = wait_synchronization_n (dec_block b) a.r (take a.n a.words) a.tick.0 in
    let f = sym (c.is_err.ensures.value ∙ ap (λ (o : Result Outcome Refusal). is_err o) c.wait_caught-o.ensures.value) ∙ c.if-is_err.true in
    sym (left-found v b (refused-some v f))

pub returns-else-is_err-clause-block_after : goal.returns-else-is_err-clause-block_after
returns-else-is_err-clause-block_after c =
    let a = c.args in
    let v = wait_synchronization_n (dec_block a.block.now) a.r (take a.n a.words) a.tick.0 in
    let f = sym (c.is_err.ensures.value ∙ ap (λ (o : Result Outcome Refusal). is_err o) c.wait_caught-o.ensures.value) ∙ c.if-is_err.false in
    c.wait_caught-o.ensures.block_after (inr (refused-none v f))
