use mathlib.Core.Path.{sym, ap, ◌∙◌}
use mathlib.Core.Bool.{Bool}
use Rattle.std.proofs.lemmas.Result.{err_from_is_err_and}
use Rattle.laws.specs.Logic.{◌or◌}
use Rattle.types.specs.Refusal.{refusal-some}
use Rattle.block.specs.Block.{dec_block}
use Rattle.svc.specs.Timers.{caught_up}
use Rattle.lent.specs.Operations.{out_of_handles?}
use Rattle.outcome.specs.Findings.{found_of, room-none, room-refused}
use Rattle.timer_calls.proofs.Opened.{opens_refused, opens_caught, state-caught}
use Rattle.timer_calls.proofs.caught.open_caught.Goals as goal

pub returns-in_err-found_before : goal.returns-in_err-found_before
returns-in_err-found_before c =
    let b = c.args.block.now in
    let tick = c.args.tick.0 in
    let v = (caught_up (dec_block b) tick).objects.overflow or out_of_handles? (dec_block b) in
    let p = err_from_is_err_and c.from_residual.result c.from_residual.ensures.1 in
    let f = ap (λ (f : Bool). found_of f v) (sym c.no_room.ensures) ∙ room-refused _ v tt _ (sym c.found_before.ensures ∙ c.in_err-found_before.was) in
    rw (p.1, p.2) record { opens = opens_refused b c.args.h.0 tick _ f; block_after = c.requires.block_value; block_after_2 = λ z. absurd (refusal-some _ z) }

pub returns : goal.returns
returns c =
    let b = c.args.block.now in
    let h = c.args.h.0 in
    let tick = c.args.tick.0 in
    let v = (caught_up (dec_block b) tick).objects.overflow or out_of_handles? (dec_block b) in
    let f = ap (λ (f : Bool). found_of f v) (sym c.no_room.ensures) ∙ room-none _ v tt _ (sym c.found_before.ensures ∙ c.in_ok-found_before.was) in
    let q = c.catch_up_if.ensures in
    let p = c.resolve.ensures in record { opens = opens_caught b h tick _ q.block_after q.block_after_2 _ c.resolve.result p.opens f; block_after = p.block_after; block_after_2 = state-caught b h tick _ q.block_after q.block_after_2 _ c.resolve.result p.opens }
