use Rattle.std.specs.Prelude.{Ok}
use Rattle.std.proofs.Common.{false, ap, sym, ◌∙◌}
use Rattle.std.proofs.lemmas.Result.{err_from_is_err_and}
use Rattle.types.specs.Refusal.{refusal-some, unless-ok}
use Rattle.svc.specs.Handles.{close_handle}
use Rattle.outcome.specs.Outcome.{outcome-0, outcome-found, left-0, left-found}
use Rattle.outcome.specs.Findings.{found_of, room-refused}
use Rattle.handle_calls.proofs.Found.{close-finding}
use Rattle.handle_calls.proofs.close.close_handle.Goals as goal

pub returns-in_err-room : goal.returns-in_err-room
returns-in_err-room c =
    let p = err_from_is_err_and c.from_residual.result c.from_residual.ensures.1 in
    let f = close-finding c.args.block.now c.args.r ∙ ap (found_of false) (sym c.out_of_handles.ensures) ∙ room-refused false c.out_of_handles.result tt _ (sym c.room.ensures ∙ c.in_err-room.was) in
    rw (p.1, p.2) record { value = sym (outcome-found _ _ f); block_after = sym (left-found _ _ (λ w. refusal-some _ (sym f ∙ w))) }

pub returns : goal.returns
unfolding close_handle
returns c =
    let f = close-finding c.args.block.now c.args.r ∙ ap (found_of false) (sym c.out_of_handles.ensures) ∙ unless-ok _ tt _ (sym c.room.ensures ∙ c.in_ok-room.was) in
    record { value = ap Ok c.done.ensures ∙ sym (outcome-0 _ f); block_after = c.put_closed.ensures.same ∙ sym (left-0 _ _ f) }
