use Rattle.std.specs.Prelude.{Ok, false}
use Rattle.std.proofs.Common.{ap, sym, ◌∙◌}
use Rattle.std.proofs.lemmas.Result.{err_from_is_err_and}
use Rattle.types.specs.Refusal.{unless-ok, refusal-some}
use Rattle.outcome.specs.Outcome.{outcome-0, outcome-found, left-0, left-found}
use Rattle.outcome.specs.Findings.{found_of, room-refused}
use Rattle.svc.specs.Threads.{sleep_thread}
use Rattle.threads.proofs.Found.{sleep-finding}
use Rattle.threads.proofs.sleep.sleep_thread.Goals as goal

pub returns-in_err-room : goal.returns-in_err-room
returns-in_err-room c =
    let p = err_from_is_err_and c.from_residual.result c.from_residual.ensures.1 in
    let f = sleep-finding c.args.block.now c.args.r c.args.tick.0 ∙ ap (found_of false) (sym c.out_of_handles.ensures) ∙ room-refused false c.out_of_handles.result tt _ (sym c.room.ensures ∙ c.in_err-room.was) in
    rw (p.1, p.2) record { value = sym (outcome-found _ _ f); block_after = sym (left-found _ _ (λ e. refusal-some _ (sym f ∙ e))) }

pub returns : goal.returns
unfolding sleep_thread
returns c =
    let f = sleep-finding c.args.block.now c.args.r c.args.tick.0 ∙ ap (found_of false) (sym c.out_of_handles.ensures) ∙ unless-ok _ tt _ (sym c.room.ensures ∙ c.in_ok-room.was) in
    record { value = ap Ok c.done.ensures ∙ sym (outcome-0 _ f); block_after = rw (c.sleep_ticks-time.ensures, c.from_words.ensures) at c.put_slept.ensures.same ∙ sym (left-0 _ _ f) }
