use Rattle.std.specs.Prelude.{Ok, None, Some, false}
use Rattle.std.proofs.Common.{ap, sym, ◌∙◌}
use Rattle.std.proofs.lemmas.Result.{err_from_is_err_and}
use Rattle.types.specs.Refusal.{unless-ok, refusal-some}
use Rattle.block.specs.Block.{dec_block}
use Rattle.rows.specs.Holds.{holds, put-thread}
use Rattle.outcome.specs.Outcome.{outcome-0, outcome-found, left-0, left-found}
use Rattle.outcome.specs.Findings.{found_of, room-refused}
use Rattle.std.proofs.Common.{rules}
use Rattle.sound.specs.View.{thread_at}
use Rattle.thread.specs.Thread.{with_priority}
use Rattle.thread.specs.Threads.{set_priority, least}
use Rattle.svc.specs.Threads.{set_thread_priority}
use Rattle.thread.proofs.Steps.{min-least}
use Rattle.threads.proofs.Found.{priority-finding, put-as}
use Rattle.threads.proofs.priority.set_thread_priority.Goals as goal

pub returns-in_err-room : goal.returns-in_err-room
unfolding set_thread_priority
returns-in_err-room c =
    let b = c.args.block.now in
    let p = err_from_is_err_and c.from_residual.result c.from_residual.ensures.1 in
    let f = priority-finding b _ c.args.r.r1 ∙ ap (found_of false) (sym c.out_of_handles.ensures) ∙ room-refused false c.out_of_handles.result tt _ (sym c.room.ensures ∙ c.in_err-room.was) in
    rw (p.1, p.2) record { value = sym (outcome-found _ _ f); block_after = sym (left-found _ _ (λ e. refusal-some _ (sym f ∙ e))) }

pub returns-in_default : goal.returns-in_default
unfolding set_thread_priority
returns-in_default c =
    let b = c.args.block.now in
    let f = priority-finding b None c.args.r.r1 ∙ ap (found_of false) (sym c.out_of_handles.ensures) ∙ unless-ok _ tt _ (sym c.room.ensures ∙ c.in_ok-room.was) in
    rw (sym c.resolve_thread.ensures ∙ c.in_default.is) record { value = ap Ok c.from.ensures ∙ sym (outcome-0 _ f); block_after = (holds b c.requires.block_value).same ∙ sym (left-0 _ b f) }

pub returns : goal.returns
unfolding set_thread_priority set_priority
returns c =
    let b = c.args.block.now in
    let f = priority-finding b (Some c.in-Some.t) c.args.r.r1 ∙ ap (found_of false) (sym c.out_of_handles.ensures) ∙ unless-ok _ tt _ (sym c.room.ensures ∙ c.in_ok-room.was) in
    rw (sym c.resolve_thread.ensures ∙ c.in-Some.is) record {
      value = ap Ok c.done.ensures ∙ sym (outcome-0 _ f);
      block_after = c.change.ensures.1.1 ∙ put-as b c.in-Some.t _ (with_priority (thread_at (dec_block b).threads c.in-Some.t) (least c.args.r.r1 63)) (λ l. rw (← min-least c.args.r.r1 63) (search (rules, c.change.ensures.1.0 l))) ∙ (put-thread (holds b c.requires.block_value) _ _).same ∙ sym (left-0 _ b f);
    }
