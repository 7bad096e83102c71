use Rattle.std.specs.Prelude.{Option, ℕ, Ok, false}
use Rattle.std.proofs.Common.{ap, sym, subst, ◌∙◌}
use Rattle.std.proofs.lemmas.Result.{err_from_is_err_and}
use Rattle.types.specs.Refusal.{unless-ok, refusal-some}
use Rattle.block.specs.Block.{dec_block}
use Rattle.rows.specs.Holds.{Holds, holds}
use Rattle.outcome.specs.Outcome.{outcome-0, outcome-found, left-0, left-found}
use Rattle.outcome.specs.Findings.{found_of, room-refused}
use Rattle.sound.specs.Threads.{CurrentOk}
use Rattle.sound.proofs.Question.{t_block}
use Rattle.soundness.specs.Creates.{current-more}
use Rattle.svc.specs.Threads.{exit_as, exit_thread}
use Rattle.threads.proofs.Found.{exit_finding, exit-silent}
use Rattle.threads.proofs.exit.exit_thread.Goals as goal
use Rattle.threads.proofs.exit.exit_thread.Goals.{in-Some, in_default}

pub returns-in_err-room : goal.returns-in_err-room
unfolding exit_thread
returns-in_err-room c =
    let b = c.args.block.now in
    let p = err_from_is_err_and c.from_residual.result c.from_residual.ensures.1 in
    let f = exit_finding b (dec_block b).current_thread ∙ ap (found_of false) (sym c.out_of_handles.ensures) ∙ room-refused false c.out_of_handles.result tt _ (sym c.room.ensures ∙ c.in_err-room.was) in
    rw (p.1, p.2) record { value = sym (outcome-found _ _ f); block_after = sym (left-found _ _ (λ e. refusal-some _ (sym f ∙ e))) }

pub put_ended-requires : goal.put_ended-requires
put_ended-requires c =
    let k = dec_block c.args.block.now in
    let h = ((t_block _).yes c.requires.block_value).state.threads in
    record {
      block_value = c.requires.block_value;
      t_bound = subst (λ (x : Option ℕ). CurrentOk x 32) (sym c.current.ensures ∙ c.in-Some.is) (current-more k.current_thread k.thread_count 32 h.many h.current);
    }

pub returns : goal.returns
unfolding exit_thread
returns c =
    let b = c.args.block.now in
    let k = dec_block b in
    let f = exit_finding b k.current_thread ∙ ap (found_of false) (sym c.out_of_handles.ensures) ∙ unless-ok _ tt _ (sym c.room.ensures ∙ c.in_ok-room.was) in
    let g : Holds c.match-current.block (exit_as k.current_thread k).kernel = elim c.match-current.branch [
      | in-Some w ↦ rw (w.block-is, ap (λ (x : Option ℕ). (exit_as x k).kernel) (sym c.current.ensures ∙ w.in-Some.is)) w.put_ended.ensures
      | in_default w ↦ rw (w.block-is, ap (λ (x : Option ℕ). (exit_as x k).kernel) (sym c.current.ensures ∙ w.in_default.is)) (holds b c.requires.block_value)
    ] in
    record { value = ap Ok (c.silent.ensures ∙ sym (exit-silent k.current_thread k)) ∙ sym (outcome-0 _ f); block_after = g.same ∙ sym (left-0 _ b f) }
