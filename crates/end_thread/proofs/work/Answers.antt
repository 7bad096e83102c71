use Rattle.std.proofs.Common.{ap, sym, refl, [], ◌∙◌}
use Rattle.std.proofs.lemmas.Result.{err_from_is_err_and}
use Rattle.std.specs.Prelude.{◌≡◌}
use borrow.Author.Tests.{eq-eqb, ne_eqb}
use Rattle.laws.specs.Logic.{pick_yes, pick_no}
use Rattle.types.specs.Refusal.{found_in, refusal_number, refusal-some, unless-ok}
use Rattle.block.specs.Block.{enc_block, dec_block}
use Rattle.sound.specs.Question.{sound?}
use Rattle.thread.specs.Threads.{end_thread}
use Rattle.lent.specs.Lent.{lent, with_block, back}
use Rattle.lent.specs.Operations.{finding, end_refusal}
use Rattle.lent.specs.Operations as operation
use Rattle.lent.proofs.Cases.{change-own, change-found, change-0}
use Rattle.outcome.specs.Findings.{found-finding}
use Rattle.end_thread.proofs.Place.{found-refusal, refusal-place}
use Rattle.end_thread.proofs.work.Goals as goal

pub returns-in_err-end_refusal : goal.returns-in_err-end_refusal
unfolding operation.end_thread
returns-in_err-end_refusal c =
    let l = lent c.args.block.now [] [] [] [] in
    let id = c.args.id in
    let b = c.in-Some.ensures.cases in
    let p = err_from_is_err_and c.from_residual.result c.from_residual.ensures.1 in
    let r = c.in_err-end_refusal.field-0.0 in
    let n : refusal_number r ≡ end_refusal id (dec_block c.in-Some.block.now) = ap found_in (sym c.in_err-end_refusal.was ∙ c.end_refusal.ensures) ∙ found-refusal tt id _ in
    rw (p.1, p.2, b.same) (change-own _ (end_refusal id) (λ k. end_thread k id) (λ k. back 0 (with_block l (enc_block (end_thread k id)))) l (eq-eqb _ 16384 b.long) (dec_block c.in-Some.block.now) (ap dec_block b.same) _ (c.block_ok.ensures ∙ ap sound? b.same) c.if-not-block_ok.false (refusal_number r) n (refusal-some r))

pub end_thread-requires-clause-t_bound : goal.end_thread-requires-clause-t_bound
end_thread-requires-clause-t_bound c = refusal-place c.in-Some.block.now c.args.id (unless-ok _ tt _ (sym c.end_refusal.ensures ∙ c.in_ok-end_refusal.was))

pub returns-in_err-end_thread : goal.returns-in_err-end_thread
unfolding operation.end_thread
returns-in_err-end_thread c =
    let l = lent c.args.block.now [] [] [] [] in
    let id = c.args.id in
    let b = c.in-Some.ensures.cases in
    let p = err_from_is_err_and c.from_residual-in_err-end_thread.result c.from_residual-in_err-end_thread.ensures.1 in
    let r = c.in_err-end_thread.field-0.0 in
    let z = unless-ok _ tt _ (sym c.end_refusal.ensures ∙ c.in_ok-end_refusal.was) in
    let n : refusal_number r ≡ finding (end_thread (dec_block c.in-Some.block.now) id) = ap found_in (sym c.in_err-end_thread.was ∙ c.end_thread.ensures.value) ∙ found-finding _ tt in
    let e = c.end_thread.ensures.block_after ∙ pick_no _ _ _ (ne_eqb _ 0 (λ w. refusal-some r (sym (ap found_in c.in_err-end_thread.was) ∙ w))) ∙ b.same in
    rw (p.1, p.2, e) (change-found _ (end_refusal id) (λ k. end_thread k id) (λ k. back 0 (with_block l (enc_block (end_thread k id)))) l (eq-eqb _ 16384 b.long) (dec_block c.in-Some.block.now) (ap dec_block b.same) _ (c.block_ok.ensures ∙ ap sound? b.same) c.if-not-block_ok.false 0 (sym z) refl (refusal_number r) n (refusal-some r))

pub returns : goal.returns
unfolding operation.end_thread
returns c =
    let l = lent c.args.block.now [] [] [] [] in
    let id = c.args.id in
    let b = c.in-Some.ensures.cases in
    let z = unless-ok _ tt _ (sym c.end_refusal.ensures ∙ c.in_ok-end_refusal.was) in
    let n : 0 ≡ finding (end_thread (dec_block c.in-Some.block.now) id) = ap found_in (sym c.in_ok-end_thread.was ∙ c.end_thread.ensures.value) ∙ found-finding _ tt in
    let e = c.end_thread.ensures.block_after ∙ pick_yes _ _ _ (eq-eqb _ 0 (ap found_in c.in_ok-end_thread.was)) in
    rw e (change-0 _ (end_refusal id) (λ k. end_thread k id) (λ k. back 0 (with_block l (enc_block (end_thread k id)))) l (eq-eqb _ 16384 b.long) (dec_block c.in-Some.block.now) (ap dec_block b.same) _ (c.block_ok.ensures ∙ ap sound? b.same) c.if-not-block_ok.false 0 (sym z) refl 0 n refl)
