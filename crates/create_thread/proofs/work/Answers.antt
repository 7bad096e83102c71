use Rattle.std.proofs.Common.{ap, sym, refl, [], ◌∙◌}
use Rattle.std.proofs.lemmas.Result.{err_from_is_err_and}
use Rattle.std.specs.Prelude.{◌≡◌, ℕ, ◌*◌}
use borrow.Author.Tests.{eq-eqb, ne_eqb}
use Rattle.laws.specs.Logic.{and_no, and_yes, true-and, pick_yes, pick_no}
use Rattle.codec.specs.Bytes.{bytes, over}
use Rattle.codec.specs.Layout.{dec_as}
use Rattle.types.specs.Refusal.{found_in, refusal_number, refusal-some, unless-ok}
use Rattle.types.specs.declared.kernel.Kernel.{Kernel}
use Rattle.block.specs.Block.{enc_block, dec_block}
use Rattle.block.specs.Context.{enc_context}
use Rattle.sound.specs.Question.{sound?}
use Rattle.thread.specs.Thread.{new_context}
use Rattle.thread.specs.Threads.{create_thread, ended_thread}
use Rattle.lent.specs.Lent.{Lent, lent, Back, back}
use Rattle.lent.specs.Operations.{row_made, finding}
use Rattle.lent.specs.Operations as operation
use Rattle.lent.proofs.Cases.{change-1, change-found, change-0, made-place}
use Rattle.outcome.specs.Findings.{found-finding}
use Rattle.create_thread.proofs.work.Goals as goal

abbrev work : ℕ → ℕ → ℕ → ℕ → Kernel → Kernel
work entry stack priority processor = λ k. create_thread k entry stack priority processor

abbrev result : Lent → ℕ → ℕ → ℕ → ℕ → ℕ → Kernel → Back
result l entry stack arg priority processor = λ k. back 0 (lent (enc_block (create_thread k entry stack priority processor)) (row_made l.bank k entry stack arg) l.processor l.window (bytes 4 (ended_thread k)))

pub returns-in_default-as_mut_array : goal.returns-in_default-as_mut_array
unfolding operation.create_thread
returns-in_default-as_mut_array c =
    let a = c.args in
    let l = lent a.block.now a.bank.now [] [] a.answer.now in
    let b = c.in-Some.ensures.cases in
    rw b.same (change-1 _ (λ k. 0) (work a.asked.entry a.asked.stack_top a.asked.priority a.asked.processor_id) (result l a.asked.entry a.asked.stack_top a.arg a.asked.priority a.asked.processor_id) l (and_yes _ _ (eq-eqb _ 16384 b.long) ∙ and_no _ _ (ne_eqb _ 6656 c.in_default-as_mut_array.ensures.cases)))

pub returns-in_default-as_mut_array-2 : goal.returns-in_default-as_mut_array-2
unfolding operation.create_thread
returns-in_default-as_mut_array-2 c =
    let a = c.args in
    let l = lent a.block.now a.bank.now [] [] a.answer.now in
    let b = c.in-Some.ensures.cases in
    let k = c.in-Some-as_mut_array.ensures.cases in
    rw (b.same, k.same) (change-1 _ (λ k. 0) (work a.asked.entry a.asked.stack_top a.asked.priority a.asked.processor_id) (result l a.asked.entry a.asked.stack_top a.arg a.asked.priority a.asked.processor_id) l (and_yes _ _ (eq-eqb _ 16384 b.long) ∙ and_yes _ _ (eq-eqb _ 6656 k.long) ∙ ne_eqb _ 4 c.in_default-as_mut_array-2.ensures.cases))

pub returns-in_err-create_thread : goal.returns-in_err-create_thread
unfolding operation.create_thread
returns-in_err-create_thread c =
    let a = c.args in
    let l = lent a.block.now a.bank.now [] [] a.answer.now in
    let b = c.in-Some.ensures.cases in
    let k = c.in-Some-as_mut_array.ensures.cases in
    let n = c.in-Some-as_mut_array-2.ensures.cases in
    let p = err_from_is_err_and c.from_residual.result c.from_residual.ensures.1 in
    let r = c.in_err-create_thread.field-0.0 in
    let m : refusal_number r ≡ finding (create_thread (dec_block c.in-Some.block.now) a.asked.entry a.asked.stack_top a.asked.priority a.asked.processor_id) = ap found_in (sym c.in_err-create_thread.was ∙ c.create_thread.ensures.value) ∙ found-finding _ tt in
    let e = c.create_thread.ensures.block_after ∙ pick_no _ _ _ (ne_eqb _ 0 (λ w. refusal-some r (sym (ap found_in c.in_err-create_thread.was) ∙ w))) ∙ b.same in
    rw (p.1, p.2, e, k.same, n.same) (change-found _ (λ k. 0) (work a.asked.entry a.asked.stack_top a.asked.priority a.asked.processor_id) (result l a.asked.entry a.asked.stack_top a.arg a.asked.priority a.asked.processor_id) l (true-and _ _ (eq-eqb _ 16384 b.long) (true-and _ _ (eq-eqb _ 6656 k.long) (eq-eqb _ 4 n.long))) (dec_block c.in-Some.block.now) (ap dec_block b.same) _ (c.block_ok.ensures ∙ ap sound? b.same) c.if-not-block_ok.false 0 refl refl (refusal_number r) m (refusal-some r))

pub put_made-requires : goal.put_made-requires
put_made-requires c =
    let a = c.args in
    let p = made-place (dec_block c.in-Some.block.now) a.asked.entry a.asked.stack_top a.asked.priority a.asked.processor_id (unless-ok _ tt _ (sym c.create_thread.ensures.value ∙ c.in_ok-create_thread.was)) in
    record { id_bound = rw c.ended_thread-id.ensures p }

pub returns : goal.returns
unfolding operation.create_thread dec_block dec_as
returns c =
    let a = c.args in
    let l = lent a.block.now a.bank.now [] [] a.answer.now in
    let b = c.in-Some.ensures.cases in
    let k = c.in-Some-as_mut_array.ensures.cases in
    let n = c.in-Some-as_mut_array-2.ensures.cases in
    let m : 0 ≡ finding (create_thread (dec_block c.in-Some.block.now) a.asked.entry a.asked.stack_top a.asked.priority a.asked.processor_id) = ap found_in (sym c.in_ok-create_thread.was ∙ c.create_thread.ensures.value) ∙ found-finding _ tt in
    let e = c.create_thread.ensures.block_after ∙ pick_yes _ _ _ (eq-eqb _ 0 (ap found_in c.in_ok-create_thread.was)) in
    let w = c.put_made.ensures.bank_after ∙ (λ i. over (k.same i) (c.ended_thread-id.ensures i * 208) (enc_context (new_context (c.get32-word.ensures i) a.asked.entry a.asked.stack_top a.arg (c.tls_slot-tls.ensures.value i)))) in
    let x = c.put_made.ensures.answer_after ∙ ap (bytes 4) c.ended_thread-id.ensures in
    (λ i. back 0 (lent (e i) (w i) [] [] (x i)))
    ∙ change-0 _ (λ k. 0) (work a.asked.entry a.asked.stack_top a.asked.priority a.asked.processor_id) (result l a.asked.entry a.asked.stack_top a.arg a.asked.priority a.asked.processor_id) l (true-and _ _ (eq-eqb _ 16384 b.long) (true-and _ _ (eq-eqb _ 6656 k.long) (eq-eqb _ 4 n.long))) (dec_block c.in-Some.block.now) (ap dec_block b.same) _ (c.block_ok.ensures ∙ ap sound? b.same) c.if-not-block_ok.false 0 refl refl 0 m refl
