use Rattle.std.proofs.Common.{ap, sym, refl, [], arith, ◌∙◌}
use Rattle.std.proofs.lemmas.Result.{err_from_is_err_and}
use Rattle.std.specs.Prelude.{◌≡◌, true, ℕ, eqb, Err}
use borrow.Author.Tests.{eq-eqb, ne_eqb}
use Rattle.laws.specs.Logic.{◌and◌, and_no, and_yes, true-and}
use Rattle.types.specs.declared.kernel.Kernel.{Kernel}
use Rattle.block.specs.Block.{enc_block, dec_block}
use Rattle.sound.specs.Question.{sound?}
use Rattle.pass.specs.declared.Passed.{Passed}
use Rattle.pass.specs.Schedule.{tried, schedule}
use Rattle.scheduler.specs.Turn.{passed}
use Rattle.lent.specs.Lent.{Lent, lent, Back, back}
use Rattle.lent.specs.Operations.{pass_written}
use Rattle.lent.specs.Operations as operation
use Rattle.lent.proofs.Cases.{change-1, change-found, change-0}
use Rattle.take.proofs.Taken.{fits-as, refused-as}
use Rattle.schedule.proofs.Passes.{handles-found, over-found, none_found, pass-is, written_is}
use Rattle.schedule.proofs.work.Goals as goal

abbrev work : ℕ → Kernel → Kernel
work tick = λ k. (schedule k tick).kernel

abbrev result : Lent → ℕ → Kernel → Back
result l tick = λ k. back 0 (pass_written l (schedule k tick))

-- each of the four is as long as its array
all_long : (b n p w : ℕ) → b ≡ 16384 → n ≡ 6656 → p ≡ 208 → w ≡ 4 → eqb b 16384 and (eqb n 6656 and (eqb p 208 and eqb w 4)) ≡ true
all_long b n p w e f g h = true-and _ _ (eq-eqb b 16384 e) (true-and _ _ (eq-eqb n 6656 f) (true-and _ _ (eq-eqb p 208 g) (eq-eqb w 4 h)))

pub returns-in_default-as_mut_array : goal.returns-in_default-as_mut_array
unfolding operation.schedule
returns-in_default-as_mut_array c =
    let a = c.args in
    let l = lent a.block.now a.bank.now a.processor.now [] a.answer.now in
    let b = c.in-Some.ensures.cases in
    rw b.same (change-1 _ (λ k. 0) (work a.tick.0) (result l a.tick.0) l (and_yes _ _ (eq-eqb _ 16384 b.long) ∙ and_no _ _ (ne_eqb _ 6656 c.in_default-as_mut_array.ensures.cases)))

pub returns-in_default-as_mut_array-2 : goal.returns-in_default-as_mut_array-2
unfolding operation.schedule
returns-in_default-as_mut_array-2 c =
    let a = c.args in
    let l = lent a.block.now a.bank.now a.processor.now [] a.answer.now in
    let b = c.in-Some.ensures.cases in
    let n = c.in-Some-as_mut_array.ensures.cases in
    rw (b.same, n.same) (change-1 _ (λ k. 0) (work a.tick.0) (result l a.tick.0) l (and_yes _ _ (eq-eqb _ 16384 b.long) ∙ and_yes _ _ (eq-eqb _ 6656 n.long) ∙ and_no _ _ (ne_eqb _ 208 c.in_default-as_mut_array-2.ensures.cases)))

pub returns-in_default-as_mut_array-3 : goal.returns-in_default-as_mut_array-3
unfolding operation.schedule
returns-in_default-as_mut_array-3 c =
    let a = c.args in
    let l = lent a.block.now a.bank.now a.processor.now [] a.answer.now in
    let b = c.in-Some.ensures.cases in
    let n = c.in-Some-as_mut_array.ensures.cases in
    let p = c.in-Some-as_mut_array-2.ensures.cases in
    rw (b.same, n.same, p.same) (change-1 _ (λ k. 0) (work a.tick.0) (result l a.tick.0) l (and_yes _ _ (eq-eqb _ 16384 b.long) ∙ and_yes _ _ (eq-eqb _ 6656 n.long) ∙ and_yes _ _ (eq-eqb _ 208 p.long) ∙ ne_eqb _ 4 c.in_default-as_mut_array-3.ensures.cases))

pub returns-then-out_of_handles : goal.returns-then-out_of_handles
unfolding operation.schedule
returns-then-out_of_handles c =
    let a = c.args in
    let l = lent a.block.now a.bank.now a.processor.now [] a.answer.now in
    let b = c.in-Some.ensures.cases in
    let n = c.in-Some-as_mut_array.ensures.cases in
    let p = c.in-Some-as_mut_array-2.ensures.cases in
    let w = c.in-Some-as_mut_array-3.ensures.cases in
    rw (b.same, n.same, p.same, w.same) (change-found _ (λ k. 0) (work a.tick.0) (result l a.tick.0) l (all_long _ _ _ _ b.long n.long p.long w.long) (dec_block c.in-Some.block.now) (ap dec_block b.same) _ (c.block_ok.ensures ∙ ap sound? b.same) c.if-not-block_ok.false 0 refl refl 8 (handles-found c.in-Some.block.now a.tick.0 (sym c.out_of_handles.ensures ∙ c.if-out_of_handles.true)) (λ e. omega (arith, e)))

pub returns-in_err-try_waits : goal.returns-in_err-try_waits
unfolding operation.schedule
returns-in_err-try_waits c =
    let a = c.args in
    let l = lent a.block.now a.bank.now a.processor.now [] a.answer.now in
    let b = c.in-Some.ensures.cases in
    let n = c.in-Some-as_mut_array.ensures.cases in
    let p = c.in-Some-as_mut_array-2.ensures.cases in
    let w = c.in-Some-as_mut_array-3.ensures.cases in
    let q = err_from_is_err_and c.from_residual.result c.from_residual.ensures.1 in
    let o = refused-as _ tt _ (sym c.try_waits.ensures.value ∙ c.in_err-try_waits.was) in
    let e = c.try_waits.ensures.block_unchanged (c.in_err-try_waits.was ∙ ap Err o.1) ∙ b.same in
    rw (q.1, q.2, o.1, e, n.same, p.same, w.same) (change-found _ (λ k. 0) (work a.tick.0) (result l a.tick.0) l (all_long _ _ _ _ b.long n.long p.long w.long) (dec_block c.in-Some.block.now) (ap dec_block b.same) _ (c.block_ok.ensures ∙ ap sound? b.same) c.if-not-block_ok.false 0 refl refl 8 (over-found c.in-Some.block.now a.tick.0 o.0) (λ e. omega (arith, e)))

pub returns : goal.returns
unfolding operation.schedule
returns c =
    let a = c.args in
    let l = lent a.block.now a.bank.now a.processor.now [] a.answer.now in
    let b = c.in-Some.ensures.cases in
    let n = c.in-Some-as_mut_array.ensures.cases in
    let p = c.in-Some-as_mut_array-2.ensures.cases in
    let w = c.in-Some-as_mut_array-3.ensures.cases in
    let f = c.in-Some.block.now in
    let e = c.try_waits.new.block in
    let d = c.try_waits.ensures.block_after c.in_ok-try_waits.was in
    let s = c.try_waits.ensures.block_after_2 c.in_ok-try_waits.was in
    let h = c.get_head-head in
    let m = c.option_of-current in
    let r = c.read_all-tried in
    let t = c.choose-t in
    let x = c.put_passed.ensures in
    let q = pass-is f e a.tick.0 d s h.result h.ensures m.result m.ensures r.result r.ensures t.result t.ensures in
    let y : c.put_head.new.b ≡ enc_block (passed (dec_block f) (tried (dec_block f) a.tick.0).objects t.result).kernel =
    rw (c.put_head.ensures, c.write_all.ensures.b_after, c.head_after.ensures) (written_is f e a.tick.0 d s h.result h.ensures m.result m.ensures r.result r.ensures t.result t.ensures c.write_all.ensures.l_len) in
    rw (x.answer_after, x.processor_after, x.bank_after, y, n.same, p.same)
    (ap (λ (z : Passed). back 0 (pass_written l z)) q
    ∙ change-0 _ (λ k. 0) (work a.tick.0) (result l a.tick.0) l (all_long _ _ _ _ b.long n.long p.long w.long) (dec_block c.in-Some.block.now) (ap dec_block b.same) _ (c.block_ok.ensures ∙ ap sound? b.same) c.if-not-block_ok.false 0 refl refl 0 (none_found f a.tick.0 (fits-as _ tt tt (sym c.try_waits.ensures.value ∙ c.in_ok-try_waits.was)) (sym c.out_of_handles.ensures ∙ c.if-out_of_handles.false)) refl)
