use mathlib.Core.Path.{◌≡◌, refl, ap, sym, ◌∙◌}
use mathlib.Core.Bool.{false}
use mathlib.Core.List.{[]}
use Prim.Native.Nat.{ℕ}
use native.Mathlib.Omega.{arith}
use borrow.Author.Tests.{eq-eqb, ne_eqb}
use Rattle.laws.specs.Logic.{pick, and_yes, true-and}
use Rattle.types.specs.declared.kernel.Kernel.{Kernel}
use Rattle.block.specs.Block.{dec_block, enc_block}
use Rattle.sound.specs.Question.{sound?}
use Rattle.svc.specs.Dispatch.{runs?}
use Rattle.svc.specs.Collect as svc
use Rattle.lent.specs.Lent.{Lent, lent, Back, back}
use Rattle.lent.specs.Guest.{collect_bytes}
use Rattle.lent.specs.Guest as guest
use Rattle.lent.proofs.Cases.{change-1, change-found, change-0}
use Rattle.outcome.specs.Findings.{found_of}
use Rattle.collect.proofs.Found.{collect-finding}
use Rattle.collect.proofs.work.Goals as goal

abbrev refused : Kernel → ℕ
refused = λ k. pick (runs? k) 0 4

abbrev result : Lent → Kernel → Back
result l = λ k. back 0 (lent (enc_block (svc.collect k)) l.bank l.processor l.window (collect_bytes k))

pub returns-in_default-as_mut_array : goal.returns-in_default-as_mut_array
unfolding guest.collect
returns-in_default-as_mut_array c = let a = c.args in
    let l = lent a.block.now [] [] [] a.answer.now in
    rw c.in-Some.ensures.cases.same (change-1 _ refused svc.collect (result l) l (and_yes _ _ (eq-eqb _ 16384 c.in-Some.ensures.cases.long) ∙ ne_eqb _ 12 c.in_default-as_mut_array.ensures.cases))

pub returns-then-out_of_handles : goal.returns-then-out_of_handles
unfolding guest.collect
returns-then-out_of_handles c = let a = c.args in
    let l = lent a.block.now [] [] [] a.answer.now in
    let q : 0 ≡ refused (dec_block c.in-Some.block.now) = rw (sym c.runs.ensures ∙ c.if-not-runs.false) in
    let f = sym (collect-finding c.in-Some.block.now ∙ ap (found_of false) (sym c.out_of_handles.ensures ∙ c.if-out_of_handles.true)) in
    rw (c.in-Some.ensures.cases.same, c.in-Some-as_mut_array.ensures.cases.same) (change-found _ refused svc.collect (result l) l (true-and _ _ (eq-eqb _ 16384 c.in-Some.ensures.cases.long) (eq-eqb _ 12 c.in-Some-as_mut_array.ensures.cases.long)) (dec_block c.in-Some.block.now) (ap dec_block c.in-Some.ensures.cases.same) _ (c.block_ok.ensures ∙ ap sound? c.in-Some.ensures.cases.same) (c.if-not-block_ok.false) 0 q refl 8 f (λ e. omega (arith, e)))

pub returns : goal.returns
unfolding guest.collect svc.collected_result svc.collected_syscall
returns c = let a = c.args in
    let l = lent a.block.now [] [] [] a.answer.now in
    let q : 0 ≡ refused (dec_block c.in-Some.block.now) = rw (sym c.runs.ensures ∙ c.if-not-runs.false) in
    let f = sym (collect-finding c.in-Some.block.now ∙ ap (found_of false) (sym c.out_of_handles.ensures ∙ c.if-out_of_handles.false)) in
    rw (c.collect.ensures.same, c.put_collected.ensures, c.collected_result-result.ensures, c.collected_syscall-call.ensures)
    (change-0 _ refused svc.collect (result l) l (true-and _ _ (eq-eqb _ 16384 c.in-Some.ensures.cases.long) (eq-eqb _ 12 c.in-Some-as_mut_array.ensures.cases.long)) (dec_block c.in-Some.block.now) (ap dec_block c.in-Some.ensures.cases.same) _ (c.block_ok.ensures ∙ ap sound? c.in-Some.ensures.cases.same) (c.if-not-block_ok.false) 0 q refl 0 f refl)
