use Rattle.std.specs.Prelude.{[], ℕ, length}
use Rattle.std.proofs.Common.{◌∙◌}
use borrow.Author.Tests.{eq-eqb, ne_eqb}
use Rattle.laws.specs.Logic.{and_no, and_yes}
use Rattle.types.specs.declared.kernel.Kernel.{Kernel}
use Rattle.svc.specs.Dispatch.{given, refusal}
use Rattle.lent.specs.Lent.{Lent, lent, Back, back}
use Rattle.lent.specs.Guest.{registers, served, served_written}
use Rattle.lent.specs.Guest as guest
use Rattle.lent.proofs.Cases.{change-1}
use Rattle.guest_call.proofs.with_lengths.Goals as goal

abbrev refused : ℕ → ℕ → Lent → Kernel → ℕ
refused base number l = refusal base (length l.window) number (given number (registers l.processor))

abbrev work : ℕ → ℕ → ℕ → Lent → Kernel → Kernel
work base number tick l = λ k. (served base number tick l k).kernel

abbrev result : ℕ → ℕ → ℕ → Lent → Kernel → Back
result base number tick l = λ k. back (served base number tick l k).answer (served_written base number l k (served base number tick l k))

pub returns-in_default-as_mut_array : goal.returns-in_default-as_mut_array
unfolding guest.dispatch
returns-in_default-as_mut_array c = let a = c.args in
    let l = lent a.block.now a.bank.now a.processor.now a.window.now [] in
    let b = c.in-Some.ensures.cases in
    rw b.same
    (change-1 _ (refused a.window_base a.number l) (work a.window_base a.number a.tick.0 l) (result a.window_base a.number a.tick.0 l) l
    (and_yes _ _ (eq-eqb _ 16384 b.long) ∙ and_no _ _ (ne_eqb _ 6656 c.in_default-as_mut_array.ensures.cases)))

pub returns-in_default-as_mut_array-2 : goal.returns-in_default-as_mut_array-2
unfolding guest.dispatch
returns-in_default-as_mut_array-2 c = let a = c.args in
    let l = lent a.block.now a.bank.now a.processor.now a.window.now [] in
    let b = c.in-Some.ensures.cases in
    let k = c.in-Some-as_mut_array.ensures.cases in
    rw (b.same, k.same)
    (change-1 _ (refused a.window_base a.number l) (work a.window_base a.number a.tick.0 l) (result a.window_base a.number a.tick.0 l) l
    (and_yes _ _ (eq-eqb _ 16384 b.long) ∙ (and_yes _ _ (eq-eqb _ 6656 k.long) ∙ and_no _ _ (ne_eqb _ 208 c.in_default-as_mut_array-2.ensures.cases))))
