use mathlib.Core.Path.{◌≡◌, sym, ◌∙◌}
use native.Mathlib.Omega.{arith}
use lib.ListN.{take}
use lib.Seq.{take_all}
use Rattle.laws.specs.Logic.{and_no, and_yes}
use Rattle.question.proofs.objects.held_ok.Goals as goal

pub returns-then-mark_chain : goal.returns-then-mark_chain
returns-then-mark_chain c =
    let l = c.args.s.now.nexts in
    let e : take 128 l ≡ l = take_all 128 l (omega (arith, c.well_formed)) in
    let v = rw e at c.mark_chain.ensures.value in
    let w = rw e at c.mark_chain.ensures.m_after in
    rw w at c.slots_ok.ensures ∙ sym (and_yes _ _ (sym v ∙ c.if-mark_chain.true))

pub returns-else-mark_chain : goal.returns-else-mark_chain
returns-else-mark_chain c =
    let l = c.args.s.now.nexts in
    let e : take 128 l ≡ l = take_all 128 l (omega (arith, c.well_formed)) in
    let v = rw e at c.mark_chain.ensures.value in
    c.if-mark_chain.false ∙ sym (and_no _ _ (sym v ∙ c.if-mark_chain.false))
