use mathlib.Core.Path.{◌≡◌, sym, ◌∙◌}
use native.Mathlib.Omega.{arith}
use lib.ListN.{length, replicate}
use Rattle.laws.specs.Logic.{true-and, and_no, and_yes}
use Rattle.question.specs.LinearObjects.{fine_pool?}
use Rattle.question.specs.Lone.{not_shared, lone_ends}
use Rattle.question.proofs.Steps.{pool-ends}
use Rattle.question.proofs.records.shared_out.Goals as goal

pub returns-in_default : goal.returns-in_default
unfolding fine_pool?
returns-in_default c =
    let a = c.args in
    let n : length a.r.now.nexts ≡ 64 = omega (arith, c.well_formed) in
    sym (and_no _ _ (not_shared a.r.now.nexts n a.heads.now a.free (c.mark_chains.ensures.broken c.in_default.is)))

pub returns-then-apart : goal.returns-then-apart
returns-then-apart c =
    let a = c.args in
    let k = c.mark_chains.ensures in
    let e = lone_ends a.r.now.nexts a.heads.now (replicate 129 0) (k.lone _ c.in-Some.is) in
    let f = rw (k.m_after _ c.in-Some.is) at c.rest_free.ensures in
    c.if-apart.true
    ∙ sym (pool-ends _ _ _ _ _ _ e ∙ true-and _ _ (sym f ∙ c.if-rest_free.true) (k.pairs (rw c.if-apart.true at c.in-Some.is) _))

pub returns-else-apart : goal.returns-else-apart
returns-else-apart c =
    let a = c.args in
    let k = c.mark_chains.ensures in
    let e = lone_ends a.r.now.nexts a.heads.now (replicate 129 0) (k.lone _ c.in-Some.is) in
    let f = rw (k.m_after _ c.in-Some.is) at c.rest_free.ensures in
    c.chains_ok.ensures ∙ sym (pool-ends _ _ _ _ _ _ e ∙ and_yes _ _ (sym f ∙ c.if-rest_free.true))

pub returns-else-rest_free : goal.returns-else-rest_free
returns-else-rest_free c =
    let a = c.args in
    let k = c.mark_chains.ensures in
    let e = lone_ends a.r.now.nexts a.heads.now (replicate 129 0) (k.lone _ c.in-Some.is) in
    let f = rw (k.m_after _ c.in-Some.is) at c.rest_free.ensures in
    c.if-rest_free.false ∙ sym (pool-ends _ _ _ _ _ _ e ∙ and_no _ _ (sym f ∙ c.if-rest_free.false))
