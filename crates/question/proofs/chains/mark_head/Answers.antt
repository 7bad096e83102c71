use mathlib.Core.Bool.{true}
use mathlib.Core.Path.{ap, sym, ◌∙◌}
use Rattle.laws.specs.Logic.{and-true}
use Rattle.laws.specs.Walk.{walk, walk-nil}
use Rattle.sound.specs.Records.{chain?}
use Rattle.question.specs.Apart.{outcome_open, outcome-ends, outcome-apart, apart-chain, lone_nil}
use Rattle.question.specs.ObjectSteps.{mark_nil}
use Rattle.question.proofs.chains.mark_head.Goals as goal

pub returns-then-head-eq0 : goal.returns-then-head-eq0
unfolding chain?
returns-then-head-eq0 c =
    let a = c.args in
    let x = a.r.now.nexts in
    let e = c.if-head-eq0.true in
    record {
      broken = λ w. cc;
      lone = λ b w. lone_nil x a.m.now 64 a.head e;
      m_after = λ b w. (mark_nil x a.m.now 64 a.head e).1;
      pairs = λ w ad. ap (chain? a.r.now.threads ad a.n) (walk-nil x 64 a.head e);
    }

pub returns-in-Broken : goal.returns-in-Broken
returns-in-Broken c =
    let k = c.mark_apart.ensures in
    record {
      broken = λ w. outcome_open _ _ (sym k.value ∙ c.in-Broken.is);
      lone = λ b w. cc;
      m_after = λ b w. cc;
      pairs = λ w ad. cc;
    }

pub returns-in-Shared : goal.returns-in-Shared
returns-in-Shared c =
    let k = c.mark_apart.ensures in
    record {
      broken = λ w. cc;
      lone = λ b w. outcome-ends _ _ (λ z. let e = sym c.in-Shared.is ∙ (k.value ∙ z) in cc);
      m_after = λ b w. k.m_after (λ z. let e = sym c.in-Shared.is ∙ z in cc);
      pairs = λ w ad. cc;
    }

pub returns-in-Apart : goal.returns-in-Apart
returns-in-Apart c =
    let a = c.args in
    let x = a.r.now.nexts in
    let k = c.mark_apart.ensures in
    let e = (and-true true _ (outcome-apart _ _ (sym k.value ∙ c.in-Apart.is))).1 in
    record {
      broken = λ w. cc;
      lone = λ b w. outcome-ends _ _ (λ z. let e = sym c.in-Apart.is ∙ (k.value ∙ z) in cc);
      m_after = λ b w. k.m_after (λ z. let e = sym c.in-Apart.is ∙ z in cc);
      pairs = λ w ad. apart-chain a.n a.r.now.threads ad a.mark (walk x 64 a.head) a.seen.now c.told-seen e;
    }
