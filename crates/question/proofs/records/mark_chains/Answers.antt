use mathlib.Core.Path.{refl, sym, ◌∙◌}
use native.Mathlib.Omega.{arith}
use Rattle.laws.specs.Logic.{and_yes, and-true}
use Rattle.laws.specs.Walk.{walk}
use Rattle.laws.specs.Tally.{tally_all-more}
use Rattle.question.proofs.Steps.{eager-and}
use Rattle.question.specs.ObjectSteps.{chains-next, chains-start, lone_more}
use Rattle.question.proofs.records.mark_chains.Goals as goal

pub loop-i-init : goal.loop-i-init
loop-i-init c = record { lone = refl; marks = refl; pairs = λ w ad. chains-start _ _ ad _ _ }

pub loop-i-preserved : goal.loop-i-preserved
loop-i-preserved c =
    let l = c.loop-i in
    let a = c.args in
    let x = a.r.now.nexts in
    let k = c.mark_head.ensures in
    let e = c.in_ok-apart.was in
    record {
      lone = rw (k.m_after _ e) (sym (and_yes _ _ (k.lone _ e)) ∙ sym (lone_more x l.m a.heads.now l.i (omega arith)) ∙ l.invariant.lone);
      marks = rw (k.m_after _ e) (sym (tally_all-more 129 (walk x 64) a.heads.now l.i 0 l.m (omega arith)) ∙ l.invariant.marks);
      pairs = λ w ad.
          let both = and-true _ _ (sym (eager-and l.apart c.in_ok-apart.field-0) ∙ w) in
          let f = rw both.1 at e in
          chains-next x a.r.now.threads ad a.n a.heads.now l.i (k.pairs f ad) (l.invariant.pairs both.0 ad);
    }
