use mathlib.Core.Path.{◌≡◌, ap, sym, ◌∙◌}
use mathlib.Core.Bool.{true, false}
use native.Mathlib.Omega.{arith}
use lib.Dec.{ltb}
use lib.ListN.{length}
use Rattle.laws.specs.Logic.{◌and◌, and_no, and_assoc}
use Rattle.question.specs.Apart.{outcome, lone_met, code_nil, code_open, code_go}
use Rattle.question.specs.LinearObjects.{lone?}
use Rattle.question.specs.ObjectSteps.{mark_nil, mark_out, mark_far, mark_go}
use Rattle.question.proofs.Steps.{eager-and}
use Rattle.question.proofs.chains.+mark_apart.Goals as goal
use Rattle.question.proofs.chains.+mark_apart.Goals.{then-left-eq0-via-then-left-eq0, then-left-eq0-via-else-left-eq0+then-at-gt64, then-left-eq0-via-else-left-eq0+else-at-gt64+then-m-at-ne0}

pub returns-then-apart : goal.returns-then-apart
unfolding outcome
returns-then-apart t c =
    let a = c.args in
    record {
      value = ap (outcome true) (sym c.if-apart.true) ∙ code_nil a.n a.r.now.nexts a.r.now.threads a.seen.now a.m.now a.mark a.left a.at a.apart c.if-at-eq0.true;
      m_after = λ w. (mark_nil a.r.now.nexts a.m.now a.left a.at c.if-at-eq0.true).1;
    }

pub returns-else-apart : goal.returns-else-apart
unfolding outcome
returns-else-apart t c =
    let a = c.args in
    record {
      value = ap (outcome true) (sym c.if-apart.false) ∙ code_nil a.n a.r.now.nexts a.r.now.threads a.seen.now a.m.now a.mark a.left a.at a.apart c.if-at-eq0.true;
      m_after = λ w. (mark_nil a.r.now.nexts a.m.now a.left a.at c.if-at-eq0.true).1;
    }

pub returns-then-left-eq0-clause-value : goal.returns-then-left-eq0-clause-value
returns-then-left-eq0-clause-value t c =
    let a = c.args in
    let x = a.r.now.nexts in
    let n : length x ≡ 64 = omega (arith, c.well_formed) in
    let e : lone? x a.m.now a.left a.at ≡ false = elim c.then-left-eq0.branch [
      | then-left-eq0-via-then-left-eq0 w ↦ and_no _ _ (sym (mark_out x a.m.now a.left a.at w.if-left-eq0.true c.if-at-eq0.false).0)
      | then-left-eq0-via-else-left-eq0+then-at-gt64 w ↦
          and_no _ _ (sym (mark_far x a.m.now a.left a.at w.if-left-eq0.false c.if-at-eq0.false (omega arith)).0)
      | then-left-eq0-via-else-left-eq0+else-at-gt64+then-m-at-ne0 w ↦
          lone_met x a.m.now a.left a.at w.if-left-eq0.false c.if-at-eq0.false w.if-m-at-ne0.true
    ] in
    code_open a.n x a.r.now.threads a.seen.now a.m.now a.mark a.left a.at a.apart e

pub returns : goal.returns
returns t c =
    let a = c.args in
    let x = a.r.now.nexts in
    let n : length x ≡ 64 = omega (arith, c.well_formed) in
    let p = c.if-left-eq0.false in
    let q = c.if-at-eq0.false in
    let z = c.if-m-at-ne0.false in
    let d = c.bump_at.ensures in
    let u = c.cell-t.ensures in
    let v = c.cell.ensures in
    let g = c.fresh.ensures in
    let k = c.mark_apart.ensures in
    record {
      value = k.value ∙ rw (eager-and a.apart, eager-and (a.apart and ltb c.cell-t.result a.n), ← and_assoc a.apart, g.value, g.seen_after, u, v, d) (code_go a.n x a.r.now.threads a.seen.now a.m.now a.mark a.left a.at a.apart p q (omega arith) z);
      m_after = λ w. k.m_after w ∙ rw (d, v) (mark_go x a.m.now a.left a.at p q (omega arith)).1;
    }
