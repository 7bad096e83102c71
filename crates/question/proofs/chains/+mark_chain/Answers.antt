use mathlib.Core.Path.{◌≡◌, sym, ◌∙◌}
use Prim.Native.Nat.{◌≤◌}
use native.Mathlib.Omega.{arith}
use lib.ListN.{length, take}
use Rattle.laws.specs.Count.{at}
use Rattle.question.specs.ObjectSteps.{mark_go}
use Rattle.question.proofs.Cells.{take_cell, take_long}
use Rattle.question.proofs.chains.+mark_chain.Goals as goal

pub returns : goal.returns
returns g t c =
    let a = c.args in
    let x = a.nexts.now in
    let l = take a.n x in
    let k = c.mark_chain.ensures in
    let e : c.cell.result ≡ at l a.at = c.cell.ensures ∙ sym (take_cell a.n x a.at (omega arith)) in
    let f : a.at ≤ length l = omega (arith, take_long a.n x (omega (arith, c.well_formed))) in
    let w = mark_go l a.m.now a.left a.at c.if-left-eq0.false c.if-at-eq0.false f in
    record { value = k.value ∙ rw e w.0; m_after = k.m_after ∙ rw (c.bump_at.ensures, e) w.1 }
