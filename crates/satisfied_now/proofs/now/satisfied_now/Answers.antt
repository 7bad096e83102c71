use Rattle.std.specs.Prelude.{Option, ℕ}
use mathlib.Core.Path.{ap, ◌∙◌}
use Rattle.block.specs.Block.{dec_block}
use Rattle.pass.specs.Asks.{satisfied_by, satisfied_now}
use Rattle.lent.specs.Operations.{words}
use Rattle.satisfied_now.proofs.now.satisfied_now.Goals as goal

pub returns-in_default : goal.returns-in_default
unfolding satisfied_now
returns-in_default c =
    let a = c.args in
    c.unsatisfied.ensures ∙ ap (λ (u : Option ℕ). satisfied_by u (dec_block a.b.now) (words a.handles.now) a.all a.tick.0) c.in_default.ensures

pub returns : goal.returns
unfolding satisfied_now
returns c =
    let a = c.args in
    c.satisfied_by.ensures ∙ ap (λ (u : Option ℕ). satisfied_by u (dec_block a.b.now) (words a.handles.now) a.all a.tick.0) c.in-Some.ensures
