use Rattle.std.specs.Prelude.{Option, ℕ}
use mathlib.Core.Path.{subst, sym, ◌∙◌}
use Rattle.block.specs.Block.{dec_block}
use Rattle.rows.specs.Holds.{Holds, holds}
use Rattle.svc.specs.Arbiter.{park_as}
use Rattle.arbiter_calls.proofs.park.park_by.Goals as goal

pub returns-in_default : goal.returns-in_default
returns-in_default c = let a = c.args in
    let b = a.block.now in
    subst (λ (t : Option ℕ). Holds b (park_as t (dec_block b) a.o.0 a.a a.time a.tick.0)) (sym (sym c.current.ensures ∙ c.in_default.is)) (holds b c.requires.block_value)
