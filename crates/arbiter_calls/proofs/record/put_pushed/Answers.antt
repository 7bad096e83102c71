use mathlib.Core.Path.{sym, ◌∙◌}
use Rattle.block.specs.Block.{dec_block}
use Rattle.rows.specs.Holds.{holds}
use Rattle.arbiter_calls.proofs.Records.{held_as, push_kept}
use Rattle.arbiter_calls.proofs.record.put_pushed.Goals as goal

pub returns-in_default : goal.returns-in_default
returns-in_default c = let a = c.args in
    let b = a.block.now in
    held_as b (dec_block b) _ _ (push_kept (dec_block b).objects a.o.0 a.t a.a (sym c.place_for.ensures ∙ c.in_default.is)) (holds b c.requires.block_value)
