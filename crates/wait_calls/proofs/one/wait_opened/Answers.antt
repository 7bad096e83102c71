use mathlib.Core.Path.{refl, sym, ◌∙◌}
use Rattle.block.specs.Block.{dec_block}
use Rattle.svc.specs.Call.{done, answers}
use Rattle.wait_calls.proofs.Ways.{stays, unknown, nobody}
use Rattle.wait_calls.proofs.one.wait_opened.Goals as goal

pub returns-then-o-eq0 : goal.returns-then-o-eq0
returns-then-o-eq0 c =
    let a = c.args in
    let b = a.block.now in
    let w' = stays b c.requires.block_value c.requires.block_value_2 _ (answers 16 (dec_block b)) _ refl (unknown (dec_block b) a.o.0 a.r a.tick.0 c.if-o-eq0.true) c.from.ensures in
    record { value = w'.0; block_after = w'.1 }

pub returns-in_default : goal.returns-in_default
returns-in_default c =
    let a = c.args in
    let b = a.block.now in
    let w' = stays b c.requires.block_value c.requires.block_value_2 _ (done (dec_block b)) _ refl (nobody (dec_block b) a.o.0 a.r a.tick.0 c.if-o-eq0.false (sym c.current.ensures ∙ c.in_default.is)) c.done.ensures in
    record { value = w'.0; block_after = w'.1 }
