use Rattle.std.specs.Prelude.{None}
use mathlib.Core.Path.{refl, sym, ◌∙◌}
use Rattle.block.specs.Block.{dec_block}
use Rattle.svc.specs.Call.{done, answers}
use Rattle.wait_calls.specs.Waits.{wait_in}
use Rattle.wait_calls.proofs.Ways.{stays}
use Rattle.wait_calls.proofs.Lists.{nobody}
use Rattle.wait_calls.proofs.many.wait_list.Goals as goal

pub returns-in_default : goal.returns-in_default
returns-in_default c =
    let a = c.args in
    let b = a.block.now in
    let k = dec_block b in
    let e = stays b c.requires.block_value c.requires.block_value_2 _ (answers 16 k) (wait_in k None a.n a.r a.tick.0) refl refl c.from.ensures in
    rw c.in_default.is record { value = e.0; block_after = λ z. e.1 }

pub returns-in_default-current : goal.returns-in_default-current
returns-in_default-current c =
    let a = c.args in
    let b = a.block.now in
    let k = dec_block b in
    let e = stays b c.requires.block_value c.requires.block_value_2 _ (done k) _ refl (nobody k c.in-Some.l a.n a.r a.tick.0 (sym c.current.ensures ∙ c.in_default-current.is)) c.done.ensures in
    rw c.in-Some.is record { value = e.0; block_after = λ z. e.1 }
