use mathlib.Core.Path.{◌∙◌}
use borrow.Author.Rules.{rules}
use Rattle.dispatch.proofs.Numbers.{handle-call, no_handle_call, silent-left}
use lib.ListN.{take}
use Rattle.block.specs.Block.{dec_block}
use Rattle.dispatch.proofs.call.call.Goals as goal

-- each number of a call was asked for before
pub returns-in_default : goal.returns-in_default
returns-in_default c =
    let a = c.args in
    let k = dec_block a.block.now in
    let e = handle-call a.number k a.r (take a.n a.words) a.tick.0 (search rules) (search rules) (search rules) (search rules) (search rules) (search rules) (search rules) (search rules) (search rules) (search rules) (search rules) (search rules) (search rules) (search rules) (search rules)
    ∙ no_handle_call a.number k a.r (take a.n a.words) a.tick.0 (search rules) (search rules) (search rules) (search rules) (search rules) (search rules) in
    record { value = rw e c.no_call.ensures; block_after = rw e (silent-left a.block.now c.requires.block_value) }
