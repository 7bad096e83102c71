use mathlib.Core.Path.{◌∙◌}
use Rattle.block.specs.Block.{dec_block}
use Rattle.sound.proofs.Question.{t_block}
use Rattle.rows.specs.Head.{sound-head}
use Rattle.rows.specs.Holds.{holds}
use Rattle.threads.proofs.Handle.{handled}
use Rattle.threads.proofs.create.put_handle.Goals as goal

pub returns : goal.returns
returns c = let b = c.args.block.now in
    let p = c.requires in
    let s = p.block_value in
    let g = c.give-given.ensures in
    let m = c.insert-made.ensures in
    rw (c.put_head.ensures, g.block_after, g.value, c.put_kept.ensures, m.block_after, m.value)
    (handled (dec_block b) ((t_block b).yes s).state c.args.id p.id_bound p.id_value p.free_nonzero b (holds b s) c.get_head-head.result (c.get_head-head.ensures ∙ sound-head b s))
