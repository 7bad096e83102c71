use mathlib.Core.Path.{◌∙◌}
use Rattle.rows.specs.Head.{sound-head}
use Rattle.rows.specs.Holds.{holds}
use Rattle.objects.proofs.Made.{inserted}
use Rattle.objects.proofs.open.put_inserted.Goals as goal

pub returns : goal.returns
returns c = let b = c.args.block.now in
    let s = c.requires.block_value in
    let h = c.get_head-head in
    let m = c.insert-made.ensures in
    rw (c.put_head.ensures, m.block_after, m.value)
    (inserted b (holds b s) c.args.v c.args.process.0 h.result (h.ensures ∙ sound-head b s))
