use mathlib.Core.Path.{◌∙◌}
use Rattle.rows.specs.Head.{sound-head}
use Rattle.rows.specs.Holds.{holds}
use Rattle.objects.proofs.Made.{created}
use Rattle.objects.proofs.create.put_created.Goals as goal

pub returns : goal.returns
returns c = let b = c.args.block.now in
    let g = c.give-given.ensures in
    let m = c.insert-made.ensures in
    rw (c.put_head.ensures, g.block_after, g.value, m.block_after, m.value)
    (created b (holds b c.requires) c.args.v c.get_head-head.result (c.get_head-head.ensures ∙ sound-head b c.requires))
