use Rattle.object.specs.Held.{held}
use Rattle.rows.specs.Head.{sound-head}
use Rattle.rows.specs.Holds.{holds}
use Rattle.handle_calls.proofs.Written.{duplicated}
use mathlib.Core.Path.{ap, ◌∙◌}
use Rattle.handle_calls.proofs.duplicate.put_duplicate.Goals as goal

pub returns : goal.returns
returns c = let b = c.args.block.now in
    let g = c.give-given.ensures in
    rw (c.put_head.ensures, g.block_after, g.value, c.put_slot.ensures)
    (duplicated b _ (holds b c.requires) c.args.o c.get_head-head.result (c.get_head-head.ensures ∙ sound-head b c.requires) c.held.result (c.held.ensures ∙ ap held c.slot_at-old.ensures))
