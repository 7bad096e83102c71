use mathlib.Core.Path.{◌∙◌}
use Rattle.block.specs.Block.{dec_block}
use Rattle.release.specs.Encoded.{encoded-head}
use Rattle.handle_calls.proofs.Removed.{taken_out_lem}
use Rattle.handle_calls.proofs.close.take_out.Goals as goal

pub returns : goal.returns
returns c = let b = c.args.block.now in
    rw c.put_head.ensures (taken_out_lem _ (dec_block b) c.args.i c.remove_entry.ensures c.get_head-head.result (c.get_head-head.ensures ∙ encoded-head b c.requires.encoded) c.saturating_sub.result c.saturating_sub.ensures)
