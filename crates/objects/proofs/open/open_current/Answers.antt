use Rattle.std.specs.Prelude.{None}
use mathlib.Core.Path.{refl}
use Rattle.block.specs.Block.{dec_block}
use Rattle.object.specs.Kept.{of_current}
use Rattle.objects.proofs.Opened.{opens_same}
use Rattle.objects.proofs.open.open_current.Goals as goal

pub returns-in-None : goal.returns-in-None
returns-in-None c = let b = c.args.block.now in
    let s = c.requires.block_value in
    rw c.in-None.is (opens_same b s (of_current (dec_block b).objects None) c.there.result _ refl refl c.there.ensures)
