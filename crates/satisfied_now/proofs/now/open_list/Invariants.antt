use mathlib.Core.List.{map}
use mathlib.Core.Path.{◌≡◌}
use Rattle.codec.specs.Layout.{dec_all}
use Rattle.codec.specs.Bytes.{num}
use Rattle.block.specs.Block.{dec_block}
use Rattle.pass.specs.Asks.{wait_at_once, padded, open_object}
use Rattle.satisfied_now.proofs.now.open_list.Given as goal

abbrev pub invariant-loop-i : goal.invariant-loop-i
invariant-loop-i l = l.l ≡ padded wait_at_once (map (open_object (dec_block l.b)) (dec_all num 4 l.i l.handles 0))
