use mathlib.Core.Path.{◌≡◌}
use lib.ListN.{drop}
use Rattle.block.specs.Block.{dec_block}
use Rattle.wait_calls.specs.Room.{met}
use Rattle.wait_calls.proofs.room.met.Given as goal

abbrev pub invariant-loop-h : goal.invariant-loop-h
invariant-loop-h l = let k = dec_block l.block in met k.current_thread k.handles l.p.0 (drop l.h-index l.handles) ≡ met k.current_thread k.handles l.p.0 l.handles
