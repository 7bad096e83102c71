use mathlib.Core.Path.{◌≡◌}
use Prim.Native.Nat.{◌≤◌}
use lib.ListN.{length}
use Rattle.block.specs.Block.{dec_block}
use Rattle.handle_calls.proofs.Removed.{Removing}
use Rattle.handle_calls.proofs.close.remove_entry.Given as goal

abbrev pub invariant-loop-j : goal.invariant-loop-j
invariant-loop-j l = (l.j ≤ 255) × ((length l.block ≡ 16384) × Removing (dec_block l.initial.block) l.i l.j l.block)
