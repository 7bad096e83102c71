use mathlib.Core.Path.{◌≡◌}
use Prim.Native.Nat.{◌≤◌}
use lib.ListN.{length, take, drop}
use Rattle.laws.specs.All.{All}
use Rattle.laws.specs.Tally.{tally_all}
use Rattle.types.specs.Thread.{wait_list}
use Rattle.block.specs.Block.{dec_block}
use Rattle.signal.specs.Marks.{sync_list, sync_lists}
use Rattle.due.proofs.mark_lists.Given as goal

abbrev pub invariant-loop-i : goal.invariant-loop-i
invariant-loop-i l = record {
  marks : tally_all 129 l.m (sync_lists (drop l.i (dec_block l.b).threads)) ≡ tally_all 129 l.initial.m (sync_lists (dec_block l.b).threads);
  short : All (λ t. length (sync_list t) ≤ wait_list) (take l.i (dec_block l.b).threads);
}
