use Rattle.std.specs.Prelude.{None}
use mathlib.Core.Path.{◌≡◌}
use Prim.Native.Nat.{◌≤◌}
use lib.ListN.{length, take, drop}
use Rattle.laws.specs.All.{All}
use Rattle.laws.specs.Tally.{tally_all}
use Rattle.types.specs.Thread.{wait_list}
use Rattle.block.specs.Block.{dec_block}
use Rattle.kernel.specs.NextEvent.{next_wake}
use Rattle.kernel.specs.Marks.{list_if, lists_if}
use Rattle.asked.proofs.event.look_at_threads.Given as goal

abbrev pub invariant-loop-i : goal.invariant-loop-i
invariant-loop-i l = record {
  wake : next_wake l.best (drop l.i (dec_block l.b).threads) ≡ next_wake None (dec_block l.b).threads;
  marks : tally_all 129 l.m (lists_if (drop l.i (dec_block l.b).threads)) ≡ tally_all 129 l.initial.m (lists_if (dec_block l.b).threads);
  short : All (λ t. length (list_if t) ≤ wait_list) (take l.i (dec_block l.b).threads);
}
