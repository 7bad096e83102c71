use Rattle.std.specs.Prelude.{None}
use mathlib.Core.Path.{◌∙◌}
use Prim.Native.Nat.{◌+◌, ◌≤◌}
use native.Mathlib.Omega.{arith}
use lib.ListN.{length}
use Rattle.laws.specs.All.{all_map}
use Rattle.types.specs.Thread.{wait_list}
use Rattle.block.specs.Block.{dec_block}
use Rattle.kernel.specs.NextEvent.{next_wake}
use Rattle.kernel.specs.Marks.{list_if, due-is}
use Rattle.rows.specs.Sizes.{size-threads, size-slots}
use Rattle.asked.proofs.Idle.{event-is}
use Rattle.asked.proofs.event.next_event.Goals as goal

pub returns : goal.returns
returns c = let k = dec_block c.args.b.now in
    let e = c.look_at_threads-best.ensures in
    let s = size-slots c.args.b.now in
    let h : 1 + length k.objects.slots ≤ 129 = omega (arith, s) in
    c.next_due.ensures
    ∙ rw (e.result_value, e.m_after) (due-is k.threads (size-threads c.args.b.now) (all_map (λ l. length l ≤ wait_list) list_if k.threads e.all) (next_wake None k.threads) 1 k.objects.slots h)
    ∙ event-is k
