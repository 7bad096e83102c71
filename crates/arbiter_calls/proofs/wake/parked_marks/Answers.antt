use Prim.Native.Nat.{◌≤◌}
use native.Mathlib.Omega.{arith}
use lib.ListN.{length}
use Rattle.types.specs.declared.thread.Thread.{Thread}
use Rattle.block.specs.Block.{dec_block}
use Rattle.tally.specs.Columns.{map-done}
use Rattle.svc.specs.Arbiter.{parked_at}
use Rattle.rows.specs.Sizes.{size-threads}
use Rattle.laws.specs.Count.{one?}
use Rattle.arbiter_calls.proofs.wake.parked_marks.Goals as goal

pub returns : goal.returns
returns c = let l = c.loop-i in
    let a = c.args in
    let ts = (dec_block a.block.now).threads in
    let e : length ts ≤ l.i = omega (arith, size-threads a.block.now) in
    let k : length l.r ≤ l.i = omega arith in
    map-done (λ (x : Thread). one? (parked_at x a.a)) ts l.r l.i e k l.invariant.1
