use borrow.Author.Rules.{rules}
use Rattle.kernel.specs.Fresh.{free_waiter}
use Rattle.kernel.proofs.Rows.{row_step}
use Rattle.kernel.proofs.fresh.free_waiters.Goals as goal

pub loop-i-preserved : goal.loop-i-preserved
loop-i-preserved c =
    let l = c.loop-i in
    record { long = search rules; row = rw (c.free_waiter.ensures, c.next_number.ensures) (row_step free_waiter 64 l.l l.i c.loop-i-test.true l.invariant.long l.invariant.row) }
