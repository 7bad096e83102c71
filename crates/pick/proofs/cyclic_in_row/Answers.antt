use Rattle.std.proofs.Common.{◌≡◌, ◌-◌, length, arith}
use Rattle.pick.proofs.Turns.{turns-cyclic}
use Rattle.pick.proofs.cyclic_in_row.Goals as goal

pub loop-k-init : goal.loop-k-init
loop-k-init c =
    let n = length c.args.row.now in
    let e : n - 0 ≡ n = omega arith in
    rw e (turns-cyclic c.args.row.now c.args.p c.args.start c.requires.0 c.requires.1)
