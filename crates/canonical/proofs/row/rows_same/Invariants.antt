use Rattle.std.proofs.Common.{◌≡◌, ◌+◌, ◌-◌, ◌*◌}
use Rattle.canonical.specs.Rows.{rows?}
use Rattle.canonical.proofs.row.rows_same.Given as goal

abbrev pub invariant-loop-i : goal.invariant-loop-i
invariant-loop-i g l =
    let r = g.R.Record in
    rows? r.enc r.dec r.SIZE l.n l.b l.at ≡ rows? r.enc r.dec r.SIZE (l.n - l.i) l.b (l.at + l.i * r.SIZE)
