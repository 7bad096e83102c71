use Rattle.std.proofs.Common.{◌≡◌, sym, ◌∙◌, ◌+◌, ◌-◌, ◌*◌, arith}
use native.Mathlib.Nat.{add-sub_cancel_left}
use Rattle.laws.specs.Logic.{and_yes}
use Rattle.canonical.specs.Rows.{rows_end, rows-turn}
use Rattle.canonical.proofs.row.rows_same.Goals as goal

-- The answer for all records is that for those not passed yet; a turn compares one.

pub loop-i-preserved : goal.loop-i-preserved
loop-i-preserved g c =
    let r = g.R.Record in
    let l = c.loop-i in
    let a = c.args in
    let e = rw (add-sub_cancel_left, c.SIZE-in-loop-i.ensures, c.SIZE.ensures) at c.canonical.ensures in
    let t = rows-turn r.enc r.dec r.SIZE g.met.R.Record.sized a.n l.i a.b.now a.at (omega arith) c.requires in
    l.invariant ∙ t ∙ and_yes _ _ (sym e ∙ c.if-not-canonical.false)

pub returns : goal.returns
returns g c =
    let r = g.R.Record in
    let l = c.loop-i in
    let z : c.args.n - l.i ≡ 0 = omega arith in
    sym (l.invariant ∙ rw z (rows_end r.enc r.dec r.SIZE c.args.b.now (c.args.at + l.i * r.SIZE)))
