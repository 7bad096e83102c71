use Rattle.std.proofs.Common.{◌∙◌, ◌+◌, ◌*◌, ◌≤◌, ◌<◌, length, arith}
use Rattle.codec.specs.Layout.{enc_all}
use Rattle.codec.proofs.Laws.{over_none}
use Rattle.codec.proofs.Rows.{write_more}
use Rattle.block.proofs.record.write_all.Goals as goal

-- The first i records are written; a turn writes one more.

pub loop-i-init : goal.loop-i-init
unfolding enc_all
loop-i-init g c = over_none _ c.args.at

pub loop-i-preserved : goal.loop-i-preserved
loop-i-preserved g c =
    let a = c.args in
    let l = c.loop-i in
    let h : l.i < length a.l.now = omega arith in
    let k : a.at + length a.l.now * g.R.Record.SIZE ≤ length a.b.now = rw c.told-l c.requires in
    c.write.ensures
    ∙ rw l.invariant (write_more g.R.Record.enc g.R.Record.SIZE g.met.R.Record.sized l.i a.l.now c.index-l-i.result a.b.now a.at h k)
