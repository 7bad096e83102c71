use Rattle.std.proofs.Common.{refl, ◌∙◌, ◌<◌, length, arith}
use lib.ListN.{length-replicate, length-set}
use Rattle.codec.specs.Layout.{dec_all}
use Rattle.codec.proofs.Rows.{fill_more}
use Rattle.block.proofs.record.read_all.Goals as goal

-- The first i records are read; a turn reads one more.

pub loop-i-init : goal.loop-i-init
unfolding dec_all
loop-i-init g c = (length-replicate g.row.N c.default-l.result, refl)

pub loop-i-preserved : goal.loop-i-preserved
loop-i-preserved g c =
    let a = c.args in
    let l = c.loop-i in
    let h : l.i < length l.l = omega arith in
    (length-set l.l l.i c.read.result ∙ l.invariant.0, rw c.read.ensures (fill_more g.R.Record.dec g.R.Record.SIZE l.i a.b.now a.at l.l h l.invariant.1))
