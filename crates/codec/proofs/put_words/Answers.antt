use Rattle.std.proofs.Common.{◌∙◌, ◌+◌, ◌*◌, ◌≤◌, ◌<◌, length, arith}
use Rattle.codec.specs.Bytes.{bytes}
use Rattle.codec.specs.Layout.{enc_all}
use Rattle.codec.proofs.Laws.{over_none, length-bytes}
use Rattle.codec.proofs.Rows.{write_more}
use Rattle.codec.proofs.put_words.Goals as goal

-- The first i words are written; a turn writes one more.

pub loop-i-init : goal.loop-i-init
unfolding enc_all
loop-i-init g c = over_none _ c.args.at

pub loop-i-preserved : goal.loop-i-preserved
unfolding bytes
loop-i-preserved g c =
    let a = c.args in
    let l = c.loop-i in
    let h : l.i < length a.l.now = omega arith in
    let k : a.at + length a.l.now * 4 ≤ length a.b.now = rw c.told-l c.requires in
    c.put32.ensures ∙ rw l.invariant (write_more (bytes 4) 4 (length-bytes 4) l.i a.l.now 0 a.b.now a.at h k)
