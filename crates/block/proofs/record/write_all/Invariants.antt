use Rattle.std.proofs.Common.{◌≡◌, take}
use Rattle.codec.specs.Bytes.{over}
use Rattle.codec.specs.Layout.{enc_all}
use Rattle.block.proofs.record.write_all.Given as goal

abbrev pub invariant-loop-i : goal.invariant-loop-i
invariant-loop-i g l = l.b ≡ over l.initial.b l.at (enc_all g.R.Record.enc (take l.i l.l))
