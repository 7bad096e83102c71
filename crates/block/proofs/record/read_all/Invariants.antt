use Rattle.std.proofs.Common.{◌≡◌, length, take}
use Rattle.codec.specs.Layout.{dec_all}
use Rattle.block.proofs.record.read_all.Given as goal

abbrev pub invariant-loop-i : goal.invariant-loop-i
invariant-loop-i g l = (length l.l ≡ g.row.N) × (take l.i l.l ≡ dec_all g.R.Record.dec g.R.Record.SIZE l.i l.b l.at)
