use Rattle.std.proofs.Common.{◌≡◌, take}
use Rattle.codec.specs.Bytes.{bytes, over}
use Rattle.codec.specs.Layout.{enc_all}
use Rattle.codec.proofs.put_words.Given as goal

abbrev pub invariant-loop-i : goal.invariant-loop-i
invariant-loop-i g l = l.b ≡ over l.initial.b l.at (enc_all (bytes 4) (take l.i l.l))
