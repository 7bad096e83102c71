use mathlib.Core.Path.{◌∙◌}
use native.Mathlib.Omega.{arith}
use Rattle.codec.specs.Bytes.{bytes}
use Rattle.codec.proofs.Laws.{over-next, length-bytes}
use Rattle.codec.proofs.put_two.Goals as goal

pub returns : goal.returns
returns c =
    let a = c.args in
    let l = length-bytes 4 a.v.0 in
    c.put32-2.ensures ∙ rw c.put32.ensures (over-next a.b.now a.at 4 (bytes 4 a.v.0) (bytes 4 a.v.1) l (rw (length-bytes 4 a.v.1) (omega arith)))
