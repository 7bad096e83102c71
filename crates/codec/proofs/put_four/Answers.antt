use mathlib.Core.Path.{◌≡◌, ◌∙◌}
use lib.ListN.{length}
use native.Mathlib.Omega.{arith}
use Rattle.codec.specs.Bytes.{bytes}
use Rattle.codec.proofs.Laws.{over-next, length-bytes}
use mathlib.Core.List.{◌++◌, append_assoc}
use lib.ListN.{length-append}
use Rattle.codec.proofs.put_four.Goals as goal

pub returns : goal.returns
returns c =
    let a = c.args in
    let v = a.v in
    let l : length (bytes 4 v.0 ++ bytes 4 v.1) ≡ 8 = rw (length-append, length-bytes 4 v.0, length-bytes 4 v.1) in
    let m : length (bytes 4 v.2 ++ bytes 4 v.3) ≡ 8 = rw (length-append, length-bytes 4 v.2, length-bytes 4 v.3) in
    let e = over-next a.b.now a.at 8 (bytes 4 v.0 ++ bytes 4 v.1) (bytes 4 v.2 ++ bytes 4 v.3) l (rw m (omega arith)) in
    c.put_two-2.ensures ∙ rw c.put_two.ensures (rw (append_assoc (bytes 4 v.0) (bytes 4 v.1) (bytes 4 v.2 ++ bytes 4 v.3)) at e)
