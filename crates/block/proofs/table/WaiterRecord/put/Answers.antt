use Rattle.block.specs.Table.{enc_waiter}
use Rattle.block.proofs.Row.{start, next, whole}
use Rattle.block.proofs.Sizes.{length_two}
use Rattle.codec.specs.Bytes.{bytes}
use Rattle.codec.proofs.Laws.{length-bytes}
use Rattle.codec.specs.Groups.{two_bytes}
use Rattle.codec.specs.declared.Two.{Two}
use mathlib.Core.Path.{refl}
use Rattle.block.proofs.table.WaiterRecord.put.Goals as goal

-- Three words over the whole part.

pub returns : goal.returns
unfolding enc_waiter
returns c =
    let x = c.args.self in
    let v : Two = record { 0 = x.thread; 1 = x.address } in
    let r = next (two_bytes v) 8 (start c.requires) (length_two v) refl c.put_two.ensures in
    whole (next (bytes 4 x.next) 4 r (length-bytes 4 x.next) refl c.put32.ensures)
