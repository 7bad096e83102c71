use Rattle.block.specs.Table.{enc_id}
use Rattle.codec.specs.Bytes.{bytes}
use Rattle.codec.proofs.Laws.{length-bytes}
use mathlib.Core.Path.{refl}
use Rattle.block.proofs.Row.{start, next, whole}
use Rattle.block.proofs.table.ObjectIdRecord.put.Goals as goal

-- One word over the whole part.

pub returns : goal.returns
unfolding enc_id
returns c =
    whole (next (bytes 4 c.args.self.0) 4 (start c.requires) (length-bytes 4 c.args.self.0) refl c.put32.ensures)
