use Rattle.block.specs.Table.{enc_entry}
use Rattle.block.proofs.Row.{start, next, whole}
use Rattle.block.proofs.Sizes.{length-enc_entry}
use mathlib.Core.Path.{refl}
use Rattle.block.proofs.table.HandleEntryRecord.put.Goals as goal

-- Two words over the whole part.

pub returns : goal.returns
unfolding enc_entry
returns c =
    whole (next (enc_entry c.args.self) 8 (start c.requires) (length-enc_entry c.args.self) refl c.put_two.ensures)
