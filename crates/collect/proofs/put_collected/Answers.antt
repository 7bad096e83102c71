use mathlib.Core.Path.{refl, ◌∙◌}
use Rattle.codec.specs.declared.Two.{Two}
use Rattle.codec.specs.Bytes.{bytes}
use Rattle.codec.specs.Groups.{two_bytes}
use Rattle.codec.proofs.Laws.{length-bytes}
use Rattle.block.proofs.Row.{start, next, whole}
use Rattle.block.proofs.Sizes.{length_two}
use Rattle.collect.proofs.put_collected.Goals as goal

pub returns : goal.returns
returns c = let kind = c.syscall_number-kind.result in
    let v : Two = record { 0 = c.result_number-number.result; 1 = c.result_index-index.result } in
    let r = next (two_bytes v) 8 (start c.told-answer) (length_two v) refl c.put_two.ensures in
    whole (next (bytes 4 kind) 4 r (length-bytes 4 kind) refl c.put32.ensures) ∙ rw (c.result_number-number.ensures, c.result_index-index.ensures, c.syscall_number-kind.ensures)
