use mathlib.Core.Path.{refl, ◌∙◌}
use Rattle.codec.specs.declared.Two.{Two}
use Rattle.codec.specs.Bytes.{bytes}
use Rattle.codec.specs.Groups.{two_bytes}
use Rattle.codec.proofs.Laws.{length-bytes}
use Rattle.block.proofs.Row.{start, next, whole}
use Rattle.block.proofs.Sizes.{length_two}
use Rattle.lent.specs.Operations.{tick_bytes}
use Rattle.next_event.proofs.put_tick.Goals as goal

pub returns : goal.returns
unfolding tick_bytes
returns c =
    let n = c.option_flag-flag.result in
    let v : Two = record { 0 = n; 1 = 0 } in
    let x = c.tick_value-value.result in
    let r = next (two_bytes v) 8 (start c.told-answer) (length_two v) refl c.put_two.ensures in
    whole (next (bytes 8 x) 8 r (length-bytes 8 x) refl c.put64.ensures) ∙ rw (c.option_flag-flag.ensures, c.tick_value-value.ensures)
