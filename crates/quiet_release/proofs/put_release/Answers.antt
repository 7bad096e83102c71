use mathlib.Core.Path.{refl, ◌∙◌}
use Rattle.codec.specs.declared.Two.{Two}
use Rattle.codec.specs.Bytes.{bytes}
use Rattle.codec.specs.Groups.{two_bytes}
use Rattle.codec.proofs.Laws.{length-bytes}
use Rattle.block.proofs.Row.{start, next, whole}
use Rattle.block.proofs.Sizes.{length_two}
use Rattle.quiet_release.proofs.put_release.Goals as goal

pub returns : goal.returns
returns c =
    let v : Two = record { 0 = c.release_flag-flag.result; 1 = c.release_object-object.result } in
    let r = next (two_bytes v) 8 (start c.told-answer) (length_two v) refl c.put_two.ensures in
    whole (next (bytes 4 c.release_frees-frees.result) 4 r (length-bytes 4 c.release_frees-frees.result) refl c.put32.ensures) ∙ rw (c.release_flag-flag.ensures, c.release_object-object.ensures, c.release_frees-frees.ensures)
