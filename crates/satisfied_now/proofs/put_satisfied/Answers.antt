use mathlib.Core.Path.{refl, ◌∙◌}
use Rattle.codec.specs.declared.Two.{Two}
use Rattle.codec.specs.Groups.{two_bytes}
use Rattle.block.proofs.Row.{start, next, whole, length-all}
use Rattle.block.proofs.Sizes.{length_two, length-enc_id}
use Rattle.codec.specs.Layout.{enc_all}
use Rattle.block.specs.Table.{enc_id}
use Rattle.satisfied_now.proofs.put_satisfied.Goals as goal

pub returns : goal.returns
returns c =
    let l = c.args.r.objects in
    let v : Two = record { 0 = c.option_flag-flag.result; 1 = c.option_value-value.result } in
    let r = next (two_bytes v) 8 (start c.told-answer) (length_two v) refl c.put_two.ensures in
    whole (next (enc_all enc_id l) 32 r (length-all enc_id 4 length-enc_id 8 l c.write_all.ensures.l_len) refl c.write_all.ensures.b_after) ∙ rw (c.option_flag-flag.ensures, c.option_value-value.ensures)
