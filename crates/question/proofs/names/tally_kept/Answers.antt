use mathlib.Core.Path.{◌≡◌, sym, ◌∙◌}
use Prim.Native.Nat.{◌<◌}
use native.Mathlib.Omega.{arith}
use lib.ListN.{length}
use Rattle.laws.specs.Tally.{tally-more}
use Rattle.block.specs.Table.{dec_id}
use Rattle.block.specs.Tables.{kept_in, row_at}
use Rattle.codec.proofs.Fit.{length-dec_all}
use Rattle.units.specs.declared.ObjectId.{ObjectId}
use Rattle.tally.specs.Lists.{name_of}
use Rattle.question.proofs.names.tally_kept.Goals as goal

pub loop-i-preserved : goal.loop-i-preserved
loop-i-preserved c =
    let l = c.loop-i in
    let b = c.args.b.now in
    let n : length (kept_in b) ≡ 32 = length-dec_all dec_id 4 32 b 13184 in
    let h : l.i < length (kept_in b) = omega arith in
    let t = c.kept_at.ensures ∙ row_at dec_id 4 (record { 0 = 0 }) 32 b 13184 l.i (omega arith) in
    rw (c.bump_at.ensures, c.name.ensures, t) (sym (tally-more 129 (λ (o : ObjectId). name_of o.0) (kept_in b) l.i (record { 0 = 0 }) l.c h) ∙ l.invariant)
