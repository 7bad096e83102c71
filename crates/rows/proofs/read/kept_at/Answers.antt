use mathlib.Core.Path.{ap, ◌∙◌}
use Rattle.block.specs.Block.{dec_block}
use native.Mathlib.Omega.{arith}
use Rattle.codec.proofs.Fit.{length-dec_all}
use Rattle.units.specs.declared.ObjectId.{ObjectId}
use Rattle.block.specs.Table.{dec_id}
use Rattle.block.specs.Tables.{row_at, kept_in}
use Rattle.object.proofs.Laws.{kept-far, kept_in_lem}
use Rattle.rows.proofs.read.kept_at.Goals as goal

pub returns-then-t-ge32 : goal.returns-then-t-ge32
unfolding dec_block
returns-then-t-ge32 c = let a = c.args in kept-far (kept_in a.b.now) a.t (omega (arith, length-dec_all dec_id 4 32 a.b.now 13184, c.if-t-ge32.true))

pub returns : goal.returns
unfolding dec_block
returns c = let a = c.args in
    ap (λ (x : ObjectId). x.0) (c.kept_at.ensures ∙ row_at dec_id 4 (record { 0 = 0 }) 32 a.b.now 13184 a.t c.if-t-ge32.false) ∙ kept_in_lem (kept_in a.b.now) a.t
