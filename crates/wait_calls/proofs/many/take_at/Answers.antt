use mathlib.Core.Path.{ap, ◌∙◌}
use Rattle.std.specs.Prelude.{List, ℕ, get_or}
use Rattle.std.proofs.lemmas.Result.{err_from_is_err_and}
use Rattle.units.specs.declared.ObjectId.{ObjectId}
use Rattle.block.specs.Block.{dec_block}
use Rattle.sound.specs.View.{ids, first_ids}
use Rattle.pass.specs.Signal.{acquire}
use Rattle.svc.specs.Call.{with_objects}
use Rattle.wait_calls.proofs.Lists.{gives-refused}
use Rattle.wait_calls.proofs.many.take_at.Goals as goal

pub returns-in_err-take : goal.returns-in_err-take
returns-in_err-take c =
    let a = c.args in
    let b = a.block.now in
    let k = dec_block b in
    let o = c.object_at.ensures ∙ ap (λ (l : List ObjectId). get_or (ids l) a.i 0) c.first.ensures.value
    ∙ ap (λ (l : List ℕ). get_or l a.i 0) (first_ids a.w.list a.w.count) in
    let e = gives-refused b (with_objects k (acquire k.objects c.object_at.result.0 a.w.thread)) a.i c.take.result _ c.take.ensures.value c.take.ensures.block_after _ c.in_err-take.was in
    let p = err_from_is_err_and c.from_residual.result c.from_residual.ensures.1 in
    rw (p.1, p.2, c.if-w.false, ← o) record { value = e.0; block_after = λ z. e.1 }
