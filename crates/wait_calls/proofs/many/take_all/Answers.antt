use mathlib.Core.Path.{sym, ap, ◌∙◌}
use mathlib.Core.List.{List}
use Prim.Native.Nat.{ℕ}
use lib.ListN.{take}
use Rattle.std.proofs.lemmas.Result.{err_from_is_err_and}
use Rattle.types.specs.Refusal.{unless_found, refusal-some}
use Rattle.block.specs.Block.{dec_block}
use Rattle.sound.specs.View.{ids, first_ids}
use Rattle.pass.specs.Signal.{acquires}
use Rattle.svc.specs.Call.{gives, with_objects}
use Rattle.lent.specs.Operations.{finding}
use Rattle.wait_calls.proofs.Ways.{refuses, found-by}
use Rattle.wait_calls.proofs.many.take_all.Goals as goal

pub returns-in_err-take_list : goal.returns-in_err-take_list
returns-in_err-take_list c =
    let a = c.args in
    let b = a.block.now in
    let k = dec_block b in
    let os = ap ids c.first.ensures.value ∙ first_ids a.w.list a.w.count in
    let v = gives (with_objects k (acquires k.objects (take a.w.count (ids a.w.list)) a.w.thread)) a.i in
    let q = c.take_list.ensures.value ∙ ap (λ (l : List ℕ). unless_found (finding (with_objects k (acquires k.objects l a.w.thread))) tt) os in
    let f = found-by v _ (sym q ∙ c.in_err-take_list.was) in
    let p = err_from_is_err_and c.from_residual.result c.from_residual.ensures.1 in
    rw (p.1, p.2) record { value = (refuses b _ v f).0; block_after = λ z. absurd (refusal-some _ (sym f ∙ z)) }
