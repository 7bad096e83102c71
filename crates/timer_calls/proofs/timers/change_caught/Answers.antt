use mathlib.Core.Path.{◌≡◌, ap, sym, ◌∙◌}
use Rattle.std.proofs.lemmas.Result.{err_from_is_err_and}
use Rattle.types.specs.declared.object.KObject.{KObject}
use Rattle.types.specs.Refusal.{found_in}
use Rattle.block.specs.Block.{dec_block}
use Rattle.svc.specs.Call.{done}
use Rattle.objects.specs.Open.{object_in}
use Rattle.objects.proofs.Calls.{refused-call, accepted-call}
use Rattle.timer_calls.specs.Named.{changed, change_caught}
use Rattle.timer_calls.proofs.Named.{change_caught-finding, changed_is, put-changed}
use Rattle.timer_calls.proofs.timers.change_caught.Goals as goal

pub returns-in_err-o : goal.returns-in_err-o
returns-in_err-o g c = let a = c.args in
    let k = dec_block a.block.now in
    let p = err_from_is_err_and c.from_residual.result c.from_residual.ensures.1 in
    let w' = λ (f : KObject → KObject). refused-call a.block.now a.r.r0 _ c.open_caught.result c.open_caught.ensures.opens (change_caught f k a.r a.tick.0) (change_caught-finding k a.r a.tick.0 f) _ c.in_err-o.was in
    rw (p.1, p.2) record { value = λ f _. (w' f).0; block_after = λ f _. (w' f).1 }

-- what f leaves, for a function that says what f makes of each object
pub returns : goal.returns
returns g c = let a = c.args in
    let k = dec_block a.block.now in
    let p = c.open_caught.ensures in
    let z = ap found_in c.in_ok-o.was in
    let w' = λ (f : KObject → KObject) (e : c.f-after.result ≡ f c.slot_at-x.result.object).
    accepted-call a.block.now a.r.r0 _ c.open_caught.result p.opens (change_caught f k a.r a.tick.0) (change_caught-finding k a.r a.tick.0 f) z (done (changed f (dec_block c.open_caught.new.block) c.in_ok-o.o.0))
    (changed_is k a.r a.tick.0 _ (p.block_after_2 z) _ (sym (ap object_in c.in_ok-o.was) ∙ p.opens.object z) f) _ c.done.ensures c.content.new.block
    (rw c.content.ensures (put-changed _ p.block_after _ _ c.slot_at-x.ensures f _ e)) in
    record { value = λ f s. (w' f (s _ _ c.f-after.ensures)).0; block_after = λ f s. (w' f (s _ _ c.f-after.ensures)).1 }
