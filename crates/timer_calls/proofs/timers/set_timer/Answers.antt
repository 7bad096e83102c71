use mathlib.Core.Path.{ap, sym, ◌∙◌}
use Rattle.std.proofs.lemmas.Result.{err_from_is_err_and}
use Rattle.types.specs.Refusal.{found_in}
use Rattle.block.specs.Block.{dec_block}
use Rattle.svc.specs.Timers.{set_timer}
use Rattle.objects.specs.Open.{object_in}
use Rattle.objects.proofs.Calls.{refused-call, accepted-call}
use Rattle.timer_calls.proofs.Named.{set_timer-finding, set_is}
use Rattle.timer_calls.proofs.timers.set_timer.Goals as goal

pub returns-in_err-o : goal.returns-in_err-o
returns-in_err-o c = let a = c.args in
    let k = dec_block a.block.now in
    let w' = refused-call a.block.now a.r.r0 _ c.open_caught.result c.open_caught.ensures.opens (set_timer k a.r a.tick.0) (set_timer-finding k a.r a.tick.0) _ c.in_err-o.was in
    let p = err_from_is_err_and c.from_residual.result c.from_residual.ensures.1 in
    rw (p.1, p.2) record { value = w'.0; block_after = w'.1 }

pub returns : goal.returns
returns c = let a = c.args in
    let k = dec_block a.block.now in
    let p = c.open_caught.ensures in
    let z = ap found_in c.in_ok-o.was in
    let u = set_is k a.r a.tick.0 _ (p.block_after_2 z) _ (sym (ap object_in c.in_ok-o.was) ∙ p.opens.object z) in
    let w' = accepted-call a.block.now a.r.r0 _ c.open_caught.result p.opens (set_timer k a.r a.tick.0) (set_timer-finding k a.r a.tick.0) z _ u _ c.set_opened.ensures.value _ c.set_opened.ensures.holds in
    record { value = w'.0; block_after = w'.1 }
