use mathlib.Core.Path.{◌≡◌, sym, ap, ◌∙◌}
use Rattle.std.proofs.lemmas.Result.{err_from_is_err_and}
use Rattle.types.specs.Refusal.{found_in, refusal-some}
use Rattle.objects.specs.Open.{object_in}
use Rattle.wait_calls.proofs.Ways.{moves, refuses, pseudo-refused, pseudo-none, pseudo-handles, pseudo-is}
use Rattle.wait_calls.proofs.one.wait_pseudo.Goals as goal

pub returns-in_err-o : goal.returns-in_err-o
returns-in_err-o c =
    let a = c.args in
    let b = a.block.now in
    let g = c.open_caught.ensures in
    let v = c.open_caught.result in
    let f = ap found_in c.in_err-o.was in
    let z = λ (w : found_in v ≡ 0). refusal-some _ (sym f ∙ w) in
    let w' = refuses b _ _ (pseudo-refused b a.r a.tick.0 c.requires.r0_value _ v g.opens z ∙ f) in
    let p = err_from_is_err_and c.from_residual.result c.from_residual.ensures.1 in
    rw (p.1, p.2, g.opens.same z) record { value = w'.0; block_after = w'.1 }

pub wait_opened-requires : goal.wait_opened-requires
wait_opened-requires c =
    let a = c.args in
    let b = a.block.now in
    let g = c.open_caught.ensures in
    let v = c.open_caught.result in
    let z = ap found_in c.in_ok-o.was in record { block_value = g.block_after; block_value_2 = pseudo-handles b a.r a.tick.0 c.requires.r0_value _ v g.opens z g.block_after (g.block_after_2 z) }

pub returns : goal.returns
returns c =
    let a = c.args in
    let b = a.block.now in
    let g = c.open_caught.ensures in
    let v = c.open_caught.result in
    let z = ap found_in c.in_ok-o.was in
    let s = g.block_after in
    let q = g.block_after_2 z in
    let w' = moves b _ _ _ _ _ (pseudo-is b a.r a.tick.0 c.requires.r0_value _ v g.opens z s q c.in_ok-o.o.0 (sym (ap object_in c.in_ok-o.was) ∙ g.opens.object z)) (pseudo-none b a.r a.tick.0 c.requires.r0_value _ v g.opens z s q) c.wait_opened.ensures.value c.wait_opened.ensures.block_after in
    record { value = w'.0; block_after = w'.1 }
