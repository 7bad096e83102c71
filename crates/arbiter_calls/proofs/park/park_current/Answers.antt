use mathlib.Core.Path.{refl, sym, ap, ◌∙◌}
use Rattle.std.proofs.lemmas.Result.{err_from_is_err_and}
use Rattle.types.specs.Refusal.{refusal-some, found_in, unless-ok}
use Rattle.block.specs.Block.{dec_block}
use Rattle.outcome.specs.Outcome.{outcome-found, left-found}
use Rattle.arbiter_calls.specs.Kinds.{on_handle, parks}
use Rattle.arbiter_calls.proofs.Handle.{not_known, known}
use Rattle.arbiter_calls.proofs.Found.{parking-refused, parked-found, parked_opens, over-held}
use Rattle.arbiter_calls.proofs.park.park_current.Goals as goal

pub returns-in_err-found_parking : goal.returns-in_err-found_parking
returns-in_err-found_parking c = let a = c.args in
    let b = a.block.now in
    let v = on_handle (dec_block b) a.h.0 (parks a.a a.time a.tick.0 a.over a.word) in
    let p = err_from_is_err_and c.from_residual.result c.from_residual.ensures.1 in
    let f = parked-found b c.requires.block_value a.h.0 a.a a.time a.tick.0 a.over a.word
    ∙ parking-refused (dec_block b) a.h.0 a.a a.over _ (sym c.found_parking.ensures ∙ c.in_err-found_parking.was) in
    rw (p.1, p.2) record { value = sym (outcome-found v _ f); block_after = sym (left-found v b (λ z. refusal-some _ (sym f ∙ z))) }

-- nothing was found before, so opening the handle finds nothing
pub returns-in_err-o : goal.returns-in_err-o
returns-in_err-o c = let a = c.args in
    let b = a.block.now in
    let q = parked_opens b c.requires.block_value a.h.0 a.a a.over (unless-ok _ tt _ (sym c.found_parking.ensures ∙ c.in_ok-found_parking.was)) in
    absurd (refusal-some _ (sym (ap found_in c.in_err-o.was) ∙ c.resolve.ensures.opens.found ∙ q))

pub returns-then-o-eq0 : goal.returns-then-o-eq0
returns-then-o-eq0 c = let a = c.args in
    let b = a.block.now in
    let z = unless-ok _ tt _ (sym c.found_parking.ensures ∙ c.in_ok-found_parking.was) in
    let q = parked_opens b c.requires.block_value a.h.0 a.a a.over z in
    let w' = not_known b c.requires.block_value a.h.0 (parks a.a a.time a.tick.0 a.over a.word) _ c.resolve.result c.resolve.ensures.opens _ c.in_ok-o.was (parked-found b c.requires.block_value a.h.0 a.a a.time a.tick.0 a.over a.word ∙ z ∙ sym q) c.if-o-eq0.true _ c.from.ensures in
    record { value = w'.0; block_after = w'.1 }

pub returns : goal.returns
returns c = let a = c.args in
    let b = a.block.now in
    let z = unless-ok _ tt _ (sym c.found_parking.ensures ∙ c.in_ok-found_parking.was) in
    let q = parked_opens b c.requires.block_value a.h.0 a.a a.over z in
    let w' = known b c.requires.block_value a.h.0 (parks a.a a.time a.tick.0 a.over a.word) _ c.resolve.result c.resolve.ensures.opens _ c.in_ok-o.was (parked-found b c.requires.block_value a.h.0 a.a a.time a.tick.0 a.over a.word ∙ z ∙ sym q) c.if-o-eq0.false _ (rw c.done.ensures refl) _ (over-held _ _ a.over c.park_by.ensures) in
    record { value = w'.0; block_after = w'.1 }
