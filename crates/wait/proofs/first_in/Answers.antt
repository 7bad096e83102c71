use Rattle.std.proofs.Common.{sym, rules, tests, ◌∙◌}
use Rattle.std.proofs.lemmas.Iterator.{YieldsList-from_slice}
use Rattle.std.proofs.lemmas.Iterator.Search.{position_from_yields_List}
use Rattle.block.specs.Block.{dec_block}
use Rattle.wait.proofs.Place.{wanted, first-place}
use Rattle.wait.proofs.first_in.Goals as goal

pub returns-in_err-i : goal.returns-in_err-i
returns-in_err-i c =
    let a = c.args in
    let k = dec_block a.block.now in
    let e = position_from_yields_List (wanted k.threads k.objects.slots a.w a.want) _ _ c.position.result c.position.ensures.ran (YieldsList-from_slice a.list.now cc) (λ x b q k. search (rules, tests)) in
    c.from_residual.ensures ∙ sym c.in_err-i.was ∙ e ∙ sym (first-place k.threads k.objects.slots a.w a.want a.list.now)

pub returns : goal.returns
returns c =
    let a = c.args in
    let k = dec_block a.block.now in
    let e = position_from_yields_List (wanted k.threads k.objects.slots a.w a.want) _ _ c.position.result c.position.ensures.ran (YieldsList-from_slice a.list.now cc) (λ x b q k. search (rules, tests)) in
    sym c.in_ok-i.was ∙ e ∙ sym (first-place k.threads k.objects.slots a.w a.want a.list.now)
