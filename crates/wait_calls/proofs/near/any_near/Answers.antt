use Rattle.std.proofs.Common.{sym, rules, tests, ◌∙◌}
use Rattle.std.proofs.lemmas.Iterator.{YieldsList-from_slice}
use Rattle.std.proofs.lemmas.Iterator.Search.{any_from_yields_List}
use Rattle.units.specs.declared.ObjectId.{ObjectId}
use Rattle.block.specs.Block.{dec_block}
use Rattle.sound.specs.View.{object_at}
use Rattle.wait_calls.specs.Near.{near}
use Rattle.wait_calls.proofs.Far.{any-near}
use Rattle.wait_calls.proofs.near.any_near.Goals as goal

pub returns : goal.returns
returns c =
    let a = c.args in
    let s = (dec_block a.block.now).objects in
    let e = any_from_yields_List (λ (o : ObjectId). near (object_at s o.0)) _ _ c.any.result c.any.ensures.ran (YieldsList-from_slice a.list.now cc) (λ x b q k. search (rules, tests)) in
    e ∙ sym (any-near s a.list.now)
