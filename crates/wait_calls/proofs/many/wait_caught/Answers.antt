use mathlib.Core.Path.{sym, ap, ◌∙◌}
use Rattle.std.specs.Prelude.{Some}
use Prim.Native.Nat.{ℕ}
use Rattle.laws.specs.Logic.{false-true}
use Rattle.block.specs.Block.{dec_block}
use Rattle.thread.proofs.Steps.{min-least}
use Rattle.outcome.specs.Outcome.{outcome}
use Rattle.wait_calls.specs.Waits.{wait_in}
use Rattle.wait_calls.proofs.Ways.{same-handles}
use Rattle.wait_calls.proofs.Lists.{settles}
use Rattle.wait_calls.proofs.Whole.{room-caught, known_is, opened-is, same_block}
use Rattle.wait_calls.proofs.many.wait_caught.Goals as goal

pub wait_list-requires : goal.wait_list-requires
wait_list-requires c =
    let a = c.args in
    let b = a.block.now in
    let k = dec_block b in
    let g = c.requires.ready in
    let d = c.catch_up_if.ensures.block_after in record { block_value = c.catch_up_if.ensures.block_after_2; block_value_2 = same-handles _ k _ d g.handles }

pub returns-then-looked : goal.returns-then-looked
returns-then-looked c =
    let a = c.args in
    let b = a.block.now in
    let k = dec_block b in
    let g = c.requires.ready in
    let d = c.catch_up_if.ensures.block_after in
    let m = c.catch_up_if.new.block in
    let f = ap (λ (i : ℕ). wait_in (dec_block m) (Some a.looked.objects) i a.r a.tick.0) (c.min-m.ensures ∙ min-least a.n 12) ∙ known_is b c.requires.block_value a.r a.words a.n a.looked.objects a.looked.known a.fires a.tick.0 g m d c.if-looked.true in record { value = c.wait_list.ensures.value ∙ ap outcome f; block_after = settles b m _ _ _ f c.wait_list.ensures.block_after (λ q. (q.0, same_block b c.requires.block_value a.r a.words a.n a.looked.objects a.looked.known a.fires a.tick.0 g m d c.catch_up_if.ensures.block_after_2 q.1.0)) }

pub open_list-objects-requires : goal.open_list-objects-requires
open_list-objects-requires c =
    let a = c.args in
    let b = a.block.now in
    let k = dec_block b in
    let g = c.requires.ready in
    let d = c.catch_up_if.ensures.block_after in record { block_value = c.catch_up_if.ensures.block_after_2; block_value_2 = same-handles _ k _ d g.handles; words_value = room-caught b c.requires.block_value a.r a.words a.n a.looked.objects a.looked.known a.fires a.tick.0 g _ d }

pub wait_list-requires-2 : goal.wait_list-requires-2
wait_list-requires-2 c =
    let a = c.args in
    let b = a.block.now in
    let k = dec_block b in
    let g = c.requires.ready in
    let d = c.catch_up_if.ensures.block_after in
    let o = c.open_list-objects.ensures in record { block_value = o.sound; block_value_2 = same-handles _ _ _ o.state (same-handles _ k _ d g.handles) }

pub returns : goal.returns
returns c =
    let a = c.args in
    let b = a.block.now in
    let k = dec_block b in
    let g = c.requires.ready in
    let d = c.catch_up_if.ensures.block_after in
    let m = c.catch_up_if.new.block in
    let e = c.open_list-objects.new.block in
    let x = c.open_list-objects.result in
    let f = ap (λ (i : ℕ). wait_in (dec_block e) x i a.r a.tick.0) (c.min-m.ensures ∙ min-least a.n 12) ∙ opened-is b c.requires.block_value a.r a.words a.n a.looked.objects a.looked.known a.fires a.tick.0 g m d e x c.open_list-objects.ensures in record { value = c.wait_list-2.ensures.value ∙ ap outcome f; block_after = settles b e _ _ _ f c.wait_list-2.ensures.block_after (λ q. false-true (sym c.if-looked.false ∙ q.1.1)) }
