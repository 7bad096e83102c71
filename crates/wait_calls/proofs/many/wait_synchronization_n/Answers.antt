use mathlib.Core.Path.{sym, ap, ◌∙◌}
use mathlib.Core.Logic.{inl, inr, ⊎_elim}
use Prim.Native.Nat.{ℕ}
use lib.ListN.{take}
use Rattle.std.proofs.lemmas.Result.{err_from_is_err_and}
use Rattle.block.specs.Block.{dec_block}
use Rattle.sound.specs.View.{ids, first_ids}
use Rattle.thread.proofs.Steps.{min-least}
use Rattle.wait_calls.specs.Near.{any_near}
use Rattle.wait_calls.proofs.Far.{finds_none}
use Rattle.wait_calls.proofs.Ways.{refuses}
use Rattle.wait_calls.proofs.Whole.{asked-some, asked-none, asked-ready, call_none, looked-is}
use Rattle.wait_calls.proofs.many.wait_synchronization_n.Goals as goal

pub returns-in_err-found_before : goal.returns-in_err-found_before
returns-in_err-found_before c =
    let x = c.look_up-looked.ensures in
    let f = asked-some c.args.block.now c.requires.block_value c.args.r c.args.words c.args.n c.args.tick.0 x.words_len
    _ _ x.known_value _ c.first.ensures.value c.full_if-full.ensures _ c.found_before.ensures
    _ c.in_err-found_before.was in
    let w = refuses c.args.block.now _ _ f in
    let p = err_from_is_err_and c.from_residual.result c.from_residual.ensures.1 in
    rw (p.1, p.2) record { value = w.0; block_after = w.1 }

pub wait_saved-requires : goal.wait_saved-requires
wait_saved-requires c =
    let x = c.look_up-looked.ensures in
    let g = asked-ready c.args.block.now c.requires.block_value c.args.r c.args.words c.args.n c.args.tick.0 x.words_len
    _ _ x.known_value _ c.first.ensures.value c.full_if-full.ensures _ c.found_before.ensures
    _ c.in_ok-found_before.was _ _ x.objects_value c.timer_due-fires.ensures in
    record { block_value = c.requires.block_value; ready = g }

pub wait_caught-requires : goal.wait_caught-requires
wait_caught-requires c =
    let x = c.look_up-looked.ensures in
    let g = asked-ready c.args.block.now c.requires.block_value c.args.r c.args.words c.args.n c.args.tick.0 x.words_len
    _ _ x.known_value _ c.first.ensures.value c.full_if-full.ensures _ c.found_before.ensures
    _ c.in_ok-found_before.was _ _ x.objects_value c.timer_due-fires.ensures in
    record { block_value = c.requires.block_value; ready = g }

pub returns : goal.returns
returns c =
    let a = c.args in
    let b = a.block.now in
    let k = dec_block b in
    let x = c.look_up-looked.ensures in
    let q = asked-none b c.requires.block_value c.args.r c.args.words c.args.n c.args.tick.0 x.words_len
    _ _ x.known_value _ c.first.ensures.value c.full_if-full.ensures _ c.found_before.ensures
    _ c.in_ok-found_before.was in
    let l = c.look_up-looked.result.objects in
    let n = c.min.ensures ∙ min-least a.n 12 in
    let o = ap ids c.first-2.ensures.value ∙ first_ids l c.min.result ∙ ap (λ (m : ℕ). take m (ids l)) n
    ∙ looked-is b c.requires.block_value a.r a.words a.n a.tick.0 x.words_len l x.objects_value in
    let found = finds_none _ _ _ _ _ (sym c.may_find.ensures ∙ c.if-may_find.false) in
    let same = ap (any_near k.objects) (sym o) in
    record {
      value = c.wait_caught.ensures.value;
      block_after = c.wait_caught.ensures.block_after (⊎_elim (λ m. inl m)
          (λ e. inr (call_none b c.requires.block_value a.r a.words a.n a.tick.0 x.words_len q (same ∙ e))) found);
    }
