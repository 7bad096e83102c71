use Rattle.std.specs.Prelude.{Some}
use mathlib.Core.Path.{refl, ap, sym, ◌∙◌}
use mathlib.Core.Bool.{false}
use mathlib.Core.List.{[], ◌∷◌}
use Rattle.types.specs.declared.object.Slot.{Slot}
use Rattle.types.specs.declared.thread.WaitSyscall.TheVariants.{WaitSynchronization1}
use Rattle.types.specs.Thread.{wait_list}
use Rattle.block.specs.Block.{dec_block}
use Rattle.pass.specs.Signal.{is_signaled, acquire}
use Rattle.pass.specs.Asks.{padded}
use Rattle.svc.specs.Call.{done, answers, with_objects}
use Rattle.std.proofs.lemmas.Result.{err_from_is_err_and}
use Rattle.wait_calls.specs.Waits.{wait_on_in}
use Rattle.wait_calls.proofs.Begins.{begun-none}
use Rattle.wait_calls.proofs.Ways.{leaves, stays, refuses, found-by}
use Rattle.wait_calls.proofs.one.wait_one.Goals as goal

pub returns-in_err-take : goal.returns-in_err-take
returns-in_err-take c = let sig = sym (c.signaled.ensures ∙ ap (λ (x : Slot). is_signaled (dec_block c.args.block.now).threads x.object c.args.c) c.slot_at-x.ensures) ∙ c.if-signaled.true in rw sig (let k = dec_block c.args.block.now in let v = done (with_objects k (acquire k.objects c.args.o.0 c.args.c)) in let w' = refuses c.args.block.now _ v (found-by v _ (sym c.take.ensures.value ∙ c.in_err-take.was)) in let p = err_from_is_err_and c.from_residual.result c.from_residual.ensures.1 in rw (p.1, p.2) record { value = w'.0; block_after = c.take.ensures.block_after })

pub returns-then-is_zero : goal.returns-then-is_zero
returns-then-is_zero c = let sig = sym (c.signaled.ensures ∙ ap (λ (x : Slot). is_signaled (dec_block c.args.block.now).threads x.object c.args.c) c.slot_at-x.ensures) ∙ c.if-signaled.false in
    let k = dec_block c.args.block.now in rw (sig, sym c.is_zero.ensures ∙ c.if-is_zero.true) (let w' = (stays c.args.block.now c.requires.block_value c.requires.block_value_2 _ (answers 17 k) (answers 17 k) refl refl c.from.ensures) in record { value = w'.0; block_after = w'.1 })

pub returns : goal.returns
unfolding padded
returns c = let sig = sym (c.signaled.ensures ∙ ap (λ (x : Slot). is_signaled (dec_block c.args.block.now).threads x.object c.args.c) c.slot_at-x.ensures) ∙ c.if-signaled.false in
    let a = c.args in
    let v = wait_on_in (dec_block a.block.now) a.c (padded wait_list (a.o.0 ∷ [])) 1 false a.nanos.0 a.tick.0 (Some WaitSynchronization1) in rw (sig, sym c.is_zero.ensures ∙ c.if-is_zero.false)
    (let w' = (leaves a.block.now _ _ v v refl (begun-none a.block.now c.requires.block_value_2 a.c (padded wait_list (a.o.0 ∷ [])) 1 false a.nanos.0 a.tick.0 (Some WaitSynchronization1) c.requires.current_thread_value) c.silent.ensures c.begin_wait.ensures) in record { value = w'.0; block_after = w'.1 })
