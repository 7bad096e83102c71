use mathlib.Core.Path.{ap, sym, subst, ◌∙◌}
use Prim.Native.Nat.{ℕ}
use Rattle.codec.specs.Layout.{dec_as}
use Rattle.types.specs.declared.object.ObjectStore.{ObjectStore}
use Rattle.types.specs.declared.object.KObject.TheVariants.{Process}
use Rattle.block.specs.Block.{dec_block}
use Rattle.object.specs.Slots.{with_process}
use Rattle.object.specs.Store.{insert}
use Rattle.svc.specs.Call.{with_objects}
use Rattle.rows.specs.Holds.{Holds}
use Rattle.objects.specs.Open.{of_process}
use Rattle.objects.proofs.Opened.{opens_same, process-kept, process-finding, opens_refused, opens_process}
use Rattle.std.proofs.lemmas.Result.{err_from_is_err_and}
use Rattle.types.specs.Refusal.{unless-ok}
use Rattle.objects.proofs.open.open_process.Goals as goal

pub returns-then-o-ne0 : goal.returns-then-o-ne0
unfolding dec_block dec_as
returns-then-o-ne0 c = let b = c.args.block.now in
    let s = c.requires.block_value in
    let e = process-kept b s (λ z. c.if-o-ne0.true (c.get32-o.ensures ∙ z)) in
    opens_same b s (of_process (dec_block b).objects) c.there.result _ e
    (c.get32-o.ensures ∙ ap (λ (y : ObjectStore). y.process_object.0) (sym e)) c.there.ensures

pub returns-in_err-room_to_make : goal.returns-in_err-room_to_make
unfolding dec_block dec_as
returns-in_err-room_to_make c = let b = c.args.block.now in
    let s = c.requires.block_value in
    let p = err_from_is_err_and c.from_residual.result c.from_residual.ensures.1 in
    rw (p.1, p.2) (opens_refused b s (of_process (dec_block b).objects) _ (sym c.room_to_make.ensures ∙ c.in_err-room_to_make.was) (process-finding b s (sym c.get32-o.ensures ∙ c.if-o-ne0.false)))

pub returns : goal.returns
unfolding dec_block dec_as
returns c = let b = c.args.block.now in
    let s = c.requires.block_value in
    opens_process b s _ _ (sym c.get32-o.ensures ∙ c.if-o-ne0.false) c.get32-free.ensures (unless-ok _ tt _ (sym c.room_to_make.ensures ∙ c.in_ok-room_to_make.was))
    (subst (λ (n : ℕ). Holds c.put_inserted.new.block (with_objects (dec_block b) (with_process (insert (dec_block b).objects Process) (record { 0 = n })))) c.get32-free.ensures c.put_inserted.ensures)
