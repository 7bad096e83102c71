use Rattle.std.specs.Prelude.{Some}
use mathlib.Core.Path.{ap, sym, subst, ◌∙◌}
use Prim.Native.Nat.{ℕ}
use lib.Dec.{ltb}
use Rattle.laws.specs.Logic.{pick}
use Rattle.sound.specs.Objects.{kept_at}
use Rattle.codec.specs.Layout.{dec_as}
use Rattle.types.specs.declared.object.ObjectStore.{ObjectStore}
use Rattle.types.specs.declared.object.KObject.TheVariants.{Thread}
use Rattle.block.specs.Block.{dec_block}
use Rattle.object.specs.Slots.{with_process}
use Rattle.object.specs.Store.{insert}
use Rattle.object.specs.Kept.{of_current}
use Rattle.svc.specs.Call.{with_objects}
use Rattle.rows.specs.Holds.{Holds}
use Rattle.objects.proofs.Opened.{opens_same, thread-kept, thread-finding, opens_refused, opens_thread}
use Rattle.std.proofs.lemmas.Result.{err_from_is_err_and}
use Rattle.types.specs.Refusal.{unless-ok}
use Rattle.objects.proofs.open.open_thread.Goals as goal

pub returns-then-o-ne0 : goal.returns-then-o-ne0
returns-then-o-ne0 c = let b = c.args.block.now in
    let s = c.requires.block_value in
    let e = thread-kept b s c.args.t (λ z. c.if-o-ne0.true (c.kept_at-o.ensures ∙ z)) in
    opens_same b s (of_current (dec_block b).objects (Some c.args.t)) c.there.result _ e
    (c.kept_at-o.ensures ∙ ap (λ (y : ObjectStore). kept_at y c.args.t) (sym e)) c.there.ensures

pub returns-in_err-room_to_make : goal.returns-in_err-room_to_make
returns-in_err-room_to_make c = let b = c.args.block.now in
    let s = c.requires.block_value in
    let p = err_from_is_err_and c.from_residual.result c.from_residual.ensures.1 in
    rw (p.1, p.2) (opens_refused b s (of_current (dec_block b).objects (Some c.args.t)) _ (sym c.room_to_make.ensures ∙ c.in_err-room_to_make.was) (thread-finding b s c.args.t (sym c.kept_at-o.ensures ∙ c.if-o-ne0.false)))

pub returns : goal.returns
unfolding dec_block dec_as
returns c = let b = c.args.block.now in
    let s = c.requires.block_value in
    let p = sym c.kept_at-o.ensures ∙ c.if-o-ne0.false in
    let h = subst (λ (n : ℕ). Holds c.put_inserted.new.block (with_objects (dec_block b) (with_process (insert (dec_block b).objects (Thread c.args.t)) (record { 0 = n })))) c.get32-process.ensures c.put_inserted.ensures in
    rw (c.put_kept.ensures, c.get32-free.ensures)
    (opens_thread b s c.args.t _ _ p (c.kept_after.ensures ∙ ap (λ (n : ℕ). pick (ltb c.args.t 32) n 0) c.get32-free.ensures) (unless-ok _ tt _ (sym c.room_to_make.ensures ∙ c.in_ok-room_to_make.was)) h)
