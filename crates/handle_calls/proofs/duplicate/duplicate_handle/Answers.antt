use mathlib.Core.Path.{◌≡◌, refl, ap, sym, ◌∙◌}
use Prim.Native.Nat.{ℕ}
use borrow.Author.Tests.{eq-eqb, ne_eqb}
use Rattle.std.proofs.lemmas.Result.{err_from_is_err_and}
use Rattle.types.specs.Refusal.{found_in}
use Rattle.types.specs.declared.kernel.Kernel.{Kernel}
use Rattle.block.specs.Block.{dec_block}
use Rattle.rows.specs.Holds.{holds}
use Rattle.object.specs.Store.{add_ref}
use Rattle.object.specs.Handles.{give, create}
use Rattle.svc.specs.declared.Served.{Served}
use Rattle.svc.specs.Call.{with_handles, answers, gives}
use Rattle.svc.specs.Handles.{duplicate_handle}
use Rattle.objects.specs.Open.{object_in}
use Rattle.objects.proofs.Sound.{opened-state}
use Rattle.objects.proofs.Calls.{refused-call, accepted-call}
use Rattle.handle_calls.proofs.Found.{duplicate_finding}
use Rattle.handle_calls.proofs.Crowded.{lacks-room, has_room, next-is}
use Rattle.handle_calls.proofs.duplicate.duplicate_handle.Goals as goal

abbrev after : Kernel → ℕ → Kernel
after k o = with_handles k (give k.handles o) (add_ref k.objects o)

pub without_room-requires : goal.without_room-requires
without_room-requires c = record {
  block_value = c.requires.block_value;
  refusal_value = lacks-room c.args.block.now _ _ c.get32-count.ensures c.get32-next.ensures _ c.room.ensures _ c.in-Err.is;
}

pub returns-in_err-o : goal.returns-in_err-o
returns-in_err-o c =
    let b = c.args.block.now in
    let p = err_from_is_err_and c.from_residual.result c.from_residual.ensures.1 in
    let m = has_room b _ _ c.get32-count.ensures c.get32-next.ensures _ c.room.ensures c.in_default.not-Err in
    let w = refused-call b c.args.r.r1 _ c.resolve.result c.resolve.ensures.opens (duplicate_handle (dec_block b) c.args.r) (duplicate_finding b c.args.r m.0 m.1) _ c.in_err-o.was in
    rw (p.1, p.2) record { value = w.0; block_after = w.1 }

pub returns-then-o-eq0 : goal.returns-then-o-eq0
unfolding duplicate_handle
returns-then-o-eq0 c =
    let b = c.args.block.now in
    let m = has_room b _ _ c.get32-count.ensures c.get32-next.ensures _ c.room.ensures c.in_default.not-Err in
    let p = c.resolve.ensures.opens in
    let z = ap found_in c.in_ok-o.was in
    let k = opened-state b c.requires.block_value c.args.r.r1 _ _ p z in
    let o = sym (ap object_in c.in_ok-o.was) ∙ p.object z in
    let u : ◌≡◌ {A = Served} (answers 16 (dec_block c.resolve.new.block)) (duplicate_handle (dec_block b) c.args.r) = ap (answers 16) k ∙ rw (eq-eqb _ 0 (sym o ∙ c.if-o-eq0.true)) refl in
    let w = accepted-call b c.args.r.r1 _ c.resolve.result p (duplicate_handle (dec_block b) c.args.r) (duplicate_finding b c.args.r m.0 m.1) z _ u _ c.from.ensures _ (holds _ c.resolve.ensures.block_after) in
    record { value = w.0; block_after = w.1 }

pub returns : goal.returns
unfolding duplicate_handle create
returns c =
    let b = c.args.block.now in
    let m = has_room b _ _ c.get32-count.ensures c.get32-next.ensures _ c.room.ensures c.in_default.not-Err in
    let p = c.resolve.ensures.opens in
    let z = ap found_in c.in_ok-o.was in
    let k = opened-state b c.requires.block_value c.args.r.r1 _ _ p z in
    let o = sym (ap object_in c.in_ok-o.was) ∙ p.object z in
    let u : ◌≡◌ {A = Served} (gives (after (dec_block c.resolve.new.block) c.in_ok-o.o.0) c.get32-next.result) (duplicate_handle (dec_block b) c.args.r) =
    (λ i. gives (after (k i) (o i)) ((c.get32-next.ensures ∙ next-is b) i)) ∙ rw (ne_eqb _ 0 (λ z. c.if-o-eq0.false (o ∙ z))) refl in
    let w = accepted-call b c.args.r.r1 _ c.resolve.result p (duplicate_handle (dec_block b) c.args.r) (duplicate_finding b c.args.r m.0 m.1) z _ u _ c.gives.ensures _ c.put_duplicate.ensures in
    record { value = w.0; block_after = w.1 }
