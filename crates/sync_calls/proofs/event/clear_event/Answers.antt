use Rattle.std.proofs.Common.{ℕ, refl}
use Rattle.std.proofs.lemmas.Result.{err_from_is_err_and}
use Rattle.types.specs.declared.kernel.Kernel.{Kernel}
use Rattle.block.specs.Block.{dec_block}
use Rattle.pass.specs.Signal as sig
use Rattle.svc.specs.declared.Served.{Served}
use Rattle.svc.specs.Call.{with_objects, done}
use Rattle.svc.specs.Sync.{clear_event}
use Rattle.objects.proofs.Calls.{refused-call}
use Rattle.sync_calls.proofs.Found.{clear_event-finding}
use Rattle.sync_calls.proofs.Opened.{opened-unknown, opened-known}
use Rattle.sync_calls.proofs.event.clear_event.Goals as goal

abbrev after : Kernel → ℕ → Served
after k o = done (with_objects k (sig.clear_event k.objects o))

pub returns-in_err-o : goal.returns-in_err-o
returns-in_err-o c =
    let b = c.args.block.now in
    let p = err_from_is_err_and c.from_residual.result c.from_residual.ensures.1 in
    let f = clear_event-finding (dec_block b) c.args.r in
    let w = refused-call b c.args.r.r0 _ _ c.resolve.ensures.opens _ f _ c.in_err-o.was in
    rw (p.1, p.2) record { value = w.0; block_after = w.1 }

pub returns-then-o-eq0 : goal.returns-then-o-eq0
unfolding clear_event
returns-then-o-eq0 c =
    let b = c.args.block.now in
    let f = clear_event-finding (dec_block b) c.args.r in
    let w = opened-unknown b c.requires.block_value c.args.r.r0 _ _ c.resolve.ensures.opens _ c.in_ok-o.was
    after _ f refl _ c.if-o-eq0.true c.from.ensures in
    record { value = w.0; block_after = w.1 }

pub returns : goal.returns
unfolding clear_event
returns c =
    let b = c.args.block.now in
    let f = clear_event-finding (dec_block b) c.args.r in
    let w = opened-known b c.requires.block_value c.args.r.r0 _ _ c.resolve.ensures.opens _ c.in_ok-o.was
    after _ f refl _ c.if-o-eq0.false c.done.ensures _ c.put_cleared.ensures in
    record { value = w.0; block_after = w.1 }
