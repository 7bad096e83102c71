use Rattle.std.proofs.Common.{◌≡◌, sym, ap, ◌∙◌}
use Rattle.std.proofs.lemmas.Result.{err_from_is_err_and}
use Rattle.types.specs.Refusal.{found_in}
use Rattle.block.specs.Block.{dec_block}
use Rattle.rows.specs.Holds.{holds}
use Rattle.svc.specs.declared.Served.{Served}
use Rattle.svc.specs.Call.{answers}
use Rattle.svc.specs.Sync.{release_mutex_as, release_mutex}
use Rattle.types.specs.declared.object.KObject.TheVariants.{Mutex}
use Rattle.objects.proofs.Calls.{refused-call, accepted-call}
use Rattle.objects.proofs.Changed.{put-content}
use Rattle.sync_calls.proofs.Found.{release_mutex-finding, not_mutex}
use Rattle.sync_calls.proofs.Opened.{opened-is, opened-object, opened-content}
use Rattle.sync_calls.proofs.mutex.release_mutex.Goals as goal

pub returns-in_err-o : goal.returns-in_err-o
returns-in_err-o c =
    let b = c.args.block.now in
    let p = err_from_is_err_and c.from_residual.result c.from_residual.ensures.1 in
    let w = refused-call b c.args.r.r0 _ c.resolve.result c.resolve.ensures.opens (release_mutex (dec_block b) c.args.r) (release_mutex-finding (dec_block b) c.args.r) _ c.in_err-o.was in
    rw (p.1, p.2) record { value = w.0; block_after = w.1 }

pub returns-in_default : goal.returns-in_default
unfolding release_mutex
returns-in_default c =
    let b = c.args.block.now in
    let p = c.resolve.ensures.opens in
    let k = opened-is b c.requires.block_value c.args.r.r0 _ _ p _ c.in_ok-o.was in
    let o = opened-object b c.requires.block_value c.args.r.r0 _ _ p _ c.in_ok-o.was in
    let y = opened-content b c.requires.block_value c.args.r.r0 _ _ p _ c.in_ok-o.was c.slot_at-x.result c.slot_at-x.ensures in
    let u : ◌≡◌ {A = Served} (answers 16 (dec_block c.resolve.new.block)) (release_mutex (dec_block b) c.args.r) =
    sym (not_mutex c.slot_at-x.result.object _ c.in_ok-o.o.0 c.in_default.not-Mutex) ∙ (λ i. release_mutex_as (y i) (k i) (o i)) in
    let w = accepted-call b c.args.r.r0 _ c.resolve.result p (release_mutex (dec_block b) c.args.r) (release_mutex-finding (dec_block b) c.args.r) (ap found_in c.in_ok-o.was) _ u _ c.from.ensures _ (holds _ c.resolve.ensures.block_after) in
    record { value = w.0; block_after = w.1 }

pub returns : goal.returns
unfolding release_mutex
returns c =
    let b = c.args.block.now in
    let p = c.resolve.ensures.opens in
    let k = opened-is b c.requires.block_value c.args.r.r0 _ _ p _ c.in_ok-o.was in
    let o = opened-object b c.requires.block_value c.args.r.r0 _ _ p _ c.in_ok-o.was in
    let y = sym c.in-Mutex.is ∙ opened-content b c.requires.block_value c.args.r.r0 _ _ p _ c.in_ok-o.was c.slot_at-x.result c.slot_at-x.ensures in
    let u : ◌≡◌ {A = Served} (release_mutex_as (Mutex c.in-Mutex.m) (dec_block c.resolve.new.block) c.in_ok-o.o.0) (release_mutex (dec_block b) c.args.r) =
    λ i. release_mutex_as (y i) (k i) (o i) in
    let w = accepted-call b c.args.r.r0 _ c.resolve.result p (release_mutex (dec_block b) c.args.r) (release_mutex-finding (dec_block b) c.args.r) (ap found_in c.in_ok-o.was) _ u _ c.done.ensures _
    (rw (c.content.ensures, c.unlocked.ensures) (put-content (holds _ c.resolve.ensures.block_after) _ _ _ c.slot_at-x.ensures)) in
    record { value = w.0; block_after = w.1 }
