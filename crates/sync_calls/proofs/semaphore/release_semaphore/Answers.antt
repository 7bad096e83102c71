use Rattle.std.proofs.Common.{◌≡◌, sym, ap, ◌∙◌}
use Rattle.std.proofs.lemmas.Result.{err_from_is_err_and}
use Rattle.types.specs.Refusal.{found_in}
use Rattle.block.specs.Block.{dec_block}
use Rattle.rows.specs.Holds.{holds}
use Rattle.svc.specs.declared.Served.{Served}
use Rattle.std.specs.Prelude.{Ok}
use Rattle.block.specs.Block.{enc_block}
use Rattle.types.specs.Refusal.{refusal-some}
use Rattle.types.specs.declared.object.KObject.TheVariants.{Semaphore}
use Rattle.types.specs.declared.refusal.Refusal.TheVariants.{Overflow}
use Rattle.svc.specs.Call.{answers}
use Rattle.svc.specs.Sync.{release_semaphore_as, release_semaphore}
use Rattle.lent.specs.Operations.{finding}
use Rattle.outcome.specs.Outcome.{accepted, outcome-0, outcome-found, left-0, left-found}
use Rattle.objects.proofs.Calls.{refused-call}
use Rattle.objects.proofs.Changed.{put-content}
use Rattle.objects.proofs.Pseudo.{unmade}
use Rattle.sync_calls.proofs.Found.{release_semaphore-finding, not_semaphore, semaphore_over, semaphore_fits, same_block, fits-of, over-of}
use Rattle.sync_calls.proofs.Opened.{opened-is, opened-nothing, opened-object, opened-content}
use Rattle.sync_calls.proofs.semaphore.release_semaphore.Goals as goal

pub returns-in_err-o : goal.returns-in_err-o
returns-in_err-o c =
    let b = c.args.block.now in
    let e = c.resolve.ensures.opens in
    let p = err_from_is_err_and c.from_residual.result c.from_residual.ensures.1 in
    let f = release_semaphore-finding b c.args.r (λ z. refusal-some _ (sym (ap found_in c.in_err-o.was) ∙ e.found ∙ z)) in
    let w = refused-call b c.args.r.r1 _ c.resolve.result e (release_semaphore (dec_block b) c.args.r) f _ c.in_err-o.was in
    rw (p.1, p.2) record { value = w.0; block_after = w.1 }

pub returns-in_default : goal.returns-in_default
unfolding release_semaphore
returns-in_default c =
    let b = c.args.block.now in
    let p = c.resolve.ensures.opens in
    let k = opened-is b c.requires.block_value c.args.r.r1 _ _ p _ c.in_ok-o.was in
    let o = opened-object b c.requires.block_value c.args.r.r1 _ _ p _ c.in_ok-o.was in
    let y = opened-content b c.requires.block_value c.args.r.r1 _ _ p _ c.in_ok-o.was c.slot_at-x.result c.slot_at-x.ensures in
    let u : ◌≡◌ {A = Served} (answers 16 (dec_block c.resolve.new.block)) (release_semaphore (dec_block b) c.args.r) =
    sym (not_semaphore c.slot_at-x.result.object _ c.in_ok-o.o.0 c.args.r.r2 c.in_default.not-Semaphore) ∙ (λ i. release_semaphore_as (y i) (k i) (o i) c.args.r.r2) in
    let f = ap (λ (v : Served). finding v.kernel) (sym u) ∙ opened-nothing b c.requires.block_value c.args.r.r1 _ _ p _ c.in_ok-o.was in
    record {
      value = ap Ok (c.from.ensures ∙ ap accepted u) ∙ sym (outcome-0 _ f);
      block_after = (holds _ c.resolve.ensures.block_after).same ∙ ap (λ (v : Served). enc_block v.kernel) u ∙ sym (left-0 _ b f);
    }

pub returns-in_default-released : goal.returns-in_default-released
unfolding release_semaphore
returns-in_default-released c =
    let b = c.args.block.now in
    let p = c.resolve.ensures.opens in
    let k = opened-is b c.requires.block_value c.args.r.r1 _ _ p _ c.in_ok-o.was in
    let o = opened-object b c.requires.block_value c.args.r.r1 _ _ p _ c.in_ok-o.was in
    let y = sym c.in-Semaphore.is ∙ opened-content b c.requires.block_value c.args.r.r1 _ _ p _ c.in_ok-o.was c.slot_at-x.result c.slot_at-x.ensures in
    let t = over-of _ _ (λ v e. c.in_default-released.not-Some v (c.released.ensures ∙ e)) in
    let f : finding (release_semaphore (dec_block b) c.args.r).kernel ≡ 8 =
    sym (λ i. finding (release_semaphore_as (y i) (k i) (o i) c.args.r.r2).kernel)
    ∙ semaphore_over _ (opened-nothing b c.requires.block_value c.args.r.r1 _ _ p _ c.in_ok-o.was) _ _ c.args.r.r2 t in
    record {
      value = sym (outcome-found _ Overflow f);
      block_after = unmade b c.requires.block_value c.args.r.r1 _ _ p (ap found_in c.in_ok-o.was) _ (sym y) ∙ sym (left-found _ b (λ z. refusal-some Overflow (sym f ∙ z)));
    }

pub returns : goal.returns
unfolding release_semaphore
returns c =
    let b = c.args.block.now in
    let p = c.resolve.ensures.opens in
    let k = opened-is b c.requires.block_value c.args.r.r1 _ _ p _ c.in_ok-o.was in
    let o = opened-object b c.requires.block_value c.args.r.r1 _ _ p _ c.in_ok-o.was in
    let y = sym c.in-Semaphore.is ∙ opened-content b c.requires.block_value c.args.r.r1 _ _ p _ c.in_ok-o.was c.slot_at-x.result c.slot_at-x.ensures in
    let t = fits-of _ _ _ (sym c.released.ensures ∙ c.in-Some.is) in
    let u : ◌≡◌ {A = Served} (release_semaphore_as (Semaphore c.in-Semaphore.s) (dec_block c.resolve.new.block) c.in_ok-o.o.0 c.args.r.r2) (release_semaphore (dec_block b) c.args.r) =
    λ i. release_semaphore_as (y i) (k i) (o i) c.args.r.r2 in
    let f = ap (λ (v : Served). finding v.kernel) (sym u)
    ∙ semaphore_fits _ (opened-nothing b c.requires.block_value c.args.r.r1 _ _ p _ c.in_ok-o.was) _ _ c.args.r.r2 t.0 in
    record {
      value = ap Ok (c.gives.ensures ∙ ap accepted u) ∙ sym (outcome-0 _ f);
      block_after = rw (c.content.ensures, t.1) ((put-content (holds _ c.resolve.ensures.block_after) _ _ _ c.slot_at-x.ensures).same ∙ same_block (dec_block c.resolve.new.block) _ _)
          ∙ ap (λ (v : Served). enc_block v.kernel) u ∙ sym (left-0 _ b f);
    }
