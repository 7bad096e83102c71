use Rattle.std.specs.Prelude.{Ok}
use Rattle.std.proofs.lemmas.Result.{err_from_is_err_and}
use Rattle.types.specs.Refusal.{unless-ok, refusal-some}
use Rattle.outcome.specs.Findings.{room-refused}
use mathlib.Core.Path.{ap, sym, ◌∙◌}
use native.Mathlib.Omega.{arith}
use Rattle.codec.specs.Layout.{dec_as}
use Rattle.block.specs.Block.{dec_block}
use Rattle.sound.specs.Objects.{kept_at}
use Rattle.soundness.specs.Fits.{Word}
use Rattle.outcome.specs.Outcome.{given, outcome-found, left-found}
use Rattle.threads.proofs.Made.{made-finding, place, sound-made, kept-made, room-made, left-made, outcome-made}
use Rattle.threads.proofs.create.create_thread.Goals as goal

pub returns-in_err-room_to_make : goal.returns-in_err-room_to_make
returns-in_err-room_to_make c =
    let p = err_from_is_err_and c.from_residual.result c.from_residual.ensures.1 in
    let f = made-finding c.args.block.now c.requires.block_value c.args.r ∙ room-refused _ _ tt _ (sym c.room_to_make.ensures ∙ c.in_err-room_to_make.was) in
    rw (p.1, p.2) record { value = sym (outcome-found _ _ f); block_after = sym (left-found _ _ (λ e. refusal-some _ (sym f ∙ e))) }

pub put_handle-requires : goal.put_handle-requires
put_handle-requires c = let b = c.args.block.now in
    let s = c.requires.block_value in
    let r = c.args.r in
    let w1 : Word r.r1 = omega (arith, c.well_formed) in
    let w3 : Word r.r3 = omega (arith, c.well_formed) in
    let w4 : Word r.r4 = omega (arith, c.well_formed) in
    let z = unless-ok _ tt _ (sym c.room_to_make.ensures ∙ c.in_ok-room_to_make.was) in
    let g = c.put_created.ensures in
    let i = c.ended_thread-id.ensures in
    record {
      block_value = sound-made b s r w1 w3 w4 z _ g;
      id_bound = rw i (place b s r w1 w3 w4 z);
      id_value = ap (kept_at (dec_block c.put_created.new.block).objects) i ∙ kept-made b s r w1 w3 w4 z _ g;
      free_nonzero = room-made b s r w1 w3 w4 z _ g;
    }

pub returns : goal.returns
unfolding dec_block dec_as
returns c = let b = c.args.block.now in
    let s = c.requires.block_value in
    let r = c.args.r in
    let w1 : Word r.r1 = omega (arith, c.well_formed) in
    let w3 : Word r.r3 = omega (arith, c.well_formed) in
    let w4 : Word r.r4 = omega (arith, c.well_formed) in
    let z = unless-ok _ tt _ (sym c.room_to_make.ensures ∙ c.in_ok-room_to_make.was) in record { value = ap Ok (c.gives.ensures ∙ ap given c.get32-next.ensures) ∙ outcome-made b s r w1 w3 w4 z; block_after = left-made b s r w1 w3 w4 z _ c.put_created.ensures _ _ c.ended_thread-id.ensures c.put_handle.ensures }
