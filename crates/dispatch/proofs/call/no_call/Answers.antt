use Rattle.std.specs.Prelude.{false, Ok}
use Rattle.std.proofs.Common.{ap, sym, ◌∙◌}
use Rattle.std.proofs.lemmas.Result.{err_from_is_err_and}
use Rattle.types.specs.Refusal.{unless-ok}
use Rattle.block.specs.Block.{dec_block}
use Rattle.svc.specs.Call.{silent}
use Rattle.outcome.specs.Outcome.{outcome-0, outcome-found}
use Rattle.outcome.specs.Findings.{found_of, same-finding, room-refused}
use Rattle.dispatch.proofs.call.no_call.Goals as goal

pub returns-in_err-room : goal.returns-in_err-room
returns-in_err-room c =
    let b = c.args.block.now in
    let p = err_from_is_err_and c.from_residual.result c.from_residual.ensures.1 in
    let f = same-finding b ∙ ap (found_of false) (sym c.out_of_handles.ensures) ∙ room-refused false c.out_of_handles.result tt _ (sym c.room.ensures ∙ c.in_err-room.was) in
    rw (p.1, p.2) (sym (outcome-found (silent (dec_block b)) _ f))

pub returns : goal.returns
returns c =
    let b = c.args.block.now in
    let f = same-finding b ∙ ap (found_of false) (sym c.out_of_handles.ensures) ∙ unless-ok _ tt _ (sym c.room.ensures ∙ c.in_ok-room.was) in
    ap Ok c.silent.ensures ∙ sym (outcome-0 (silent (dec_block b)) f)
