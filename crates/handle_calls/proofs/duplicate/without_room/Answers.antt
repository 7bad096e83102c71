use Rattle.std.proofs.Common.{false, sym, ap, subst, ◌∙◌}
use Rattle.std.proofs.lemmas.Result.{err_from_is_err_and}
use Rattle.types.specs.Refusal.{unless-ok}
use Rattle.block.specs.Block.{dec_block}
use Rattle.outcome.specs.Findings.{found_of, room-refused}
use Rattle.objects.specs.Open.{Names}
use Rattle.objects.proofs.Names.{names-is}
use Rattle.handle_calls.proofs.Crowded.{no-slot, no_handle, used_up, not_known}
use Rattle.handle_calls.proofs.duplicate.without_room.Goals as goal

pub returns-then-no_room : goal.returns-then-no_room
returns-then-no_room c =
    let w = no-slot c.args.block.now c.requires.block_value c.args.r (sym c.no_room.ensures ∙ c.if-no_room.true) in
    record { value = w.0; block_value_2 = w.1 }

pub returns-then-names : goal.returns-then-names
returns-then-names c =
    let a = c.args in
    let n = subst (Names (dec_block a.block.now) a.r.r1) (sym c.names.ensures ∙ c.if-names.true) (names-is a.block.now c.requires.block_value a.r.r1) in
    let w = no_handle a.block.now c.requires.block_value a.r (sym c.no_room.ensures ∙ c.if-no_room.false) n a.refusal c.requires.refusal_value in
    record { value = w.0; block_value_2 = w.1 }

pub returns-in_err-room : goal.returns-in_err-room
returns-in_err-room c =
    let a = c.args in
    let n = subst (Names (dec_block a.block.now) a.r.r1) (sym c.names.ensures ∙ c.if-names.false) (names-is a.block.now c.requires.block_value a.r.r1) in
    let p = err_from_is_err_and c.from_residual.result c.from_residual.ensures.1 in
    let f = ap (found_of false) (sym c.out_of_handles.ensures) ∙ room-refused false c.out_of_handles.result tt _ (sym c.room.ensures ∙ c.in_err-room.was) in
    let w = used_up a.block.now c.requires.block_value a.r (sym c.no_room.ensures ∙ c.if-no_room.false) n _ f in
    rw (p.1, p.2) record { value = w.0; block_value_2 = w.1 }

pub returns : goal.returns
returns c =
    let a = c.args in
    let n = subst (Names (dec_block a.block.now) a.r.r1) (sym c.names.ensures ∙ c.if-names.false) (names-is a.block.now c.requires.block_value a.r.r1) in
    let f = ap (found_of false) (sym c.out_of_handles.ensures) ∙ unless-ok _ tt _ (sym c.room.ensures ∙ c.in_ok-room.was) in
    let w = not_known a.block.now c.requires.block_value a.r (sym c.no_room.ensures ∙ c.if-no_room.false) n f in
    rw c.from.ensures record { value = w.0; block_value_2 = w.1 }
