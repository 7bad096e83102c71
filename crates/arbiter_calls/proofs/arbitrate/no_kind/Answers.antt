use mathlib.Core.Path.{sym, ◌∙◌}
use Rattle.std.proofs.lemmas.Result.{err_from_is_err_and}
use Rattle.arbiter_calls.proofs.ByKind.{answers-over, answers-same}
use Rattle.arbiter_calls.proofs.arbitrate.no_kind.Goals as goal

pub returns-in_err-room : goal.returns-in_err-room
returns-in_err-room c =
    let w' = answers-over c.args.block.now 18 _ (rw c.out_of_handles.ensures at (sym c.room.ensures ∙ c.in_err-room.was)) in
    let p = err_from_is_err_and c.from_residual.result c.from_residual.ensures.1 in
    rw (p.1, p.2) record { value = w'.0; block_value_2 = w'.1 }

pub returns : goal.returns
returns c =
    let w' = answers-same c.args.block.now 18 c.requires.block_value _ (rw c.out_of_handles.ensures at (sym c.room.ensures ∙ c.in_ok-room.was)) in
    rw c.from.ensures record { value = w'.0; block_value_2 = w'.1 }
