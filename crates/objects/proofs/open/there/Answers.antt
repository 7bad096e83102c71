use Rattle.std.proofs.Common.{ap, sym, ◌∙◌}
use Rattle.std.proofs.lemmas.Result.{err_from_is_err_and}
use Rattle.std.specs.Prelude.{false, ℕ}
use Rattle.types.specs.Refusal.{unless_found, unless-ok, unless-err, unless-none}
use Rattle.outcome.specs.Findings.{found_of, same-finding}
use Rattle.objects.proofs.open.there.Goals as goal

-- what was asked is what is found of the state as it is
pub returns-in_err-room : goal.returns-in_err-room
returns-in_err-room c =
    let e = c.room.ensures ∙ ap (λ (n : ℕ). unless_found n tt) (ap (found_of false) c.out_of_handles.ensures ∙ sym (same-finding c.args.block.now)) in
    let p = err_from_is_err_and c.from_residual.result c.from_residual.ensures.1 in
    rw (p.1, p.2) (sym (unless-err _ tt c.args.o _ (sym e ∙ c.in_err-room.was)))

pub returns : goal.returns
returns c =
    let e = c.room.ensures ∙ ap (λ (n : ℕ). unless_found n tt) (ap (found_of false) c.out_of_handles.ensures ∙ sym (same-finding c.args.block.now)) in
    sym (unless-none _ c.args.o (unless-ok _ tt _ (sym e ∙ c.in_ok-room.was)))
