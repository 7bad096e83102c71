use Rattle.std.proofs.Common.{rules, ap, sym, ◌∙◌}
use Rattle.std.proofs.lemmas.Result.{err_from_is_err_and}
use Rattle.std.specs.Prelude.{◌≡◌, Ok, eqb, leb}
use Rattle.laws.specs.Logic.{◌or◌}
use Rattle.codec.specs.Layout.{dec_as}
use Rattle.types.specs.Refusal.{unless-ok, refusal-some}
use Rattle.block.specs.Block.{dec_block}
use Rattle.svc.specs.Call.{create_object}
use Rattle.outcome.specs.Outcome.{given, outcome-0, outcome-found, left-0, left-found}
use Rattle.outcome.specs.Findings.{found_of, room-refused}
use Rattle.objects.proofs.Found.{created-finding}
use Rattle.objects.proofs.create.create_object.Goals as goal

pub returns-in_err-room : goal.returns-in_err-room
unfolding dec_block dec_as ◌or◌
returns-in_err-room c =
    let f : c.if-free-eq0.room ≡ (eqb c.get32-free.result 0 or leb 256 c.get32-count.result) = search rules in
    let p = err_from_is_err_and c.from_residual.result c.from_residual.ensures.1 in
    let e = (λ i. found_of (f i) (leb 0xFFFF8000 c.get32-next.result)) ∙ (λ i. found_of (eqb (c.get32-free.ensures i) 0 or leb 256 (c.get32-count.ensures i)) (leb 0xFFFF8000 (c.get32-next.ensures i))) in
    let g = created-finding c.args.block.now c.args.v ∙ sym e ∙ room-refused _ _ tt _ (sym c.room.ensures ∙ c.in_err-room.was) in
    rw (p.1, p.2) record { value = sym (outcome-found _ _ g); block_after = sym (left-found _ _ (λ z. refusal-some _ (sym g ∙ z))) }

pub returns : goal.returns
unfolding dec_block dec_as create_object ◌or◌
returns c =
    let f : c.if-free-eq0.room ≡ (eqb c.get32-free.result 0 or leb 256 c.get32-count.result) = search rules in
    let e = (λ i. found_of (f i) (leb 0xFFFF8000 c.get32-next.result)) ∙ (λ i. found_of (eqb (c.get32-free.ensures i) 0 or leb 256 (c.get32-count.ensures i)) (leb 0xFFFF8000 (c.get32-next.ensures i))) in
    let z = created-finding c.args.block.now c.args.v ∙ sym e ∙ unless-ok _ tt _ (sym c.room.ensures ∙ c.in_ok-room.was) in
    record { value = ap Ok (c.gives.ensures ∙ ap given c.get32-next.ensures) ∙ sym (outcome-0 _ z); block_after = c.put_created.ensures.same ∙ sym (left-0 _ _ z) }
