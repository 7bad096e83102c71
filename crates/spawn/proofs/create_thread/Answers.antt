use Rattle.std.proofs.Common.{ap, sym, ◌∙◌}
use Rattle.std.proofs.lemmas.Result.{err_from_is_err_and}
use Rattle.std.specs.Prelude.{ℕ, leb}
use borrow.Author.Tests.{ne_eqb}
use Rattle.laws.specs.Logic.{◌or◌}
use Rattle.types.specs.Refusal.{unless_found, refusal-some}
use Rattle.block.specs.Block.{dec_block}
use Rattle.lent.specs.Operations.{out_of_handles?}
use Rattle.outcome.specs.Findings.{found_of}
use Rattle.spawn.proofs.Made.{create-finding}
use Rattle.spawn.proofs.create_thread.Goals as goal

pub returns-in_err-room_to_create : goal.returns-in_err-room_to_create
returns-in_err-room_to_create c =
    let a = c.args in
    let k = dec_block a.block.now in
    let p = err_from_is_err_and c.from_residual.result c.from_residual.ensures.1 in
    let e = ap (λ n. found_of (leb 32 n) (leb 4294967295 k.next_guest_id or out_of_handles? k)) c.requires.id_value ∙ sym (create-finding a.block.now a.asked.entry a.asked.stack_top a.asked.priority a.asked.processor_id) in
    rw (p.1, p.2) record {
      value = sym c.in_err-room_to_create.was ∙ c.room_to_create.ensures ∙ ap (λ (n : ℕ). unless_found n tt) e;
      block_after = rw (ne_eqb _ 0 (refusal-some c.in_err-room_to_create.field-0.0));
    }

pub returns : goal.returns
returns c =
    let a = c.args in
    let k = dec_block a.block.now in
    let e = ap (λ n. found_of (leb 32 n) (leb 4294967295 k.next_guest_id or out_of_handles? k)) c.requires.id_value ∙ sym (create-finding a.block.now a.asked.entry a.asked.stack_top a.asked.priority a.asked.processor_id) in
    record {
      value = sym c.in_ok-room_to_create.was ∙ c.room_to_create.ensures ∙ ap (λ (n : ℕ). unless_found n tt) e;
      block_after = c.put_created.ensures.same;
    }
