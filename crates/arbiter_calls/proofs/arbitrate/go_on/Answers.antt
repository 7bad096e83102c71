use Rattle.std.proofs.lemmas.Result.{err_from_is_err_and}
use Rattle.block.specs.Block.{dec_block}
use Rattle.objects.proofs.Calls.{refused-call}
use Rattle.arbiter_calls.proofs.Handle.{handle_finding, not_known, known}
use mathlib.Core.Path.{refl}
use Rattle.rows.specs.Holds.{holds}
use Rattle.arbiter_calls.specs.Kinds.{on_handle, goes_on}
use Rattle.arbiter_calls.proofs.arbitrate.go_on.Goals as goal

pub returns-in_err-o : goal.returns-in_err-o
returns-in_err-o c = let a = c.args in
    let b = a.block.now in
    let w' = refused-call b a.h.0 _ c.resolve.result c.resolve.ensures.opens (on_handle (dec_block b) a.h.0 goes_on) (handle_finding (dec_block b) a.h.0 goes_on (λ q o. refl)) _ c.in_err-o.was in
    let p = err_from_is_err_and c.from_residual.result c.from_residual.ensures.1 in
    rw (p.1, p.2) record { value = w'.0; block_after = w'.1 }

pub returns-then-o-eq0 : goal.returns-then-o-eq0
returns-then-o-eq0 c = let a = c.args in
    let b = a.block.now in
    let w' = not_known b c.requires.block_value a.h.0 goes_on _ c.resolve.result c.resolve.ensures.opens _ c.in_ok-o.was (handle_finding (dec_block b) a.h.0 goes_on (λ q o. refl)) c.if-o-eq0.true _ c.from.ensures in
    record { value = w'.0; block_after = w'.1 }

pub returns : goal.returns
returns c = let a = c.args in
    let b = a.block.now in
    let w' = known b c.requires.block_value a.h.0 goes_on _ c.resolve.result c.resolve.ensures.opens _ c.in_ok-o.was (handle_finding (dec_block b) a.h.0 goes_on (λ q o. refl)) c.if-o-eq0.false _ c.done.ensures _ (holds _ c.resolve.ensures.block_after) in
    record { value = w'.0; block_after = w'.1 }
