use Rattle.std.proofs.lemmas.Result.{err_from_is_err_and}
use Rattle.block.specs.Block.{dec_block}
use Rattle.objects.proofs.Calls.{refused-call}
use Rattle.arbiter_calls.proofs.Handle.{handle_finding, not_known, known}
use Rattle.arbiter_calls.specs.Kinds.{on_handle, signals}
use Rattle.arbiter_calls.proofs.ByKind.{signal-finding}
use Rattle.arbiter_calls.proofs.arbitrate.signal.Goals as goal

pub returns-in_err-o : goal.returns-in_err-o
returns-in_err-o c = let a = c.args in
    let b = a.block.now in
    let w' = refused-call b a.h.0 _ c.resolve.result c.resolve.ensures.opens (on_handle (dec_block b) a.h.0 (signals a.a a.value)) (handle_finding (dec_block b) a.h.0 (signals a.a a.value) (signal-finding a.a a.value)) _ c.in_err-o.was in
    let p = err_from_is_err_and c.from_residual.result c.from_residual.ensures.1 in
    rw (p.1, p.2) record { value = w'.0; block_after = w'.1 }

pub returns-then-o-eq0 : goal.returns-then-o-eq0
returns-then-o-eq0 c = let a = c.args in
    let b = a.block.now in
    let w' = not_known b c.requires.block_value a.h.0 (signals a.a a.value) _ c.resolve.result c.resolve.ensures.opens _ c.in_ok-o.was (handle_finding (dec_block b) a.h.0 (signals a.a a.value) (signal-finding a.a a.value)) c.if-o-eq0.true _ c.from.ensures in
    record { value = w'.0; block_after = w'.1 }

pub returns : goal.returns
returns c = let a = c.args in
    let b = a.block.now in
    let w' = known b c.requires.block_value a.h.0 (signals a.a a.value) _ c.resolve.result c.resolve.ensures.opens _ c.in_ok-o.was (handle_finding (dec_block b) a.h.0 (signals a.a a.value) (signal-finding a.a a.value)) c.if-o-eq0.false _ c.done.ensures _ c.signal_address.ensures in
    record { value = w'.0; block_after = w'.1 }
