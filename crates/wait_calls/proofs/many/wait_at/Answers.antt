use Rattle.std.specs.Prelude.{Some}
use mathlib.Core.Path.{refl, sym, ◌∙◌}
use Rattle.types.specs.declared.thread.WaitSyscall.TheVariants.{WaitSynchronizationN}
use Rattle.block.specs.Block.{dec_block}
use Rattle.svc.specs.Call.{answers}
use Rattle.wait_calls.specs.Waits.{wait_on_in}
use Rattle.wait_calls.proofs.Begins.{begun-none}
use Rattle.wait_calls.proofs.Ways.{leaves, stays}
use Rattle.wait_calls.proofs.many.wait_at.Goals as goal

pub returns-then-is_zero : goal.returns-then-is_zero
returns-then-is_zero c =
    let a = c.args in
    let b = a.block.now in
    let k = dec_block b in
    let e = stays b c.requires.block_value c.requires.block_value_2 _ (answers 17 k) (answers 17 k) refl refl c.from.ensures in rw (c.in-None.is, sym c.is_zero.ensures ∙ c.if-is_zero.true) record { value = e.0; block_after = λ z. e.1 }

pub returns-else-is_zero : goal.returns-else-is_zero
returns-else-is_zero c =
    let a = c.args in
    let b = a.block.now in
    let k = dec_block b in
    let v = wait_on_in k a.w.thread a.w.list a.w.count a.w.all a.w.timeout.0 a.tick.0 (Some WaitSynchronizationN) in
    let e = leaves b _ _ v v refl (begun-none b c.requires.block_value_2 a.w.thread a.w.list a.w.count a.w.all a.w.timeout.0 a.tick.0 (Some WaitSynchronizationN) c.requires.current_thread_value) c.silent.ensures c.begin_wait.ensures in rw (c.in-None.is, sym c.is_zero.ensures ∙ c.if-is_zero.false) record { value = e.0; block_after = λ z. e.1 }
