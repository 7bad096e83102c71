use mathlib.Core.Path.{sym, ◌∙◌}
use native.Mathlib.Omega.{arith}
use Rattle.block.specs.Table.{dec_id}
use Rattle.block.specs.Tables.{kept_in, row_at}
use Rattle.question.specs.ObjectSteps.{kept-fails}
use Rattle.question.proofs.objects.kept_threads_ok.Goals as goal

pub returns-then-not-kept_thread : goal.returns-then-not-kept_thread
returns-then-not-kept_thread c =
    let t = c.loop-t.t in
    let b = c.args.b.now in
    let k = c.kept_at-k.ensures ∙ row_at dec_id 4 (record { 0 = 0 }) 32 b 13184 t (omega arith) in
    let e = rw (c.slot_index-i.ensures.value, k) at c.kept_thread.ensures in
    sym (kept-fails _ _ (kept_in b) t 32 (omega arith) (sym e ∙ c.if-not-kept_thread.true))
