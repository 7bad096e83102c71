use mathlib.Core.Path.{◌≡◌, ◌∙◌}
use native.Mathlib.Omega.{arith}
use lib.ListN.{length, length-set}
use Rattle.block.specs.Thread.{dec_thread}
use Rattle.block.specs.Tables.{threads_in, row_at}
use Rattle.codec.proofs.Fit.{length-dec_all}
use Rattle.types.specs.declared.thread.Thread.{Thread}
use Rattle.sound.specs.View.{no_thread}
use Rattle.question.specs.LinearObjects.{dead_mark}
use Rattle.tally.specs.Columns.{map_more, map-done}
use Rattle.question.proofs.objects.dead_marks.Goals as goal

pub loop-i-preserved : goal.loop-i-preserved
loop-i-preserved c =
    let l = c.loop-i in
    let b = c.args.b.now in
    let n : length (threads_in b) ≡ 32 = length-dec_all dec_thread 160 32 b 128 in
    let t = c.thread_at.ensures ∙ row_at dec_thread 160 no_thread 32 b 128 l.i (omega arith) in
    record {
      made = length-set _ _ _ ∙ l.invariant.made;
      marks = rw (c.dead_mark.ensures, t) (map_more (λ (x : Thread). dead_mark x.status) (threads_in b) no_thread l.r l.i (omega arith) (omega arith) l.invariant.marks);
    }

pub returns : goal.returns
returns c =
    let l = c.loop-i in
    let b = c.args.b.now in
    let n : length (threads_in b) ≡ 32 = length-dec_all dec_thread 160 32 b 128 in
    map-done (λ (x : Thread). dead_mark x.status) (threads_in b) l.r l.i (omega arith) (omega arith) l.invariant.marks
