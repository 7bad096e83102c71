use mathlib.Core.Path.{sym, ap, subst, ◌∙◌}
use Prim.Native.Nat.{◌+◌, ◌≤◌, ◌<◌}
use native.Mathlib.Omega.{arith}
use lib.ListN.{length, drop}
use lib.Seq.{take_all}
use Rattle.laws.specs.All.{all-take-more}
use Rattle.laws.specs.Tally.{tally, tally_all, tally_all-more, tally_all-none}
use Rattle.types.specs.declared.thread.Thread.{Thread}
use Rattle.types.specs.Thread.{wait_list}
use Rattle.block.specs.Block.{dec_block}
use Rattle.sound.specs.View.{no_thread}
use Rattle.kernel.specs.NextEvent.{wake_after, next_wake}
use Rattle.kernel.specs.Marks.{list_if, lists_if}
use Rattle.kernel.proofs.Steps.{wake-step, wake-end}
use Rattle.rows.specs.Sizes.{size-threads}
use Rattle.due.proofs.Looked.{thread-is}
use Rattle.asked.proofs.event.look_at_threads.Goals as goal

pub loop-i-preserved : goal.loop-i-preserved
loop-i-preserved c =
    let l = c.loop-i in
    let b = c.args.b.now in
    let ts = (dec_block b).threads in
    let n = size-threads b in
    let h : l.i < length ts = omega arith in
    let r = c.thread_at-t.ensures ∙ thread-is b l.i (omega arith) in
    record {
      wake = ap (λ x. next_wake x (drop (l.i + 1) ts)) (c.wake_after-best.ensures ∙ ap (wake_after l.best) r) ∙ sym (wake-step ts l.i l.best h) ∙ l.invariant.wake;
      marks = ap (λ x. tally_all 129 x (lists_if (drop (l.i + 1) ts))) (c.mark_list.ensures.m_after ∙ ap (λ (t : Thread). tally 129 l.m (list_if t)) r) ∙ sym (tally_all-more 129 list_if ts l.i no_thread l.m h) ∙ l.invariant.marks;
      short = all-take-more (λ t. length (list_if t) ≤ wait_list) ts l.i no_thread h l.invariant.short (subst (λ (t : Thread). length (list_if t) ≤ wait_list) r c.mark_list.ensures.t_len_bound);
    }

pub returns : goal.returns
returns c =
    let l = c.loop-i in
    let ts = (dec_block c.args.b.now).threads in
    let n = size-threads c.args.b.now in
    let e : length ts ≤ l.i = omega arith in
    record {
      result_value = sym (wake-end ts l.i l.best e) ∙ l.invariant.wake;
      m_after = sym (tally_all-none 129 list_if ts l.m l.i e) ∙ l.invariant.marks;
      all = rw (take_all l.i ts e) at l.invariant.short;
    }
