use Rattle.std.proofs.Common.{sym, ap, subst, arith, drop, ◌∙◌}
use Rattle.std.specs.Prelude.{◌+◌, ◌≤◌, ◌<◌, length}
use Rattle.std.proofs.Math.Seq.{take_all}
use Rattle.laws.specs.All.{all-take-more}
use Rattle.laws.specs.Tally.{tally, tally_all, tally_all-more, tally_all-none}
use Rattle.types.specs.declared.thread.Thread.{Thread}
use Rattle.types.specs.Thread.{wait_list}
use Rattle.block.specs.Block.{dec_block}
use Rattle.sound.specs.View.{no_thread}
use Rattle.signal.specs.Marks.{sync_list, sync_lists}
use Rattle.rows.specs.Sizes.{size-threads}
use Rattle.due.proofs.Looked.{thread-is}
use Rattle.due.proofs.mark_lists.Goals as goal

pub loop-i-preserved : goal.loop-i-preserved
loop-i-preserved c =
    let l = c.loop-i in
    let b = c.args.b.now in
    let ts = (dec_block b).threads in
    let n = size-threads b in
    let h : l.i < length ts = omega arith in
    let r = c.thread_at.ensures ∙ thread-is b l.i (omega arith) in
    record {
      marks = ap (λ x. tally_all 129 x (sync_lists (drop (l.i + 1) ts))) (c.mark_list.ensures.m_after ∙ ap (λ (t : Thread). tally 129 l.m (sync_list t)) r) ∙ sym (tally_all-more 129 sync_list ts l.i no_thread l.m h) ∙ l.invariant.marks;
      short = all-take-more (λ t. length (sync_list t) ≤ wait_list) ts l.i no_thread h l.invariant.short (subst (λ (t : Thread). length (sync_list t) ≤ wait_list) r c.mark_list.ensures.t_len_bound);
    }

pub returns : goal.returns
returns c =
    let l = c.loop-i in
    let ts = (dec_block c.args.b.now).threads in
    let n = size-threads c.args.b.now in
    let e : length ts ≤ l.i = omega arith in
    record { m_after = sym (tally_all-none 129 sync_list ts l.m l.i e) ∙ l.invariant.marks; all = rw (take_all l.i ts e) at l.invariant.short }
