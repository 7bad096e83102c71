use mathlib.Core.Path.{sym, ap, ◌∙◌}
use Prim.Native.Nat.{◌≤◌}
use lib.ListN.{length}
use Rattle.laws.specs.All.{all_map}
use Rattle.block.specs.Block.{enc_block, dec_block}
use Rattle.signal.specs.Marks.{sync_list}
use Rattle.due.proofs.Caught.{none-due, state-is, back}
use Rattle.types.specs.Thread.{wait_list}
use Rattle.due.proofs.catch_up.Goals as goal

pub returns-then-not-timer_due : goal.returns-then-not-timer_due
returns-then-not-timer_due c = record { b_after = sym (none-due c.args.b.now c.args.tick.0 (sym c.timer_due.ensures ∙ c.if-not-timer_due.true)); b_after_2 = c.requires.b_value }

pub returns : goal.returns
returns c = let b = c.args.b.now in
    let ts = (dec_block b).threads in
    let m = c.mark_lists.ensures in
    let due = sym c.timer_due.ensures ∙ c.if-not-timer_due.false in
    let p = c.catch_up_slots.ensures ∙ ap enc_block (state-is b c.args.tick.0 c.requires.b_value c.requires.tick_value _ due (all_map (λ l. length l ≤ wait_list) sync_list ts m.all) m.m_after) in
    let k = back b c.args.tick.0 c.requires.b_value c.requires.tick_value _ p in
    record { b_after = k.0; b_after_2 = k.1 }
