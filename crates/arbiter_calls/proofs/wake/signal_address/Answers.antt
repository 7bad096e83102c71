use mathlib.Core.Path.{◌≡◌, sym, ◌∙◌}
use Rattle.object.specs.Ends.{links}
use Rattle.rows.specs.Head.{sound-head}
use Rattle.arbiter_calls.proofs.Records.{waiters_are}
use Rattle.arbiter_calls.proofs.Woken.{unlinked, unsignaled, signaled}
use Rattle.arbiter_calls.proofs.wake.signal_address.Goals as goal

pub returns-then-first-eq0 : goal.returns-then-first-eq0
returns-then-first-eq0 c = let a = c.args in
    unsignaled a.block.now a.block.now a.o.0 a.a a.value c.requires.block_value (rw c.slot_at-old.ensures at (sym c.head_of-first.ensures ∙ c.if-first-eq0.true))

pub returns : goal.returns
returns c = let a = c.args in
    let b = a.block.now in
    let s = c.requires.block_value in
    let w = c.read_all-ws.ensures ∙ waiters_are b in
    let f = c.get_head-head.ensures ∙ sound-head b s in
    let l = links c.unlink_chain-u.new.ws c.unlink_chain-u.result in
    let u : l ≡ unlinked b b a.o.0 a.a a.value =
    rw (w, c.parked_marks-parked.ensures, c.head_of-first.ensures, c.slot_at-old.ensures, f)
    at c.unlink_chain-u.ensures.value in
    let m = rw (w, c.parked_marks-parked.ensures, c.head_of-first.ensures, c.slot_at-old.ensures) at c.unlink_chain-u.ensures.parked_after in
    rw (c.put_head.ensures, c.put_slot.ensures, c.headed.ensures, c.write_all.ensures.b_after)
    (signaled b _ a.o.0 a.a a.value c.get_head-head.result f c.slot_at-old.result c.slot_at-old.ensures l u
    c.write_all.ensures.l_len (rw m at c.wake_threads.ensures))
