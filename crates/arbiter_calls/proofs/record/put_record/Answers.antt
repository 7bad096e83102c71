use mathlib.Core.Path.{◌∙◌}
use Rattle.block.specs.Block.{dec_block}
use Rattle.rows.specs.Head.{sound-head}
use Rattle.rows.specs.Holds.{holds}
use Rattle.arbiter_calls.proofs.Records.{waiters_are, stored_in}
use Rattle.arbiter_calls.proofs.record.put_record.Goals as goal

pub returns : goal.returns
returns c = let a = c.args in
    let b = a.block.now in
    let s = c.requires.block_value in
    rw (c.put_head.ensures, c.put_slot.ensures, c.headed.ensures, c.write_all.ensures.b_after, c.waiter_at-unused.ensures)
    (stored_in b (dec_block b) (holds b s) a.o.0 a.t a.a c.get_head-head.result (c.get_head-head.ensures ∙ sound-head b s) c.slot_at-old.result c.slot_at-old.ensures c.read_all-ws.result (c.read_all-ws.ensures ∙ waiters_are b) a.last c.requires.last_value
    c.hang.new.ws c.hang.ensures c.write_all.ensures.l_len c.first_of-first.result
    (rw c.head_of.ensures at c.first_of-first.ensures))
