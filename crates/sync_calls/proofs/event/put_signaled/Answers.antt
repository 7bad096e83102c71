use Rattle.rows.specs.Holds.{holds, put-slot}
use Rattle.pass.specs.Signal as sig
use Rattle.sync_calls.proofs.event.put_signaled.Goals as goal

pub returns : goal.returns
unfolding sig.signal_event
returns c = rw (c.put_slot.ensures, c.signaled_slot.ensures, c.waited_sync-waited.ensures, c.slot_at-x.ensures) (put-slot (holds _ c.requires.block_value) _ _)
