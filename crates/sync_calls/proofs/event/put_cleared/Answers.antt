use mathlib.Core.Path.{refl}
use Rattle.rows.specs.Holds.{holds}
use Rattle.pass.specs.Signal as sig
use Rattle.objects.proofs.Changed.{put-content}
use Rattle.sync_calls.proofs.event.put_cleared.Goals as goal

pub returns : goal.returns
unfolding sig.clear_event
returns c = rw (c.content.ensures, c.cleared_event.ensures, c.slot_at-x.ensures) (put-content (holds _ c.requires.block_value) _ _ _ refl)
