use mathlib.Core.Path.{ap, ◌∙◌}
use lib.Dec.{eqb}
use Prim.Native.Nat.{ℕ}
use Rattle.types.specs.declared.object.Slot.{Slot}
use Rattle.types.specs.Object.{next_of}
use Rattle.block.specs.Block.{dec_block}
use Rattle.sound.specs.View.{slot_at}
use Rattle.objects.proofs.Room.{free-is}
use Rattle.wait_calls.specs.Room.{lacking}
use Rattle.wait_calls.proofs.room.lacks_room.Goals as goal

pub returns : goal.returns
returns c =
    let s = (dec_block c.args.block.now).objects in
    let f = free-is c.args.block.now 0 c.get32-free.result c.get32-free.ensures in
    let n = c.next_of.ensures ∙ ap (λ (x : Slot). next_of x.object) c.slot_at-x.ensures ∙ ap (λ (o : ℕ). next_of (slot_at s.slots o).object) f in
    c.lacking.ensures ∙ (λ i. lacking (eqb (f i) 0) (eqb (n i) 0) (c.wants-thread.ensures i) (c.wants-process.ensures i))
