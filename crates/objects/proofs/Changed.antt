-- An object that changes what it holds: nothing more is found, and the block holds it. Assumes nothing.
use mathlib.Core.Path.{◌≡◌, refl}
use mathlib.Core.List.{List}
use Prim.Native.Nat.{ℕ}
use Rattle.types.specs.declared.object.KObject.{KObject}
use Rattle.types.specs.declared.object.Slot.{Slot}
use Rattle.types.specs.declared.kernel.Kernel.{Kernel}
use Rattle.sound.specs.View.{slot_at}
use Rattle.object.specs.Slots.{content, with_object, with_slots}
use Rattle.svc.specs.Call.{with_objects}
use Rattle.lent.specs.Operations.{finding, out_of_handles?}
use Rattle.rows.specs.Rows.{slot_put}
use Rattle.rows.specs.Holds.{Holds, put-slot}

-- other slots, and nothing more is found
pub slots-finding : (k : Kernel) (l : List Slot) → finding (with_objects k (with_slots k.objects l)) ≡ finding k
unfolding finding out_of_handles?
slots-finding k l = refl

pub content-finding : (k : Kernel) (o : ℕ) (v : KObject) → finding (with_objects k (content k.objects o v)) ≡ finding k
unfolding content finding out_of_handles?
content-finding k o v = refl

-- an object changes what it holds, in the block
pub put-content : {b : List ℕ} {k : Kernel} → Holds b k → (o : ℕ) (x : Slot) (v : KObject) → x ≡ slot_at k.objects.slots o → Holds (slot_put b o (with_object x v)) (with_objects k (content k.objects o v))
unfolding content
put-content g o x v e = rw e (put-slot g o _)
