-- One part of the store anew.
use Rattle.std.specs.Prelude.{List, ℕ, zero, suc, set}
use Rattle.units.specs.declared.ObjectId.{ObjectId}
use Rattle.types.specs.declared.object.KObject.{KObject}
use Rattle.types.specs.declared.object.Slot.{Slot}
use Rattle.types.specs.declared.object.ObjectStore.{ObjectStore}
use Rattle.sound.specs.View.{slot_at}

-- objects are numbered from 1; a number that no slot has stores nothing
unfoldable pub slot_put : List Slot → ℕ → Slot → List Slot
slot_put l zero v = l
slot_put l (suc i) v = set l i v

abbrev pub with_slots : ObjectStore → List Slot → ObjectStore
with_slots s x = record { slots = x; free = s.free; waiters = s.waiters; free_waiter = s.free_waiter; thread_objects = s.thread_objects; process_object = s.process_object; full = s.full; overflow = s.overflow }

abbrev pub with_kept : ObjectStore → List ObjectId → ObjectStore
with_kept s x = record { slots = s.slots; free = s.free; waiters = s.waiters; free_waiter = s.free_waiter; thread_objects = x; process_object = s.process_object; full = s.full; overflow = s.overflow }

abbrev pub with_process : ObjectStore → ObjectId → ObjectStore
with_process s x = record { slots = s.slots; free = s.free; waiters = s.waiters; free_waiter = s.free_waiter; thread_objects = s.thread_objects; process_object = x; full = s.full; overflow = s.overflow }

-- an object changes what it holds, and nothing else of its slot
abbrev pub with_object : Slot → KObject → Slot
with_object s x = record { object = x; refcount = s.refcount; pulsed = s.pulsed }

abbrev pub with_refcount : Slot → ℕ → Slot
with_refcount s n = record { object = s.object; refcount = n; pulsed = s.pulsed }

unfoldable pub content : ObjectStore → ℕ → KObject → ObjectStore
content s o x = with_slots s (slot_put s.slots o (with_object (slot_at s.slots o) x))
