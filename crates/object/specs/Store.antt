-- `ObjectStore` of object.rs: slots and reference counts.
use Rattle.std.specs.Prelude.{Bool, true, false, List, [], ◌∷◌, ℕ, ◌+◌, ◌-◌, eqb, leb, ltb}
use Rattle.laws.specs.Logic.{pick, ◌or◌}
use Rattle.types.specs.declared.object.KObject.{KObject}
use Rattle.types.specs.declared.object.KObject.TheVariants.{Free}
use Rattle.types.specs.declared.object.ObjectStore.{ObjectStore}
use Rattle.types.specs.Object.{kind_number, next_of}
use Rattle.sound.specs.View.{slot_at, object_at}
use Rattle.object.specs.Slots.{slot_put, with_slots, with_refcount}
use Rattle.object.specs.Waiters.{unlinked}

-- of a dead slot; a number that no slot has reads as one too
abbrev pub is_free : KObject → Bool
is_free x = eqb (kind_number x) 0

-- a new object in the first free slot, whose number the store's `free` has; full if there is none.
-- The Rust inserts it with no holder and counts the first one right after: here the first is counted at once. The mark stays with the slot.
unfoldable pub insert : ObjectStore → KObject → ObjectStore
insert s v = record {
  slots = slot_put s.slots s.free (record { object = v; refcount = 1; pulsed = (slot_at s.slots s.free).pulsed });
  free = next_of (object_at s s.free);
  waiters = s.waiters;
  free_waiter = s.free_waiter;
  thread_objects = s.thread_objects;
  process_object = s.process_object;
  full = s.full or eqb s.free 0;
  overflow = s.overflow;
}

-- one holder more; a dead slot is not counted, and no count of a sound block comes near the last 32-bit number
unfoldable pub add_ref : ObjectStore → ℕ → ObjectStore
add_ref s o =
    pick (is_free (object_at s o)) s
    (with_slots s (slot_put s.slots o (with_refcount (slot_at s.slots o) (pick (ltb (slot_at s.slots o).refcount 4294967295) ((slot_at s.slots o).refcount + 1) (slot_at s.slots o).refcount))))

unfoldable pub add_refs : ObjectStore → List ℕ → ObjectStore
add_refs s [] = s
add_refs s (o ∷ os) = add_refs (add_ref s o) os

-- one holder less; with the last the slot is free, first in line, and an arbiter's records are free again
unfoldable pub release_if : Bool → ObjectStore → ℕ → ObjectStore
release_if true s o = with_slots s (slot_put s.slots o (with_refcount (slot_at s.slots o) ((slot_at s.slots o).refcount - 1)))
release_if false s o = record {
  slots = slot_put s.slots o (record { object = Free s.free; refcount = 0; pulsed = (slot_at s.slots o).pulsed });
  free = o;
  waiters = (unlinked (λ r. false) s o).waiters;
  free_waiter = (unlinked (λ r. false) s o).free;
  thread_objects = s.thread_objects;
  process_object = s.process_object;
  full = s.full;
  overflow = s.overflow;
}

-- a dead slot has no holder to lose
unfoldable pub release : ObjectStore → ℕ → ObjectStore
release s o = pick (is_free (object_at s o)) s (release_if (leb 2 (slot_at s.slots o).refcount) s o)

unfoldable pub releases : ObjectStore → List ℕ → ObjectStore
releases s [] = s
releases s (o ∷ os) = releases (release s o) os

abbrev pub refcount : ObjectStore → ℕ → ℕ
refcount s o = (slot_at s.slots o).refcount
