-- A block that holds a state, with a new object written into it. Assumes nothing.
use mathlib.Core.Path.{◌≡◌, refl}
use mathlib.Core.List.{List}
use Prim.Native.Nat.{ℕ}
use Rattle.types.specs.declared.object.KObject.{KObject}
use Rattle.types.specs.declared.object.ObjectStore.{ObjectStore}
use Rattle.types.specs.declared.kernel.Kernel.{Kernel}
use Rattle.block.specs.declared.Head.{Head}
use Rattle.block.specs.Block.{head_words, dec_block}
use Rattle.sound.specs.View.{slot_at}
use Rattle.object.specs.Slots.{with_process}
use Rattle.object.specs.Store.{insert}
use Rattle.object.specs.Handles.{give}
use Rattle.svc.specs.Call.{with_handles, with_objects}
use Rattle.rows.specs.Rows.{slot_put, entry_put, head_put, slot_inserted, head_inserted, entry_given, head_given}
use Rattle.rows.specs.Holds.{Holds, put-slot, put-entry, put-head}

module _ (b : List ℕ) (g : Holds b (dec_block b)) (v : KObject) where
  abbrev k : Kernel
  k = dec_block b

  abbrev s : ObjectStore
  s = k.objects

  -- the object in its slot; the head h without that slot
  abbrev in_slot : Head → List ℕ
  in_slot h = slot_put b h.free (slot_inserted (slot_at s.slots h.free) v 1)

  abbrev taken : Head → Head
  taken h = head_inserted h (slot_at s.slots h.free)

  -- ---- an object with a handle
  abbrev with_created : Kernel
  with_created = with_handles k (give k.handles s.free) (insert s v)

  abbrev with_handle : Head → List ℕ
  with_handle h = head_put (entry_put (in_slot h) h.handle_count (entry_given (taken h) (record { 0 = h.free }))) (head_given (taken h))

  in_tables : Holds (with_handle (head_words k)) with_created
  unfolding insert give
  in_tables = put-head (put-entry (put-slot g s.free _) k.handles.count _) with_created refl refl refl refl refl

  pub created : (h : Head) → h ≡ head_words k → Holds (with_handle h) with_created
  created h e = rw e in_tables

  -- ---- an object alone, and the number of the process's
  abbrev with_inserted : ℕ → Kernel
  with_inserted p = with_objects k (with_process (insert s v) (record { 0 = p }))

  in_slots : (p : ℕ) → Holds (head_put (in_slot (head_words k)) (record (taken (head_words k)) { process_object = p })) (with_inserted p)
  unfolding insert
  in_slots p = put-head (put-slot g s.free _) (with_inserted p) refl refl refl refl refl

  pub inserted : (p : ℕ) (h : Head) → h ≡ head_words k → Holds (head_put (in_slot h) (record (taken h) { process_object = p })) (with_inserted p)
  inserted p h e = rw e (in_slots p)
