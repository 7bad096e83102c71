-- A block that holds a state, after a handle more and after a handle less. Assumes nothing.
use Rattle.std.proofs.lemmas.Grind.{common_steps}
use Rattle.rows.specs.Place.{index_some, index_none}
use Rattle.release.specs.Encoded.{sound-encoded}
use Rattle.handle_calls.proofs.Removed.{entry-is}
use mathlib.Core.Path.{◌≡◌, refl, ap, ◌∙◌}
use mathlib.Core.Logic.{◌≢◌}
use mathlib.Core.Bool.{Bool, true, false}
use mathlib.Core.List.{List}
use Prim.Native.Nat.{ℕ, ◌≤◌}
use lib.Dec.{leb, eqb}
use lib.ListN.{length, get_or, get_or-eq_default}
use borrow.Author.Tests.{eq-eqb, ne_eqb}
use Rattle.laws.specs.Logic.{pick}
use Rattle.units.specs.declared.ObjectId.{ObjectId}
use Rattle.types.specs.declared.object.Slot.{Slot}
use Rattle.types.specs.declared.object.ObjectStore.{ObjectStore}
use Rattle.types.specs.declared.object.HandleEntry.{HandleEntry}
use Rattle.types.specs.declared.object.HandleTable.{HandleTable}
use Rattle.types.specs.declared.kernel.Kernel.{Kernel}
use Rattle.block.specs.declared.Head.{Head}
use Rattle.block.specs.Block.{head_words}
use Rattle.sound.specs.View.{slot_at, object_at}
use Rattle.object.specs.Held.{held}
use Rattle.object.specs.Slots.{with_slots}
use Rattle.object.specs.Store.{add_ref, is_free, release, release_if}
use Rattle.object.specs.declared.handles.Both.{Both}
use Rattle.object.specs.Handles.{no_entry, give, close, object_of, place_of, taken_out}
use Rattle.thread.specs.Threads.{with_threads}
use Rattle.object.proofs.Laws.{add-ref-held}
use Rattle.svc.specs.Call.{with_handles}
use Rattle.rows.specs.Rows.{slot_put, entry_put, head_put, entry_given, head_given}
use Rattle.rows.specs.Holds.{Holds, holds, with_table, put-slot, put-entry, put-head}

-- ---- a handle more
module _ (b : List ℕ) (k : Kernel) (g : Holds b k) (o : ObjectId) where
  abbrev more : Kernel
  more = with_handles k (give k.handles o.0) (add_ref k.objects o.0)

  abbrev with_handle : Head → Slot → List ℕ
  with_handle h x = head_put (entry_put (slot_put b o.0 x) h.handle_count (entry_given h o)) (head_given h)

  in_tables : Holds (with_handle (head_words k) (held (slot_at k.objects.slots o.0))) more
  unfolding give
  in_tables =
      rw (add-ref-held k.objects o.0)
      (put-head (put-entry (put-slot g o.0 (held (slot_at k.objects.slots o.0))) k.handles.count (entry_given (head_words k) o))
      (with_handles k (give k.handles o.0) (with_slots k.objects _)) refl refl refl refl refl)

  pub duplicated : (h : Head) → h ≡ head_words k → (x : Slot) → x ≡ held (slot_at k.objects.slots o.0) → Holds (with_handle h x) more
  duplicated h e x f = rw (f, e) in_tables

-- ---- a handle less
-- what a release leaves as it was
pub record Kept (s r : ObjectStore) : Type 0 where
  pub full : r.full ≡ s.full
  pub overflow : r.overflow ≡ s.overflow
  pub threads : r.thread_objects ≡ s.thread_objects
  pub process : r.process_object ≡ s.process_object

release-kept : (s : ObjectStore) (o : ℕ) → Kept s (release s o)
unfolding release release_if
release-kept s o = go (is_free (object_at s o)) (leb 2 (slot_at s.slots o).refcount)
  where
    go : (p q : Bool) → Kept s (pick p s (release_if q s o))
    go true q = record { full = refl; overflow = refl; threads = refl; process = refl }
    go false true = record { full = refl; overflow = refl; threads = refl; process = refl }
    go false false = record { full = refl; overflow = refl; threads = refl; process = refl }

pub close-kept : (t : HandleTable) (s : ObjectStore) (h : ℕ) → Kept s (close t s h).store
unfolding close
close-kept t s h = go (eqb (object_of t h) 0)
  where
    go : (p : Bool) → Kept s (pick {A = Both} p (record { table = t; store = s }) (record { table = taken_out t (place_of t.entries h); store = release s (object_of t h) })).store
    go true = record { full = refl; overflow = refl; threads = refl; process = refl }
    go false = release-kept s (object_of t h)

pub record KeptTable (t r : HandleTable) : Type 0 where
  pub full : r.full ≡ t.full
  pub overflow : r.overflow ≡ t.overflow
  pub next : r.next ≡ t.next

pub close-table : (t : HandleTable) (s : ObjectStore) (h : ℕ) → KeptTable t (close t s h).table
unfolding close
close-table t s h = go (eqb (object_of t h) 0)
  where
    go : (p : Bool) → KeptTable t (pick {A = Both} p (record { table = t; store = s }) (record { table = taken_out t (place_of t.entries h); store = release s (object_of t h) })).table
    go true = record { full = refl; overflow = refl; next = refl }
    go false = record { full = refl; overflow = refl; next = refl }

-- an unknown handle
pub closed_none : (k : Kernel) (h : ℕ) → object_of k.handles h ≡ 0 → k ≡ with_handles k (close k.handles k.objects h).table (close k.handles k.objects h).store
unfolding close
closed_none k h e = rw (eq-eqb (object_of k.handles h) 0 e)

-- one at place i that names o; q is the state with the object let go
pub closed_some : (k q : Kernel) (h i o : ℕ) → i ≡ place_of k.handles.entries h → o ≡ object_of k.handles h → o ≢ 0 → q ≡ with_threads k k.threads (release k.objects o)
    → with_table q (taken_out q.handles i) ≡ with_handles k (close k.handles k.objects h).table (close k.handles k.objects h).store
unfolding close
closed_some k q h i o ei eo z e =
    let n : eqb (object_of k.handles h) 0 ≡ false = ne_eqb (object_of k.handles h) 0 (λ w. z (eo ∙ w)) in
    ap (λ (y : Kernel). with_table y (taken_out y.handles i)) e ∙ rw (n, ei, eo)

-- the object of a handle that has no place, and of one at place i
pub no_place : (t : HandleTable) (h i : ℕ) → i ≡ place_of t.entries h → length t.entries ≤ i → object_of t h ≡ 0
unfolding object_of
no_place t h i e n = ap (λ (y : HandleEntry). y.object.0) (get_or-eq_default t.entries no_entry (rw e at n))

pub at_place : (t : HandleTable) (h i : ℕ) → i ≡ place_of t.entries h → (get_or t.entries i no_entry).object.0 ≡ object_of t h
unfolding object_of
at_place t h i e = rw e

pub ruleset closes = (
  common_steps,
  index_some,
  index_none,
  entry-is,
  no_place,
  at_place,
  holds,
  sound-encoded,
  closed_none,
  closed_some,
)
