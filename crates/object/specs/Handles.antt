-- `HandleTable` of object.rs: the open handles stand first, in rising order.
use Rattle.std.specs.Prelude.{List, [], ◌∷◌, ◌++◌, ℕ, zero, suc, ◌+◌, ◌-◌, eqb, leb, ltb, get_or, set}
use Rattle.laws.specs.Logic.{pick, ◌or◌}
use Rattle.types.specs.declared.object.HandleEntry.{HandleEntry}
use Rattle.types.specs.declared.object.HandleTable.{HandleTable}
use Rattle.types.specs.declared.object.ObjectStore.{ObjectStore}
use Rattle.object.specs.declared.handles.Both.{Both}
use Rattle.object.specs.Store.{add_ref, release}

abbrev pub no_entry : HandleEntry
no_entry = record { handle = record { 0 = 0 }; object = record { 0 = 0 } }

-- the next handle, for the object o; full with 256 open, overflow if the next would pass 0xFFFF8000
unfoldable pub give : HandleTable → ℕ → HandleTable
give t o = record {
  entries = set t.entries t.count (record { handle = t.next; object = record { 0 = o } });
  count = pick (ltb t.count 256) (t.count + 1) t.count;
  next = record { 0 = pick (ltb t.next.0 0xFFFF8000) (t.next.0 + 1) t.next.0 };
  full = t.full or leb 256 t.count;
  overflow = t.overflow or leb 0xFFFF8000 t.next.0;
}

-- the index of a handle among the entries, or their number; an unused entry has handle 0, which is none
unfoldable pub place_of : List HandleEntry → ℕ → ℕ
place_of [] h = 0
place_of (e ∷ es) h = pick (eqb e.handle.0 h) 0 (suc (place_of es h))

-- the object that a handle names, 0 if none
unfoldable pub object_of : HandleTable → ℕ → ℕ
object_of t h = (get_or t.entries (place_of t.entries h) no_entry).object.0

-- the entry at place k taken out, and those after it moved up
unfoldable pub without : List HandleEntry → ℕ → List HandleEntry
without [] k = []
without (e ∷ es) zero = es ++ (no_entry ∷ [])
without (e ∷ es) (suc k) = e ∷ without es k

abbrev pub taken_out : HandleTable → ℕ → HandleTable
taken_out t k = record { entries = without t.entries k; count = t.count - 1; next = t.next; full = t.full; overflow = t.overflow }

-- `create` and `duplicate_object`: a handle more for an object, and a holder more
unfoldable pub create : HandleTable → ObjectStore → ℕ → Both
create t s o = record { table = give t o; store = add_ref s o }

-- `close`: an unknown handle is done
unfoldable pub close : HandleTable → ObjectStore → ℕ → Both
close t s h =
    pick (eqb (object_of t h) 0)
    (record { table = t; store = s })
    (record { table = taken_out t (place_of t.entries h); store = release s (object_of t h) })
