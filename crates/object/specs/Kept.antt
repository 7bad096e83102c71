-- `thread_object`, `process_object` and `resolve` of mod.rs: the objects that the kernel keeps for threads and for the process.
use Rattle.std.specs.Prelude.{ℕ, eqb, set, Option, Some, None}
use Rattle.laws.specs.Logic.{pick}
use Rattle.types.specs.declared.object.KObject.TheVariants.{Thread, Process}
use Rattle.types.specs.declared.object.HandleTable.{HandleTable}
use Rattle.types.specs.declared.object.ObjectStore.{ObjectStore}
use Rattle.sound.specs.Objects.{kept_at}
use Rattle.object.specs.declared.kept.Resolved.{Resolved}
use Rattle.object.specs.Slots.{with_kept, with_process}
use Rattle.object.specs.Store.{insert}
use Rattle.object.specs.Handles.{object_of}

-- the object of a thread, made on first use and kept for every handle after
unfoldable pub thread_object : ObjectStore → ℕ → ObjectStore
thread_object s t =
    pick (eqb (kept_at s t) 0)
    (with_kept (insert s (Thread t)) (set s.thread_objects t (record { 0 = s.free })))
    s

unfoldable pub process_object : ObjectStore → ObjectStore
process_object s =
    pick (eqb s.process_object.0 0)
    (with_process (insert s Process) (record { 0 = s.free }))
    s

abbrev pub of_current : ObjectStore → Option ℕ → Resolved
of_current s None = record { object = record { 0 = 0 }; store = s }
of_current s (Some t) = record { object = record { 0 = kept_at (thread_object s t) t }; store = thread_object s t }

-- 0xFFFF8000 is the current thread, 0xFFFF8001 the process
unfoldable pub resolve : Option ℕ → HandleTable → ObjectStore → ℕ → Resolved
resolve current t s h =
    pick (eqb h 0xFFFF8000) (of_current s current)
    (pick (eqb h 0xFFFF8001) (record { object = (process_object s).process_object; store = process_object s })
    (record { object = record { 0 = object_of t h }; store = s }))
