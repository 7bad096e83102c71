-- What opening a handle leaves in the block b, from the state k on; e is the block afterwards. Assumes nothing.
use Rattle.std.specs.Prelude.{◌≡◌, Bool, true, false, not, List, ◌≢◌, ℕ, eqb, Option, Some, None, Result, Ok, Err}
use Rattle.laws.specs.Logic.{pick, ◌and◌}
use Rattle.types.specs.declared.object.HandleTable.{HandleTable}
use Rattle.types.specs.declared.object.ObjectStore.{ObjectStore}
use Rattle.types.specs.declared.kernel.Kernel.{Kernel}
use Rattle.types.specs.declared.refusal.Refusal.{Refusal}
use Rattle.types.specs.Refusal.{found_in}
use Rattle.types.specs.Thread.{option_flag}
use Rattle.units.specs.declared.ObjectId.{ObjectId}
use Rattle.sound.specs.Objects.{kept_at}
use Rattle.object.specs.declared.kept.Resolved.{Resolved}
use Rattle.object.specs.Handles.{object_of}
use Rattle.object.specs.Kept.{process_object}
use Rattle.svc.specs.Call.{with_objects, resolved}
use Rattle.lent.specs.Operations.{finding, out_of_handles?}
use Rattle.rows.specs.Holds.{Holds}
use Rattle.outcome.specs.Findings.{found_of}

-- the object that is opened, 0 where it is refused
abbrev pub object_in : Result ObjectId Refusal → ℕ
object_in (Ok o) = o.0
object_in (Err r) = 0

pub record Opens (k : Kernel) (x : Resolved) (b e : List ℕ) (o : Result ObjectId Refusal) : Type 0 where
  pub found : found_in o ≡ finding (with_objects k x.store)
  -- if it is refused the block stays as it is
  pub same : (found_in o ≡ 0 → ⊥) → e ≡ b
  pub holds : found_in o ≡ 0 → Holds e (with_objects k x.store)
  pub object : found_in o ≡ 0 → object_in o ≡ x.object.0

abbrev pub of_process : ObjectStore → Resolved
of_process s = record { object = (process_object s).process_object; store = process_object s }

-- the object kept for the current thread is yet to be made
abbrev pub makes_current : ObjectStore → Option ℕ → Bool
makes_current s None = false
makes_current s (Some t) = eqb (kept_at s t) 0

-- that of a handle is: a pseudo-handle on first use
abbrev pub makes : Kernel → ℕ → Bool
makes k h = pick (eqb h 0xFFFF8000) (makes_current k.objects k.current_thread) (pick (eqb h 0xFFFF8001) (eqb k.objects.process_object.0 0) false)

-- and no slot is free
abbrev pub no_room : Kernel → ℕ → Bool
no_room k h = eqb k.objects.free 0 and makes k h

-- whether a handle names an object once it is open, with a slot for one that is to be made
abbrev pub named : Option ℕ → HandleTable → ℕ → Bool
named c t h = pick (eqb h 0xFFFF8000) (not (eqb (option_flag c) 0))
    (pick (eqb h 0xFFFF8001) true (not (eqb (object_of t h) 0)))

pub record Names (k : Kernel) (h : ℕ) (r : Bool) : Type 0 where
  pub none : r ≡ false → resolved k h ≡ record { object = record { 0 = 0 }; store = k.objects }
  pub some : r ≡ true → no_room k h ≡ false → (resolved k h).object.0 ≢ 0

-- what is found if an object must be made
abbrev pub found_making : Kernel → ℕ
found_making k = found_of (eqb k.objects.free 0) (out_of_handles? k)
