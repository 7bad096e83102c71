-- A handle that is no pseudo-handle names what the table says, and makes nothing. Assumes nothing.
use Rattle.std.specs.Prelude.{Option}
use mathlib.Core.Path.{◌≡◌}
use mathlib.Core.Bool.{false}
use Prim.Native.Nat.{ℕ}
use lib.Dec.{eqb}
use Rattle.laws.specs.Logic.{or-false}
use Rattle.types.specs.declared.object.HandleTable.{HandleTable}
use Rattle.types.specs.declared.object.ObjectStore.{ObjectStore}
use Rattle.object.specs.Handles.{object_of}
use Rattle.object.specs.Kept.{resolve}
use Rattle.pass.specs.Asks.{pseudo}

pub plain : (c : Option ℕ) (t : HandleTable) (s : ObjectStore) (h : ℕ) → pseudo h ≡ false → resolve c t s h ≡ record { object = record { 0 = object_of t h }; store = s }
unfolding resolve
plain c t s h e = let p = or-false (eqb h 0xFFFF8000) (eqb h 0xFFFF8001) e in rw (p.0, p.1)
