-- What is found if the current thread parks at the address a through the handle h. Assumes nothing.
use Rattle.std.specs.Prelude.{Bool, false, not, ℕ, eqb, Option, Some, None}
use Rattle.laws.specs.Logic.{◌and◌, ◌or◌}
use Rattle.types.specs.declared.object.ObjectStore.{ObjectStore}
use Rattle.types.specs.declared.kernel.Kernel.{Kernel}
use Rattle.pass.specs.Asks.{open_object}
use Rattle.svc.specs.Call.{resolved}
use Rattle.lent.specs.Operations.{out_of_handles?}
use Rattle.outcome.specs.Findings.{found_of}
use Rattle.objects.specs.Open.{no_room}
use Rattle.arbiter_calls.specs.Record.{stores}

-- without a current thread nobody parks
abbrev pub stores_as : ObjectStore → Option ℕ → ℕ → ℕ → Bool
stores_as s None o a = false
stores_as s (Some t) o a = stores s o t a

-- a record is to be stored, and none is free
abbrev pub lacks : ObjectStore → Option ℕ → ℕ → ℕ → Bool
lacks s c o a = stores_as s c o a and eqb s.free_waiter 0

-- a pseudo-handle names no arbiter
abbrev pub no_record : Kernel → ℕ → ℕ → Bool
no_record k h a = lacks k.objects k.current_thread (open_object k h) a

-- the handle names an object once it is open
abbrev pub known : Kernel → ℕ → Bool
known k h = not (eqb (resolved k h).object.0 0)

unfoldable pub found_parking : Kernel → ℕ → ℕ → Bool → ℕ
found_parking k h a over = found_of (no_room k h or no_record k h a) ((over and known k h) or out_of_handles? k)
