-- Whether counts are near the end of their type: they may not fit after a wait has taken of them at each place of its list. Assumes nothing.
use Rattle.std.specs.Prelude.{Bool, false, not, List, [], ◌∷◌, ℕ, ◌-◌, leb}
use Rattle.laws.specs.Logic.{◌and◌, ◌or◌}
use Rattle.types.specs.declared.object.KObject.{KObject}
use Rattle.types.specs.declared.object.KObject.TheVariants.{Free, Thread, Event, Mutex, Semaphore, Timer, AddressArbiter, Process, ResourceLimit}
use Rattle.types.specs.declared.object.ObjectStore.{ObjectStore}
use Rattle.types.specs.Thread.{wait_list}
use Rattle.sound.specs.View.{object_at}

-- a semaphore's is, once it is below 0
abbrev pub near : KObject → Bool
near (Free n) = false
near (Thread u) = false
near (Event e) = false
near (Mutex m) = leb (4294967296 - wait_list) m.lock_count
near (Semaphore s) = leb 2147483648 s.count
near (Timer t) = false
near (AddressArbiter a) = false
near Process = false
near ResourceLimit = false

unfoldable pub any_near : ObjectStore → List ℕ → Bool
any_near s [] = false
any_near s (o ∷ os) = near (object_at s o) or any_near s os

-- whether a wait on the objects may find a count too large after it has written: a wait for all writes what it takes one by
-- one, one for any once, unless a timer fires or a handle is opened before
abbrev pub may_find : ObjectStore → List ℕ → Bool → Bool → Bool → Bool
may_find s os all fires known = (all or (fires or not known)) and any_near s os
