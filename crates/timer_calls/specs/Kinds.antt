-- The timer that an object holds; all 0 for another kind.
use Rattle.std.specs.Prelude.{false, None}
use Rattle.types.specs.declared.sync.ResetType.TheVariants.{OneShot}
use Rattle.types.specs.declared.sync.Timer as ti
use Rattle.types.specs.declared.object.KObject.{KObject}
use Rattle.types.specs.declared.object.KObject.TheVariants.{Free, Thread, Event, Mutex, Semaphore, Timer, AddressArbiter, Process, ResourceLimit}

abbrev pub no_timer : ti.Timer
no_timer = record { reset_type = OneShot; signaled = false; fire_at = None; interval = record { 0 = 0 } }

abbrev pub timer_of : KObject → ti.Timer
timer_of (Free n) = no_timer
timer_of (Thread t) = no_timer
timer_of (Event e) = no_timer
timer_of (Mutex m) = no_timer
timer_of (Semaphore s) = no_timer
timer_of (Timer t) = t
timer_of (AddressArbiter a) = no_timer
timer_of Process = no_timer
timer_of ResourceLimit = no_timer
