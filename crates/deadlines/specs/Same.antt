-- Guest calls that leave every thread as it is: all on objects and handles.
use Rattle.std.specs.Prelude.{refl, ℕ, eqb}
use Rattle.types.specs.declared.object.KObject.{KObject}
use Rattle.types.specs.declared.object.KObject.TheVariants.{Free, Thread, Event, Mutex, Semaphore, Timer, AddressArbiter, Process, ResourceLimit}
use Rattle.types.specs.declared.object.ObjectStore.{ObjectStore}
use Rattle.types.specs.declared.kernel.Kernel.{Kernel}
use Rattle.sound.specs.View.{object_at}
use Rattle.object.specs.declared.kept.Resolved.{Resolved}
use Rattle.soundness.specs.Slots.{pick-both}
use Rattle.svc.specs.declared.Registers.{Registers}
use Rattle.svc.specs.declared.Served.{Served}
use Rattle.svc.specs.Call.{with_objects, resolved, create_object}
use Rattle.svc.specs.Sync.{create_mutex, release_mutex_as, release_mutex, create_semaphore, release_semaphore_as, release_semaphore, create_event, signal_event, clear_event}
use Rattle.svc.specs.Timers.{create_timer, caught_up, set_timer_as, set_timer, cancel_timer, clear_timer}
use Rattle.svc.specs.Arbiter.{create_address_arbiter}
use Rattle.svc.specs.Handles.{close_handle, duplicate_handle}
use Rattle.deadlines.specs.Effect.{Same}

abbrev pub Leaves : Kernel → Served → Type 0
Leaves k x = Same k x.kernel

-- ---- a new object
pub create-same : (k : Kernel) (v : KObject) → Leaves k (create_object k v)
unfolding create_object
create-same k v = record { threads = refl; relief = refl }

pub create_mutex-same : (k : Kernel) (r : Registers) → Leaves k (create_mutex k r)
unfolding create_mutex
create_mutex-same k r = create-same k _

pub create_semaphore-same : (k : Kernel) (r : Registers) → Leaves k (create_semaphore k r)
unfolding create_semaphore
create_semaphore-same k r = create-same k _

pub create_event-same : (k : Kernel) (r : Registers) → Leaves k (create_event k r)
unfolding create_event
create_event-same k r = create-same k _

pub create_timer-same : (k : Kernel) (r : Registers) → Leaves k (create_timer k r)
unfolding create_timer
create_timer-same k r = create-same k _

pub create_arbiter_same : (k : Kernel) → Leaves k (create_address_arbiter k)
unfolding create_address_arbiter
create_arbiter_same k = create-same k _

-- another store is no change of threads
same_store : (k : Kernel) (s : ObjectStore) (k' : Kernel) → Same (with_objects k s) k' → Same k k'
same_store k s k' h = record { threads = h.threads; relief = h.relief }

-- ---- mutexes and semaphores, by what the handle names
mutex_as : (x : KObject) (k : Kernel) (o : ℕ) → Leaves k (release_mutex_as x k o)
mutex_as (Free n) k o = record { threads = refl; relief = refl }
mutex_as (Thread t) k o = record { threads = refl; relief = refl }
mutex_as (Event e) k o = record { threads = refl; relief = refl }
mutex_as (Mutex m) k o = record { threads = refl; relief = refl }
mutex_as (Semaphore s) k o = record { threads = refl; relief = refl }
mutex_as (Timer t) k o = record { threads = refl; relief = refl }
mutex_as (AddressArbiter a) k o = record { threads = refl; relief = refl }
mutex_as Process k o = record { threads = refl; relief = refl }
mutex_as ResourceLimit k o = record { threads = refl; relief = refl }

pub release_mutex-same : (k : Kernel) (r : Registers) → Leaves k (release_mutex k r)
unfolding release_mutex
release_mutex-same k r =
    let x : Resolved = resolved k r.r0 in
    same_store k x.store _ (mutex_as (object_at x.store x.object.0) (with_objects k x.store) x.object.0)

semaphore_as : (x : KObject) (k : Kernel) (o c : ℕ) → Leaves k (release_semaphore_as x k o c)
semaphore_as (Free n) k o c = record { threads = refl; relief = refl }
semaphore_as (Thread t) k o c = record { threads = refl; relief = refl }
semaphore_as (Event e) k o c = record { threads = refl; relief = refl }
semaphore_as (Mutex m) k o c = record { threads = refl; relief = refl }
semaphore_as (Semaphore s) k o c = record { threads = refl; relief = refl }
semaphore_as (Timer t) k o c = record { threads = refl; relief = refl }
semaphore_as (AddressArbiter y) k o c = record { threads = refl; relief = refl }
semaphore_as Process k o c = record { threads = refl; relief = refl }
semaphore_as ResourceLimit k o c = record { threads = refl; relief = refl }

pub release_semaphore-same : (k : Kernel) (r : Registers) → Leaves k (release_semaphore k r)
unfolding release_semaphore
release_semaphore-same k r =
    let x : Resolved = resolved k r.r1 in
    same_store k x.store _ (semaphore_as (object_at x.store x.object.0) (with_objects k x.store) x.object.0 r.r2)

-- ---- events
pub signal_event-same : (k : Kernel) (r : Registers) → Leaves k (signal_event k r)
unfolding signal_event
signal_event-same k r = pick-both (Leaves k) (eqb (resolved k r.r0).object.0 0) _ _ (record { threads = refl; relief = refl }) (record { threads = refl; relief = refl })

pub clear_event-same : (k : Kernel) (r : Registers) → Leaves k (clear_event k r)
unfolding clear_event
clear_event-same k r = pick-both (Leaves k) (eqb (resolved k r.r0).object.0 0) _ _ (record { threads = refl; relief = refl }) (record { threads = refl; relief = refl })

-- ---- timers
set_as : (x : KObject) (k : Kernel) (o a b tick : ℕ) → Leaves k (set_timer_as x k o a b tick)
set_as (Free n) k o a b tick = record { threads = refl; relief = refl }
set_as (Thread t) k o a b tick = record { threads = refl; relief = refl }
set_as (Event e) k o a b tick = record { threads = refl; relief = refl }
set_as (Mutex m) k o a b tick = record { threads = refl; relief = refl }
set_as (Semaphore s) k o a b tick = record { threads = refl; relief = refl }
set_as (Timer t) k o a b tick = record { threads = refl; relief = refl }
set_as (AddressArbiter y) k o a b tick = record { threads = refl; relief = refl }
set_as Process k o a b tick = record { threads = refl; relief = refl }
set_as ResourceLimit k o a b tick = record { threads = refl; relief = refl }

pub set_timer-same : (k : Kernel) (r : Registers) (tick : ℕ) → Leaves k (set_timer k r tick)
unfolding set_timer
set_timer-same k r tick =
    let c : Kernel = caught_up k tick in
    let x : Resolved = resolved c r.r0 in
    same_store k c.objects _ (same_store c x.store _ (set_as (object_at x.store x.object.0) (with_objects c x.store) x.object.0 _ _ tick))

pub cancel_timer-same : (k : Kernel) (r : Registers) (tick : ℕ) → Leaves k (cancel_timer k r tick)
unfolding cancel_timer
cancel_timer-same k r tick = record { threads = refl; relief = refl }

pub clear_timer-same : (k : Kernel) (r : Registers) (tick : ℕ) → Leaves k (clear_timer k r tick)
unfolding clear_timer
clear_timer-same k r tick = record { threads = refl; relief = refl }

-- ---- handles
pub close_handle-same : (k : Kernel) (r : Registers) → Leaves k (close_handle k r)
unfolding close_handle
close_handle-same k r = record { threads = refl; relief = refl }

pub duplicate_handle-same : (k : Kernel) (r : Registers) → Leaves k (duplicate_handle k r)
unfolding duplicate_handle
duplicate_handle-same k r = pick-both (Leaves k) (eqb (resolved k r.r1).object.0 0) _ _ (record { threads = refl; relief = refl }) (record { threads = refl; relief = refl })
