-- The calls on mutexes, semaphores and events of svc.rs.
use Rattle.std.specs.Prelude.{Bool, false, not, ℕ, ◌+◌, ◌-◌, ◌%◌, eqb, leb, ltb, Option, None}
use Rattle.laws.specs.Logic.{pick, ◌or◌}
use Rattle.types.specs.declared.sync.Mutex as mu
use Rattle.types.specs.declared.sync.Semaphore as se
use Rattle.types.specs.declared.object.KObject.{KObject}
use Rattle.types.specs.declared.object.KObject.TheVariants.{Free, Thread, Event, Mutex, Semaphore, Timer, AddressArbiter, Process, ResourceLimit}
use Rattle.types.specs.declared.kernel.Kernel.{Kernel}
use Rattle.types.specs.Sync.{reset_from_raw}
use Rattle.sound.specs.View.{object_at}
use Rattle.object.specs.declared.kept.Resolved.{Resolved}
use Rattle.object.specs.Slots.{content}
use Rattle.pass.specs.Signal as pass
use Rattle.svc.specs.declared.Registers.{Registers}
use Rattle.svc.specs.declared.Served.{Served}
use Rattle.svc.specs.Call.{done, gives, answers, invalid_handle, with_objects, with_over, resolved, create_object}

-- ---- `create_mutex`: r1 whether the current thread has it at once
abbrev pub new_mutex : Option ℕ → Bool → mu.Mutex
new_mutex current locked = record { owner = pick locked current None; lock_count = pick locked 1 0 }

unfoldable pub create_mutex : Kernel → Registers → Served
create_mutex k r = create_object k (Mutex (new_mutex k.current_thread (not (eqb r.r1 0))))

-- ---- `release_mutex`: r0 handle; any thread may let go of it, and with the last lock it has no owner
abbrev pub unlocked : mu.Mutex → mu.Mutex
unlocked m = record { owner = pick (eqb (m.lock_count - 1) 0) None m.owner; lock_count = m.lock_count - 1 }

-- an unknown handle reads as object 0, which is no mutex
abbrev pub release_mutex_as : KObject → Kernel → ℕ → Served
release_mutex_as (Free n) k o = answers invalid_handle k
release_mutex_as (Thread t) k o = answers invalid_handle k
release_mutex_as (Event e) k o = answers invalid_handle k
release_mutex_as (Mutex m) k o = done (with_objects k (content k.objects o (Mutex (unlocked m))))
release_mutex_as (Semaphore s) k o = answers invalid_handle k
release_mutex_as (Timer t) k o = answers invalid_handle k
release_mutex_as (AddressArbiter a) k o = answers invalid_handle k
release_mutex_as Process k o = answers invalid_handle k
release_mutex_as ResourceLimit k o = answers invalid_handle k

unfoldable pub release_mutex : Kernel → Registers → Served
release_mutex k r =
    let x : Resolved = resolved k r.r0 in
    release_mutex_as (object_at x.store x.object.0) (with_objects k x.store) x.object.0

-- ---- `create_semaphore`: r1 the count, r2 the maximum, signed
unfoldable pub create_semaphore : Kernel → Registers → Served
create_semaphore k r = create_object k (Semaphore (record { count = r.r1; max_count = r.r2 }))

-- ---- `release_semaphore`: r1 handle, r2 how many; r1 gets the count before
-- a signed word, moved up so that its order is that of the numbers
abbrev pub biased : ℕ → ℕ
biased n = (n + 2147483648) % 4294967296

-- the sum of two signed words, cut to a word
abbrev pub word_sum : ℕ → ℕ → ℕ
word_sum a b = (a + b) % 4294967296

-- question 8: it does not fit a signed word
abbrev pub sum_over : ℕ → ℕ → Bool
sum_over a b = ltb (biased a + biased b) 2147483648 or leb 6442450944 (biased a + biased b)

-- the lesser of two signed words
abbrev pub word_min : ℕ → ℕ → ℕ
word_min a b = pick (ltb (biased a) (biased b)) a b

-- never more than the maximum, which cuts down a count above it too
abbrev pub released_semaphore : se.Semaphore → ℕ → se.Semaphore
released_semaphore s n = record { count = word_min (word_sum s.count n) s.max_count; max_count = s.max_count }

abbrev pub release_semaphore_as : KObject → Kernel → ℕ → ℕ → Served
release_semaphore_as (Free n) k o c = answers invalid_handle k
release_semaphore_as (Thread t) k o c = answers invalid_handle k
release_semaphore_as (Event e) k o c = answers invalid_handle k
release_semaphore_as (Mutex m) k o c = answers invalid_handle k
release_semaphore_as (Semaphore s) k o c =
    gives (with_over (with_objects k (content k.objects o (Semaphore (released_semaphore s c)))) (k.overflow or sum_over s.count c)) s.count
release_semaphore_as (Timer t) k o c = answers invalid_handle k
release_semaphore_as (AddressArbiter a) k o c = answers invalid_handle k
release_semaphore_as Process k o c = answers invalid_handle k
release_semaphore_as ResourceLimit k o c = answers invalid_handle k

unfoldable pub release_semaphore : Kernel → Registers → Served
release_semaphore k r =
    let x : Resolved = resolved k r.r1 in
    release_semaphore_as (object_at x.store x.object.0) (with_objects k x.store) x.object.0 r.r2

-- ---- `create_event`: r1 reset type
unfoldable pub create_event : Kernel → Registers → Served
create_event k r = create_object k (Event (record { reset_type = reset_from_raw r.r1; signaled = false }))

-- ---- `signal_event` and `clear_event`: r0 handle; done for an object of another kind too
unfoldable pub signal_event : Kernel → Registers → Served
signal_event k r =
    let x : Resolved = resolved k r.r0 in
    pick (eqb x.object.0 0)
    (answers invalid_handle (with_objects k x.store))
    (done (with_objects k (pass.signal_event x.store k.threads x.object.0)))

unfoldable pub clear_event : Kernel → Registers → Served
clear_event k r =
    let x : Resolved = resolved k r.r0 in
    pick (eqb x.object.0 0)
    (answers invalid_handle (with_objects k x.store))
    (done (with_objects k (pass.clear_event x.store x.object.0)))
