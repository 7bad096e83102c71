-- `is_signaled`, `acquire`, `signal_event` and `clear_event` of mod.rs, and the end of a pulse.
use Rattle.std.specs.Prelude.{Bool, true, false, not, List, [], ◌∷◌, map, ℕ, ◌+◌, ◌%◌, eqb, ltb, Option, Some, None}
use Rattle.laws.specs.Logic.{pick, ◌and◌, ◌or◌}
use Rattle.types.specs.declared.thread.ThreadStatus.{ThreadStatus}
use Rattle.types.specs.declared.thread.ThreadStatus.TheVariants.{Dead, Running, Ready, Sleeping, WaitSync, WaitArbiter, Dormant}
use Rattle.types.specs.declared.thread.Thread as th
use Rattle.types.specs.declared.sync.ResetType.{ResetType}
use Rattle.types.specs.declared.sync.ResetType.TheVariants.{OneShot, Sticky, Pulse}
use Rattle.types.specs.declared.sync.Event as ev
use Rattle.types.specs.declared.object.KObject.{KObject}
use Rattle.types.specs.declared.object.KObject.TheVariants.{Free, Thread, Event, Mutex, Semaphore, Timer, AddressArbiter, Process, ResourceLimit}
use Rattle.types.specs.declared.object.Slot.{Slot}
use Rattle.types.specs.declared.object.ObjectStore.{ObjectStore}
use Rattle.types.specs.Thread.{is_dead}
use Rattle.sound.specs.View.{ids, object_at, slot_at, thread_at}
use Rattle.object.specs.Slots.{with_slots, slot_put, content}
use Rattle.kernel.specs.NextEvent.{contains}

-- ---- `is_signaled`: whether waiting on an object would succeed right now for a thread
-- a signed count above 0
abbrev pub positive : ℕ → Bool
positive n = ltb 0 n and ltb n 2147483648

-- nobody's, or the thread's own
abbrev pub free_for : Option ℕ → ℕ → Bool
free_for None w = true
free_for (Some u) w = eqb u w

-- what holds no signal is signalled, and so is an object that is not there
abbrev pub is_signaled : List th.Thread → KObject → ℕ → Bool
is_signaled ts (Free n) w = true
is_signaled ts (Thread u) w = is_dead (thread_at ts u).status
is_signaled ts (Event e) w = e.signaled
is_signaled ts (Mutex m) w = free_for m.owner w
is_signaled ts (Semaphore s) w = positive s.count
is_signaled ts (Timer t) w = t.signaled
is_signaled ts (AddressArbiter a) w = true
is_signaled ts Process w = true
is_signaled ts ResourceLimit w = true

-- ---- `acquire`: what a wait that succeeds takes of the signal
-- only a one-shot clears itself
abbrev pub stays_set : ResetType → Bool → Bool
stays_set OneShot b = false
stays_set Sticky b = b
stays_set Pulse b = b

-- one less, as a signed word
abbrev pub one_less : ℕ → ℕ
one_less n = (n + 4294967295) % 4294967296

abbrev pub acquired : KObject → ℕ → KObject
acquired (Free n) w = Free n
acquired (Thread u) w = Thread u
acquired (Event e) w = Event (record { reset_type = e.reset_type; signaled = stays_set e.reset_type e.signaled })
acquired (Mutex m) w = Mutex
    (record { owner = Some w; lock_count = pick (ltb m.lock_count 4294967295) (m.lock_count + 1) m.lock_count })
acquired (Semaphore s) w = Semaphore (record { count = one_less s.count; max_count = s.max_count })
acquired (Timer t) w = Timer (record { reset_type = t.reset_type; signaled = stays_set t.reset_type t.signaled; fire_at = t.fire_at; interval = t.interval })
acquired (AddressArbiter a) w = AddressArbiter a
acquired Process w = Process
acquired ResourceLimit w = ResourceLimit

-- question 8: the lock count or the count does not fit any more
abbrev pub acquire_over : KObject → Bool
acquire_over (Free n) = false
acquire_over (Thread u) = false
acquire_over (Event e) = false
acquire_over (Mutex m) = eqb m.lock_count 4294967295
acquire_over (Semaphore s) = eqb s.count 2147483648
acquire_over (Timer t) = false
acquire_over (AddressArbiter a) = false
acquire_over Process = false
acquire_over ResourceLimit = false

abbrev pub with_overflow : ObjectStore → Bool → ObjectStore
with_overflow s b = record { slots = s.slots; free = s.free; waiters = s.waiters; free_waiter = s.free_waiter; thread_objects = s.thread_objects; process_object = s.process_object; full = s.full; overflow = b }

unfoldable pub acquire : ObjectStore → ℕ → ℕ → ObjectStore
acquire s o w = with_overflow (content s o (acquired (object_at s o) w)) (s.overflow or acquire_over (object_at s o))

-- one after the other, in list order
unfoldable pub acquires : ObjectStore → List ℕ → ℕ → ObjectStore
acquires s [] w = s
acquires s (o ∷ os) w = acquires (acquire s o w) os w

-- ---- waiting on an object, as `signal_event` and `catch_up_timers` see it
abbrev pub waits_sync : ThreadStatus → Bool
waits_sync Dead = false
waits_sync Running = false
waits_sync Ready = false
waits_sync Sleeping = false
waits_sync WaitSync = true
waits_sync WaitArbiter = false
waits_sync Dormant = false

-- unused places of a list are 0, which is no object
unfoldable pub waited_sync : List th.Thread → ℕ → Bool
waited_sync [] o = false
waited_sync (t ∷ ts) o = (waits_sync t.status and contains (ids t.wait_objects) o) or waited_sync ts o

-- ---- `signal_event`: a pulse that nothing waits on is lost
abbrev pub is_pulse : ResetType → Bool
is_pulse OneShot = false
is_pulse Sticky = false
is_pulse Pulse = true

abbrev pub signaled_event : ev.Event → ev.Event
signaled_event e = record { reset_type = e.reset_type; signaled = true }

abbrev pub signaled_slot : Bool → Slot → KObject → Slot
signaled_slot waited s (Free n) = s
signaled_slot waited s (Thread u) = s
signaled_slot waited s (Event e) =
    pick (is_pulse e.reset_type and not waited) s (record { object = Event (signaled_event e); refcount = s.refcount; pulsed = s.pulsed or is_pulse e.reset_type })
signaled_slot waited s (Mutex m) = s
signaled_slot waited s (Semaphore x) = s
signaled_slot waited s (Timer t) = s
signaled_slot waited s (AddressArbiter a) = s
signaled_slot waited s Process = s
signaled_slot waited s ResourceLimit = s

unfoldable pub signal_event : ObjectStore → List th.Thread → ℕ → ObjectStore
signal_event s ts o = with_slots s (slot_put s.slots o (signaled_slot (waited_sync ts o) (slot_at s.slots o) (object_at s o)))

-- ---- `clear_event`
abbrev pub cleared_event : KObject → KObject
cleared_event (Free n) = Free n
cleared_event (Thread u) = Thread u
cleared_event (Event e) = Event (record { reset_type = e.reset_type; signaled = false })
cleared_event (Mutex m) = Mutex m
cleared_event (Semaphore s) = Semaphore s
cleared_event (Timer t) = Timer t
cleared_event (AddressArbiter a) = AddressArbiter a
cleared_event Process = Process
cleared_event ResourceLimit = ResourceLimit

unfoldable pub clear_event : ObjectStore → ℕ → ObjectStore
clear_event s o = content s o (cleared_event (object_at s o))

-- ---- the pass's end of all pulses: the mark clears any event or timer that has the slot by now, whatever its reset type
abbrev pub quieted : KObject → KObject
quieted (Free n) = Free n
quieted (Thread u) = Thread u
quieted (Event e) = Event (record { reset_type = e.reset_type; signaled = false })
quieted (Mutex m) = Mutex m
quieted (Semaphore s) = Semaphore s
quieted (Timer t) = Timer (record { reset_type = t.reset_type; signaled = false; fire_at = t.fire_at; interval = t.interval })
quieted (AddressArbiter a) = AddressArbiter a
quieted Process = Process
quieted ResourceLimit = ResourceLimit

abbrev pub unpulsed_slot : Slot → Slot
unpulsed_slot s = record { object = pick s.pulsed (quieted s.object) s.object; refcount = s.refcount; pulsed = false }

unfoldable pub clear_pulses : ObjectStore → ObjectStore
clear_pulses s = with_slots s (map unpulsed_slot s.slots)

-- whether any pulse waits for a pass, on a dead slot too
unfoldable pub any_pulsed : List Slot → Bool
any_pulsed [] = false
any_pulsed (s ∷ ss) = s.pulsed or any_pulsed ss
