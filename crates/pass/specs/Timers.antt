-- `fire_timers`, `catch_up_timers` and `timer_due` of mod.rs. `timers` is the live timer slots.
use Rattle.units.specs.declared.Ticks.{Ticks}
use Rattle.std.specs.Prelude.{Bool, true, false, not, List, [], ◌∷◌, map, ℕ, suc, ◌+◌, ◌-◌, ◌*◌, ◌/◌, leb, ltb, Option}
use Rattle.std.specs.Prelude.{Some, None}
use Rattle.laws.specs.Logic.{pick, ◌and◌, ◌or◌}
use Rattle.types.specs.declared.thread.Thread as th
use Rattle.types.specs.declared.sync.Timer as ti
use Rattle.types.specs.declared.object.KObject.{KObject}
use Rattle.types.specs.declared.object.KObject.TheVariants.{Free, Thread, Event, Mutex, Semaphore, Timer, AddressArbiter, Process, ResourceLimit}
use Rattle.types.specs.declared.object.Slot.{Slot}
use Rattle.types.specs.declared.object.ObjectStore.{ObjectStore}
use Rattle.object.specs.Slots.{with_slots}
use Rattle.kernel.specs.NextEvent.{due_of}
use Rattle.thread.specs.Threads.{least}
use Rattle.pass.specs.Signal.{is_pulse, waited_sync, with_overflow}

-- ---- 64 bits, saturating
abbrev pub max_tick : ℕ
max_tick = 18446744073709551615

abbrev pub saturating_add : ℕ → ℕ → ℕ
saturating_add a b = least (a + b) max_tick

abbrev pub saturating_mul : ℕ → ℕ → ℕ
saturating_mul a b = least (a * b) max_tick

-- ---- `fire_timers`
-- whether a timer comes due by the tick
abbrev pub due_by : Option Ticks → ℕ → Bool
due_by None tick = false
due_by (Some at) tick = leb at.0 tick

-- the first period after the tick, counted from when it came due; an interval of 0 fires once
abbrev pub due_again : ℕ → ℕ → ℕ → Option Ticks
due_again at interval tick = pick (ltb 0 interval)
    (Some (record { 0 = saturating_add at (saturating_mul interval ((tick - at) / interval + 1)) })) None

-- question 8: the count of periods does not fit
abbrev pub periods_over : ℕ → ℕ → ℕ → Bool
periods_over at interval tick = ltb 0 interval and leb max_tick ((tick - at) / interval)

abbrev pub fired_timer : ti.Timer → ℕ → ℕ → ti.Timer
fired_timer t at tick = record { reset_type = t.reset_type; signaled = true; fire_at = due_again at t.interval.0 tick; interval = t.interval }

-- once, however many periods went by; a pulse is marked
abbrev pub fired_at : Slot → ti.Timer → Option Ticks → ℕ → Slot
fired_at s t None tick = s
fired_at s t (Some at) tick =
    pick (leb at.0 tick) (record { object = Timer (fired_timer t at.0 tick); refcount = s.refcount; pulsed = s.pulsed or is_pulse t.reset_type }) s

abbrev pub fired_as : Slot → KObject → ℕ → Slot
fired_as s (Free n) tick = s
fired_as s (Thread u) tick = s
fired_as s (Event e) tick = s
fired_as s (Mutex m) tick = s
fired_as s (Semaphore x) tick = s
fired_as s (Timer t) tick = fired_at s t t.fire_at tick
fired_as s (AddressArbiter a) tick = s
fired_as s Process tick = s
fired_as s ResourceLimit tick = s

abbrev pub fired_slot : ℕ → Slot → Slot
fired_slot tick s = fired_as s s.object tick

abbrev pub over_at : Option Ticks → ℕ → ℕ → Bool
over_at None interval tick = false
over_at (Some at) interval tick = leb at.0 tick and periods_over at.0 interval tick

abbrev pub over_of : KObject → ℕ → Bool
over_of (Free n) tick = false
over_of (Thread u) tick = false
over_of (Event e) tick = false
over_of (Mutex m) tick = false
over_of (Semaphore x) tick = false
over_of (Timer t) tick = over_at t.fire_at t.interval.0 tick
over_of (AddressArbiter a) tick = false
over_of Process tick = false
over_of ResourceLimit tick = false

unfoldable pub any_over : ℕ → List Slot → Bool
any_over tick [] = false
any_over tick (s ∷ ss) = over_of s.object tick or any_over tick ss

unfoldable pub fire_timers : ObjectStore → ℕ → ObjectStore
fire_timers s tick = with_overflow (with_slots s (map (fired_slot tick) s.slots)) (s.overflow or any_over tick s.slots)

-- ---- `timer_due`: whether a timer comes due by the tick, so whether `fire_timers` fires any
unfoldable pub timer_due : ℕ → List Slot → Bool
timer_due tick [] = false
timer_due tick (s ∷ ss) = due_by (due_of s.object) tick or timer_due tick ss

-- ---- `catch_up_timers`: a pulse that no thread waits on is lost; a timer loses its signal with it, an event does not
abbrev pub lost_object : KObject → KObject
lost_object (Free n) = Free n
lost_object (Thread u) = Thread u
lost_object (Event e) = Event e
lost_object (Mutex m) = Mutex m
lost_object (Semaphore s) = Semaphore s
lost_object (Timer t) = Timer (record { reset_type = t.reset_type; signaled = false; fire_at = t.fire_at; interval = t.interval })
lost_object (AddressArbiter a) = AddressArbiter a
lost_object Process = Process
lost_object ResourceLimit = ResourceLimit

abbrev pub lost_slot : Bool → Slot → Slot
lost_slot waited s = pick (s.pulsed and not waited) (record { object = lost_object s.object; refcount = s.refcount; pulsed = false }) s

-- the slots from object o on
unfoldable pub lost_slots : List th.Thread → ℕ → List Slot → List Slot
lost_slots ts o [] = []
lost_slots ts o (s ∷ ss) = lost_slot (waited_sync ts o) s ∷ lost_slots ts (suc o) ss

-- if none fired, the marks stay
unfoldable pub catch_up_timers : ObjectStore → List th.Thread → ℕ → ObjectStore
catch_up_timers s ts tick =
    let f : ObjectStore = fire_timers s tick in
    pick (timer_due tick s.slots) (with_slots f (lost_slots ts 1 f.slots)) s
