-- The calls on timers of svc.rs. Each of the three that name a timer first fires what came due.
use Rattle.std.specs.Prelude.{false, ℕ, Some, None}
use Rattle.laws.specs.Logic.{pick}
use Rattle.units.specs.Ticks.{nanos_to_ticks}
use Rattle.types.specs.declared.sync.Timer as ti
use Rattle.types.specs.declared.object.KObject.{KObject}
use Rattle.types.specs.declared.object.KObject.TheVariants.{Free, Thread, Event, Mutex, Semaphore, Timer, AddressArbiter, Process, ResourceLimit}
use Rattle.types.specs.declared.kernel.Kernel.{Kernel}
use Rattle.types.specs.Sync.{reset_from_raw}
use Rattle.sound.specs.View.{object_at}
use Rattle.object.specs.declared.kept.Resolved.{Resolved}
use Rattle.object.specs.Slots.{content}
use Rattle.pass.specs.Timers.{catch_up_timers, lost_object, saturating_add}
use Rattle.svc.specs.declared.Registers.{Registers}
use Rattle.svc.specs.declared.Served.{Served}
use Rattle.svc.specs.Call.{done, answers, invalid_handle, with_objects, pair, negative, resolved, create_object}

-- ---- `create_timer`: r1 reset type; it is stopped
unfoldable pub create_timer : Kernel → Registers → Served
create_timer k r = create_object k
    (Timer (record { reset_type = reset_from_raw r.r1; signaled = false; fire_at = None; interval = record { 0 = 0 } }))

-- timers that came due by the tick have fired
abbrev pub caught_up : Kernel → ℕ → Kernel
caught_up k tick = with_objects k (catch_up_timers k.objects k.threads tick)

-- ---- `set_timer`: r0 handle, r2 and r3 nanoseconds until it fires, r1 and r4 its period; below 0 counts as 0
abbrev pub not_below : ℕ → ℕ
not_below n = pick (negative n) 0 n

abbrev pub set_to : ti.Timer → ℕ → ℕ → ℕ → ti.Timer
set_to t initial interval tick = record {
  reset_type = t.reset_type;
  signaled = false;
  fire_at = Some (record { 0 = saturating_add tick (nanos_to_ticks (record { 0 = initial })).0 });
  interval = nanos_to_ticks (record { 0 = interval });
}

abbrev pub set_timer_as : KObject → Kernel → ℕ → ℕ → ℕ → ℕ → Served
set_timer_as (Free n) k o a b tick = answers invalid_handle k
set_timer_as (Thread t) k o a b tick = answers invalid_handle k
set_timer_as (Event e) k o a b tick = answers invalid_handle k
set_timer_as (Mutex m) k o a b tick = answers invalid_handle k
set_timer_as (Semaphore s) k o a b tick = answers invalid_handle k
set_timer_as (Timer t) k o a b tick = done (with_objects k (content k.objects o (Timer (set_to t a b tick))))
set_timer_as (AddressArbiter x) k o a b tick = answers invalid_handle k
set_timer_as Process k o a b tick = answers invalid_handle k
set_timer_as ResourceLimit k o a b tick = answers invalid_handle k

unfoldable pub set_timer : Kernel → Registers → ℕ → Served
set_timer k r tick =
    let c : Kernel = caught_up k tick in
    let x : Resolved = resolved c r.r0 in
    set_timer_as (object_at x.store x.object.0) (with_objects c x.store) x.object.0 (not_below (pair r.r2 r.r3)) (not_below (pair r.r1 r.r4)) tick

-- ---- `cancel_timer` and `clear_timer`: r0 handle; always done, whatever the handle names
abbrev pub cancelled : KObject → KObject
cancelled (Free n) = Free n
cancelled (Thread t) = Thread t
cancelled (Event e) = Event e
cancelled (Mutex m) = Mutex m
cancelled (Semaphore s) = Semaphore s
cancelled (Timer t) = Timer
    (record { reset_type = t.reset_type; signaled = t.signaled; fire_at = None; interval = t.interval })
cancelled (AddressArbiter a) = AddressArbiter a
cancelled Process = Process
cancelled ResourceLimit = ResourceLimit

unfoldable pub cancel_timer : Kernel → Registers → ℕ → Served
cancel_timer k r tick =
    let c : Kernel = caught_up k tick in
    let x : Resolved = resolved c r.r0 in
    done (with_objects c (content x.store x.object.0 (cancelled (object_at x.store x.object.0))))

-- the signal goes, as that of a lost pulse does
unfoldable pub clear_timer : Kernel → Registers → ℕ → Served
clear_timer k r tick =
    let c : Kernel = caught_up k tick in
    let x : Resolved = resolved c r.r0 in
    done (with_objects c (content x.store x.object.0 (lost_object (object_at x.store x.object.0))))
