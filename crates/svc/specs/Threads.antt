-- The calls on threads: `create_thread`, `exit_thread`, `sleep_thread`, `set_thread_priority` of svc.rs.
use Rattle.units.specs.declared.Ticks.{Ticks}
use Rattle.std.specs.Prelude.{ℕ, eqb, set, Option, Some, None}
use Rattle.laws.specs.Logic.{pick}
use Rattle.units.specs.Ticks.{nanos_to_ticks}
use Rattle.types.specs.declared.object.KObject.{KObject}
use Rattle.types.specs.declared.object.KObject.TheVariants.{Free, Thread, Event, Mutex, Semaphore, Timer, AddressArbiter, Process, ResourceLimit}
use Rattle.types.specs.declared.object.ObjectStore.{ObjectStore}
use Rattle.types.specs.declared.kernel.Kernel.{Kernel}
use Rattle.sound.specs.View.{object_at, thread_at}
use Rattle.sound.specs.Objects.{kept_at}
use Rattle.object.specs.declared.handles.Both.{Both}
use Rattle.object.specs.Handles as table
use Rattle.object.specs.Kept.{thread_object}
use Rattle.thread.specs.Threads as thread
use Rattle.kernel.specs.NextEvent.{next_event}
use Rattle.pass.specs.Timers.{due_by}
use Rattle.pass.specs.Waits.{sleep_current}
use Rattle.pass.specs.Pick.{others_ready}
use Rattle.pass.specs.Schedule.{with_run}
use Rattle.svc.specs.declared.Registers.{Registers}
use Rattle.svc.specs.declared.Served.{Served}
use Rattle.svc.specs.Call.{done, gives, answers, silent, invalid_handle, with_handles, pair}

-- ---- `create_thread`: r0 priority, r1 entry, r2 argument, r3 stack top, r4 processor; r1 gets a handle to it
-- a handle to the object of thread id (`thread_handle` of mod.rs)
abbrev pub thread_handle : Kernel → ℕ → Served
thread_handle k id =
    let s : ObjectStore = thread_object k.objects id in
    let b : Both = table.create k.handles s (kept_at s id) in
    gives (with_handles k b.table b.store) k.handles.next.0

unfoldable pub create_thread : Kernel → Registers → Served
create_thread k r = thread_handle (thread.create_thread k r.r1 r.r3 r.r0 r.r4) (thread.ended_thread k)

-- ---- `exit_thread`: the current thread ends, and no register is written
abbrev pub exit_as : Option ℕ → Kernel → Served
exit_as None k = silent k
exit_as (Some c) k = silent (thread.end_thread k c)

unfoldable pub exit_thread : Kernel → Served
exit_thread k = exit_as k.current_thread k

-- ---- `sleep_thread`: r0 and r1 nanoseconds, without a sign
-- how long a yield steps aside for others, whatever their priority
abbrev pub yield_ticks : ℕ
yield_ticks = 20000

-- how long the thread sleeps; a yield of 0 nanoseconds that nobody could use, and at which nothing is due, keeps the core
abbrev pub sleep_ticks : Kernel → ℕ → ℕ → Option Ticks
sleep_ticks k nanos tick =
    pick (eqb nanos 0)
    (pick (others_ready k) (Some (record { 0 = yield_ticks }))
    (pick (due_by (next_event k) tick) (Some (record { 0 = 0 })) None))
    (Some (nanos_to_ticks (record { 0 = nanos })))

-- the current thread counts as running since the tick
abbrev pub runs_since : Option ℕ → Kernel → ℕ → Kernel
runs_since None k tick = k
runs_since (Some c) k tick = thread.with_threads k
    (set k.threads c (with_run (thread_at k.threads c) (thread_at k.threads c).waited tick)) k.objects

abbrev pub sleep_for : Option Ticks → Kernel → ℕ → Kernel
sleep_for None k tick = runs_since k.current_thread k tick
sleep_for (Some d) k tick = sleep_current k d.0 tick

unfoldable pub sleep_thread : Kernel → Registers → ℕ → Served
sleep_thread k r tick = done (sleep_for (sleep_ticks k (pair r.r0 r.r1) tick) k tick)

-- ---- `set_thread_priority`: r0 handle, r1 priority
abbrev pub thread_named : KObject → Option ℕ
thread_named (Free n) = None
thread_named (Thread t) = Some t
thread_named (Event e) = None
thread_named (Mutex m) = None
thread_named (Semaphore s) = None
thread_named (Timer t) = None
thread_named (AddressArbiter a) = None
thread_named Process = None
thread_named ResourceLimit = None

-- `resolve_thread`: the pseudo-handle of the process names no thread, and no object is made
abbrev pub resolve_thread : Kernel → ℕ → Option ℕ
resolve_thread k h = pick (eqb h 0xFFFF8000) k.current_thread (thread_named (object_at k.objects (table.object_of k.handles h)))

abbrev pub set_priority_as : Option ℕ → Kernel → ℕ → Served
set_priority_as None k p = answers invalid_handle k
set_priority_as (Some t) k p = done (thread.set_priority k t p)

unfoldable pub set_thread_priority : Kernel → Registers → Served
set_thread_priority k r = set_priority_as (resolve_thread k r.r0) k r.r1
