-- `wait_synchronization1` and `wait_synchronization_n` of svc.rs. Each first fires what came due.
use Rattle.units.specs.declared.Ticks.{Ticks}
use Rattle.std.specs.Prelude.{Bool, false, not, List, [], ◌∷◌, ℕ, eqb, get_or, length, set, Option, Some, None}
use Rattle.laws.specs.Logic.{pick}
use Rattle.units.specs.Ticks.{nanos_to_ticks}
use Rattle.types.specs.declared.thread.WaitSyscall.{WaitSyscall}
use Rattle.types.specs.declared.thread.WaitSyscall.TheVariants.{WaitSynchronization1, WaitSynchronizationN}
use Rattle.types.specs.declared.object.HandleTable.{HandleTable}
use Rattle.types.specs.declared.object.ObjectStore.{ObjectStore}
use Rattle.types.specs.declared.kernel.Kernel.{Kernel}
use Rattle.types.specs.Thread.{wait_list}
use Rattle.sound.specs.View.{object_at, thread_at}
use Rattle.object.specs.declared.kept.Resolved.{Resolved}
use Rattle.object.specs.Kept.{resolve}
use Rattle.thread.specs.Thread.{with_result}
use Rattle.thread.specs.Threads.{with_threads}
use Rattle.kernel.specs.NextEvent.{contains}
use Rattle.pass.specs.Signal.{is_signaled, acquire, acquires}
use Rattle.pass.specs.Waits.{satisfied_at, begin_wait}
use Rattle.pass.specs.Asks.{padded}
use Rattle.svc.specs.declared.Registers.{Registers}
use Rattle.svc.specs.declared.Served.{Served}
use Rattle.svc.specs.Call.{done, gives, answers, silent, invalid_handle, timeout, with_objects, pair, negative, resolved}
use Rattle.svc.specs.Timers.{caught_up}

-- the time of a wait; a negative one waits for good
abbrev pub wait_time : ℕ → Option Ticks
wait_time nanos = pick (negative nanos) None (Some (nanos_to_ticks (record { 0 = nanos })))

-- the thread waits on the objects os, and the call is noted for its result; no register is written until then
abbrev pub wait_on : Kernel → ℕ → List ℕ → Bool → ℕ → ℕ → Option WaitSyscall → Served
wait_on k c os all nanos tick call =
    let b : Kernel = begin_wait k (padded wait_list os) (length os) all (wait_time nanos) tick in
    silent (with_threads b (set b.threads c (with_result (thread_at b.threads c) (thread_at b.threads c).wait_result call)) b.objects)

-- a time-out of 0 does not wait
abbrev pub wait_unless : Kernel → ℕ → List ℕ → Bool → ℕ → ℕ → Option WaitSyscall → Served
wait_unless k c os all nanos tick call = pick (eqb nanos 0) (answers timeout k) (wait_on k c os all nanos tick call)

-- ---- `wait_synchronization1`: r0 handle, r2 and r3 nanoseconds
abbrev pub wait1_as : Option ℕ → Kernel → ℕ → ℕ → ℕ → Served
wait1_as None k o nanos tick = done k
wait1_as (Some c) k o nanos tick =
    pick (is_signaled k.threads (object_at k.objects o) c)
    (done (with_objects k (acquire k.objects o c)))
    (wait_unless k c (o ∷ []) false nanos tick (Some WaitSynchronization1))

unfoldable pub wait_synchronization1 : Kernel → Registers → ℕ → Served
wait_synchronization1 k r tick =
    let c : Kernel = caught_up k tick in
    let x : Resolved = resolved c r.r0 in
    pick (eqb x.object.0 0)
    (answers invalid_handle (with_objects c x.store))
    (wait1_as c.current_thread (with_objects c x.store) x.object.0 (pair r.r2 r.r3) tick)

-- ---- `wait_synchronization_n`: r1 the address of the handles, r2 how many, r3 whether for all, r0 and r4 nanoseconds
-- the handles' objects, in order, 0 for one that is unknown; those of pseudo-handles are made on the way
unfoldable pub resolve_all : Option ℕ → HandleTable → ObjectStore → List ℕ → List ℕ
resolve_all c t s [] = []
resolve_all c t s (h ∷ hs) = let x : Resolved = resolve c t s h in x.object.0 ∷ resolve_all c t x.store hs

-- the store afterwards: at the first unknown handle the call ends
unfoldable pub resolve_store : Option ℕ → HandleTable → ObjectStore → List ℕ → ObjectStore
resolve_store c t s [] = s
resolve_store c t s (h ∷ hs) = let x : Resolved = resolve c t s h in pick (eqb x.object.0 0) x.store (resolve_store c t x.store hs)

-- a wait for all takes every object, one for any the one at the index; r1 gets the index
abbrev pub take_at : Option ℕ → Kernel → ℕ → List ℕ → Bool → ℕ → ℕ → Served
take_at None k c os all nanos tick = wait_unless k c os all nanos tick (Some WaitSynchronizationN)
take_at (Some i) k c os all nanos tick =
    gives (with_objects k (pick all (acquires k.objects os c) (acquire k.objects (get_or os i 0) c))) i

abbrev pub wait_nas : Option ℕ → Kernel → List ℕ → Bool → ℕ → ℕ → Served
wait_nas None k os all nanos tick = done k
wait_nas (Some c) k os all nanos tick = take_at (satisfied_at k.threads k.objects c all os) k c os all nanos tick

-- hs are the words at the address
unfoldable pub wait_synchronization_n : Kernel → Registers → List ℕ → ℕ → Served
wait_synchronization_n k r hs tick =
    let c : Kernel = caught_up k tick in
    let os : List ℕ = resolve_all c.current_thread c.handles c.objects hs in
    let s : ObjectStore = resolve_store c.current_thread c.handles c.objects hs in
    pick (contains os 0)
    (answers invalid_handle (with_objects c s))
    (wait_nas c.current_thread (with_objects c s) os (not (eqb r.r3 0)) (pair r.r0 r.r4) tick)
