-- A wait's list as it is kept: the objects in the places of the list, and a count.
use Rattle.std.specs.Prelude.{Bool, not, List, ℕ, eqb, set, take, get_or, Option, Some, None}
use Rattle.laws.specs.Logic.{pick}
use Rattle.units.specs.declared.ObjectId.{ObjectId}
use Rattle.types.specs.declared.thread.WaitSyscall.{WaitSyscall}
use Rattle.types.specs.declared.thread.WaitSyscall.TheVariants.{WaitSynchronizationN}
use Rattle.types.specs.declared.kernel.Kernel.{Kernel}
use Rattle.sound.specs.View.{ids, thread_at}
use Rattle.thread.specs.Thread.{with_result}
use Rattle.thread.specs.Threads.{with_threads}
use Rattle.pass.specs.Signal.{acquire, acquires}
use Rattle.pass.specs.Waits.{satisfied_at, begin_wait}
use Rattle.svc.specs.declared.Registers.{Registers}
use Rattle.svc.specs.declared.Served.{Served}
use Rattle.svc.specs.Call.{done, gives, answers, silent, invalid_handle, timeout, with_objects, pair}
use Rattle.svc.specs.Waits.{wait_time}
use Rattle.wait_calls.specs.declared.begin_wait.WaitFor.{WaitFor}

abbrev pub wait_on_in : Kernel → ℕ → List ObjectId → ℕ → Bool → ℕ → ℕ → Option WaitSyscall → Served
wait_on_in k c l n all nanos tick call =
    let b : Kernel = begin_wait k l n all (wait_time nanos) tick in
    silent (with_threads b (set b.threads c (with_result (thread_at b.threads c) (thread_at b.threads c).wait_result call)) b.objects)

abbrev pub wait_unless_in : Kernel → ℕ → List ObjectId → ℕ → Bool → ℕ → ℕ → Option WaitSyscall → Served
wait_unless_in k c l n all nanos tick call = pick (eqb nanos 0) (answers timeout k) (wait_on_in k c l n all nanos tick call)

-- every object of the wait taken; r1 gets i
abbrev pub all_taken : Kernel → WaitFor → ℕ → Served
all_taken k w i = gives (with_objects k (acquires k.objects (take w.count (ids w.list)) w.thread)) i

-- a wait for all takes every object, one for any the one at the index
abbrev pub taken_at : Kernel → WaitFor → ℕ → Served
taken_at k w i = gives (with_objects k
    (pick w.all (acquires k.objects (take w.count (ids w.list)) w.thread)
    (acquire k.objects (get_or (take w.count (ids w.list)) i 0) w.thread))) i

abbrev pub take_in : Option ℕ → Kernel → ℕ → List ObjectId → ℕ → Bool → ℕ → ℕ → Served
take_in None k c l n all nanos tick = wait_unless_in k c l n all nanos tick (Some WaitSynchronizationN)
take_in (Some i) k c l n all nanos tick =
    gives (with_objects k (pick all (acquires k.objects (take n (ids l)) c) (acquire k.objects (get_or (take n (ids l)) i 0) c))) i

abbrev pub wait_as_in : Option ℕ → Kernel → List ObjectId → ℕ → Bool → ℕ → ℕ → Served
wait_as_in None k l n all nanos tick = done k
wait_as_in (Some c) k l n all nanos tick = take_in
    (satisfied_at k.threads k.objects c all (take n (ids l))) k c l n all nanos tick

-- `wait_synchronization_n` once the timers have fired and the handles are open: k is the state then, with the objects
-- if each names one
abbrev pub wait_in : Kernel → Option (List ObjectId) → ℕ → Registers → ℕ → Served
wait_in k None n r tick = answers invalid_handle k
wait_in k (Some l) n r tick = wait_as_in k.current_thread k l n (not (eqb r.r3 0)) (pair r.r0 r.r4) tick
