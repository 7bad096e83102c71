-- `try_satisfy_wait`, `begin_wait` and `sleep_current` of mod.rs.
use Rattle.units.specs.declared.Ticks.{Ticks}
use Rattle.std.specs.Prelude.{Bool, true, false, List, [], ◌∷◌, ℕ, zero, suc, ◌+◌, set, take, get_or, Option, Some}
use Rattle.std.specs.Prelude.{None}
use Rattle.laws.specs.Logic.{pick, ◌and◌}
use Rattle.types.specs.declared.thread.ThreadStatus.{ThreadStatus}
use Rattle.types.specs.declared.thread.ThreadStatus.TheVariants.{Dead, Running, Ready, Sleeping, WaitSync, WaitArbiter, Dormant}
use Rattle.types.specs.declared.thread.WaitResult.{WaitResult}
use Rattle.types.specs.declared.thread.WaitResult.TheVariants.{Signaled}
use Rattle.types.specs.declared.thread.WaitResult.TheVariants as result
use Rattle.types.specs.declared.thread.Thread.{Thread}
use Rattle.types.specs.declared.object.ObjectStore.{ObjectStore}
use Rattle.types.specs.declared.kernel.Kernel.{Kernel}
use Rattle.units.specs.declared.ObjectId.{ObjectId}
use Rattle.sound.specs.View.{ids, object_at, thread_at}
use Rattle.object.specs.Store.{add_refs}
use Rattle.thread.specs.Thread.{clear_wait, with_status, with_result}
use Rattle.thread.specs.Threads.{with_threads, release_waits}
use Rattle.pass.specs.declared.Fate.{Fate}
use Rattle.pass.specs.declared.Fate.TheVariants.{Stays, Given, TimedOut, Slept}
use Rattle.pass.specs.declared.Waits.{Waits}
use Rattle.pass.specs.Signal.{is_signaled, acquires}
use Rattle.pass.specs.Timers.{due_by, saturating_add}

-- ---- which of a list's objects satisfies a wait
-- every one
unfoldable pub all_signaled : List Thread → ObjectStore → ℕ → List ℕ → Bool
all_signaled ts s w [] = true
all_signaled ts s w (o ∷ os) = is_signaled ts (object_at s o) w and all_signaled ts s w os

-- the first one, counted from i
unfoldable pub first_signaled : List Thread → ObjectStore → ℕ → ℕ → List ℕ → Option ℕ
first_signaled ts s w i [] = None
first_signaled ts s w i (o ∷ os) = pick (is_signaled ts (object_at s o) w) (Some i) (first_signaled ts s w (i + 1) os)

-- a wait for all gives index 0; of no objects it is satisfied, and a wait for any is not
abbrev pub satisfied_at : List Thread → ObjectStore → ℕ → Bool → List ℕ → Option ℕ
satisfied_at ts s w true os = pick (all_signaled ts s w os) (Some 0) None
satisfied_at ts s w false os = first_signaled ts s w 0 os

-- ---- `try_satisfy_wait`: satisfaction before time-out
-- what a thread waits on
abbrev pub waited_objects : Thread → List ℕ
waited_objects t = take t.wait_count (ids t.wait_objects)

abbrev pub fate_of : Option ℕ → Bool → Fate
fate_of (Some i) late = Given i
fate_of None late = pick late TimedOut Stays

-- a sleep takes no result; a wait at an address is given by another thread, so only its time is looked at here
abbrev pub fate_as : ThreadStatus → Option ℕ → Bool → Fate
fate_as Dead found late = Stays
fate_as Running found late = Stays
fate_as Ready found late = Stays
fate_as Sleeping found late = pick late Slept Stays
fate_as WaitSync found late = fate_of found late
fate_as WaitArbiter found late = pick late TimedOut Stays
fate_as Dormant found late = Stays

unfoldable pub fate : List Thread → ObjectStore → ℕ → ℕ → Fate
fate ts s tick w =
    let t : Thread = thread_at ts w in
    fate_as t.status (satisfied_at ts s w t.wait_all (waited_objects t)) (due_by t.wakeup_at tick)

-- a wait for all takes every object, one for any the one at the index
abbrev pub taken : Thread → ℕ → List ℕ
taken t i = pick t.wait_all (waited_objects t) (get_or (ids t.wait_objects) i 0 ∷ [])

-- the wait is over: the list's objects are let go and the thread is Ready, with the result r
abbrev pub awake : Waits → ℕ → Option WaitResult → Waits
awake w t r = record {
  objects = release_waits w.objects w.threads t;
  threads = set w.threads t (with_status (with_result (clear_wait (thread_at w.threads t)) r (thread_at w.threads t).wait_syscall) Ready);
}

abbrev pub try_as : Fate → Waits → ℕ → Waits
try_as Stays w t = w
try_as (Given i) w t = awake
    (record { objects = acquires w.objects (taken (thread_at w.threads t) i) t; threads = w.threads }) t
    (Some (Signaled i))
try_as TimedOut w t = awake w t (Some result.TimedOut)
try_as Slept w t = awake w t (thread_at w.threads t).wait_result

unfoldable pub try_wait : ℕ → Waits → ℕ → Waits
try_wait tick w t = try_as (fate w.threads w.objects tick t) w t

-- n threads from t on, by number
unfoldable pub try_waits : ℕ → ℕ → ℕ → Waits → Waits
try_waits tick zero t w = w
try_waits tick (suc n) t w = try_waits tick n (suc t) (try_wait tick w t)

-- ---- `begin_wait`: the current thread waits on the first n of a list, which it holds while it waits
abbrev pub wake_tick : Option Ticks → ℕ → Option Ticks
wake_tick None tick = None
wake_tick (Some d) tick = Some (record { 0 = saturating_add tick d.0 })

abbrev pub waiting : Thread → List ObjectId → ℕ → Bool → Option Ticks → Thread
waiting t l n all wake = record {
  status = WaitSync;
  priority = t.priority;
  entry = t.entry;
  stack_top = t.stack_top;
  tls = t.tls;
  processor_id = t.processor_id;
  wait_objects = l;
  wait_count = n;
  wait_all = all;
  wakeup_at = wake;
  running_since = t.running_since;
  waited = t.waited;
  wait_address = t.wait_address;
  wait_result = None;
  wait_syscall = t.wait_syscall;
  guest_id = t.guest_id;
}

abbrev pub begin_wait_as : Option ℕ → Kernel → List ObjectId → ℕ → Bool → Option Ticks → ℕ → Kernel
begin_wait_as None k l n all timeout tick = k
begin_wait_as (Some c) k l n all timeout tick =
    with_threads k (set k.threads c (waiting (thread_at k.threads c) l n all (wake_tick timeout tick))) (add_refs k.objects (take n (ids l)))

unfoldable pub begin_wait : Kernel → List ObjectId → ℕ → Bool → Option Ticks → ℕ → Kernel
begin_wait k l n all timeout tick = begin_wait_as k.current_thread k l n all timeout tick

-- ---- `sleep_current`: result and call kind of an older wait stay
abbrev pub sleeping : Thread → ℕ → Thread
sleeping t wake = record {
  status = Sleeping;
  priority = t.priority;
  entry = t.entry;
  stack_top = t.stack_top;
  tls = t.tls;
  processor_id = t.processor_id;
  wait_objects = (clear_wait t).wait_objects;
  wait_count = 0;
  wait_all = false;
  wakeup_at = Some (record { 0 = wake });
  running_since = t.running_since;
  waited = t.waited;
  wait_address = (clear_wait t).wait_address;
  wait_result = t.wait_result;
  wait_syscall = t.wait_syscall;
  guest_id = t.guest_id;
}

abbrev pub sleep_as : Option ℕ → Kernel → ℕ → ℕ → Kernel
sleep_as None k ticks tick = k
sleep_as (Some c) k ticks tick = with_threads k
    (set k.threads c (sleeping (thread_at k.threads c) (saturating_add tick ticks))) k.objects

unfoldable pub sleep_current : Kernel → ℕ → ℕ → Kernel
sleep_current k ticks tick = sleep_as k.current_thread k ticks tick
