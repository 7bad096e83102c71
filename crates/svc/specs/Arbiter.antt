-- `create_address_arbiter` and `arbitrate_address` of svc.rs.
use Rattle.units.specs.declared.Ticks.{Ticks}
use Rattle.std.specs.Prelude.{Bool, true, false, not, List, [], ◌∷◌, ◌++◌, ℕ, suc, eqb, ltb, length, set, Option, Some}
use Rattle.std.specs.Prelude.{None}
use Rattle.laws.specs.Logic.{pick, ◌and◌, ◌or◌}
use Rattle.units.specs.Ticks.{nanos_to_ticks}
use Rattle.types.specs.declared.thread.ThreadStatus.{ThreadStatus}
use Rattle.types.specs.declared.thread.ThreadStatus.TheVariants.{Dead, Running, Ready, Sleeping, WaitSync, WaitArbiter, Dormant}
use Rattle.types.specs.declared.thread.WaitResult.TheVariants.{Signaled}
use Rattle.types.specs.declared.thread.WaitSyscall.TheVariants.{ArbitrateAddress}
use Rattle.types.specs.declared.thread.Thread.{Thread}
use Rattle.types.specs.declared.sync.ArbitrationType.{ArbitrationType}
use Rattle.types.specs.declared.sync.ArbitrationType.TheVariants.{Signal, WaitIfLessThan, DecrementAndWaitIfLessThan, WaitIfLessThanWithTimeout, DecrementAndWaitIfLessThanWithTimeout}
use Rattle.types.specs.declared.object.KObject.TheVariants.{AddressArbiter}
use Rattle.types.specs.declared.object.Waiter.{Waiter}
use Rattle.types.specs.declared.object.ObjectStore.{ObjectStore}
use Rattle.types.specs.declared.kernel.Kernel.{Kernel}
use Rattle.types.specs.Sync.{arbitration_from_raw}
use Rattle.sound.specs.View.{thread_at}
use Rattle.sound.specs.Records.{chain_of}
use Rattle.object.specs.declared.kept.Resolved.{Resolved}
use Rattle.object.specs.declared.waiters.Links.{Links}
use Rattle.object.specs.Waiters.{waiter_at, link, relinked, push}
use Rattle.thread.specs.Thread.{clear_wait, with_status, with_result}
use Rattle.thread.specs.Threads.{with_threads}
use Rattle.kernel.specs.NextEvent.{contains}
use Rattle.pass.specs.Signal.{one_less}
use Rattle.pass.specs.Waits.{wake_tick}
use Rattle.svc.specs.declared.Registers.{Registers}
use Rattle.svc.specs.declared.Served.{Served}
use Rattle.svc.specs.Call.{done, answers, invalid_handle, invalid_enum_value, with_objects, with_over, pair, negative, resolved, create_object}
use Rattle.svc.specs.Sync.{biased}

unfoldable pub create_address_arbiter : Kernel → Served
create_address_arbiter k = create_object k (AddressArbiter (record { waiters = 0 }))

-- ---- kind 0: threads parked at the address wake, in the order of their records, at most as many as the value; below 0 all
abbrev pub is_at : Option ℕ → ℕ → Bool
is_at None a = false
is_at (Some b) a = eqb b a

abbrev pub waits_arbiter : ThreadStatus → Bool
waits_arbiter Dead = false
waits_arbiter Running = false
waits_arbiter Ready = false
waits_arbiter Sleeping = false
waits_arbiter WaitSync = false
waits_arbiter WaitArbiter = true
waits_arbiter Dormant = false

-- the thread is parked at the address, through whichever arbiter; one that is not left its record behind
abbrev pub parked_at : Thread → ℕ → Bool
parked_at t a = waits_arbiter t.status and is_at t.wait_address a

-- the threads woken so far are fewer than the value
abbrev pub more_to_wake : ℕ → List ℕ → Bool
more_to_wake value woken = not (ltb value 2147483648) or ltb (length woken) value

-- whether the record x wakes its thread, after the threads woken so far
abbrev pub wakes_at : List Thread → List Waiter → ℕ → ℕ → List ℕ → ℕ → Bool
wakes_at ts ws a value woken x =
    let w : Waiter = waiter_at ws x in
    eqb w.address a and ((parked_at (thread_at ts w.thread) a and not (contains woken w.thread)) and more_to_wake value woken)

-- whether it stays: it is for another address, or its thread is parked there and enough are woken
abbrev pub stays_at : List Thread → List Waiter → ℕ → ℕ → List ℕ → ℕ → Bool
stays_at ts ws a value woken x =
    let w : Waiter = waiter_at ws x in
    not (eqb w.address a) or ((parked_at (thread_at ts w.thread) a and not (contains woken w.thread)) and not (more_to_wake value woken))

-- the threads woken after the record x
abbrev pub woken_by : List Thread → List Waiter → ℕ → ℕ → List ℕ → ℕ → List ℕ
woken_by ts ws a value woken x = pick (wakes_at ts ws a value woken x) (woken ++ ((waiter_at ws x).thread ∷ [])) woken

-- the threads that the records of a chain wake, after those woken so far
unfoldable pub to_wake : List Thread → List Waiter → ℕ → ℕ → List ℕ → List ℕ → List ℕ
to_wake ts ws a value woken [] = woken
to_wake ts ws a value woken (x ∷ xs) = to_wake ts ws a value (woken_by ts ws a value woken x) xs

-- the Rust's `retain`: each record in turn stays or is free again
unfoldable pub unlink_woken : List Thread → List Waiter → ℕ → ℕ → List ℕ → ℕ → List ℕ → Links
unlink_woken ts ws a value woken free [] = record { waiters = ws; free = free; head = 0 }
unlink_woken ts ws a value woken free (x ∷ xs) = link (stays_at ts ws a value woken x) x (unlink_woken ts ws a value (woken_by ts ws a value woken x) free xs)

-- its wait is over, with the index 0
abbrev pub woken_up : Thread → Thread
woken_up t = with_status (with_result (clear_wait t) (Some (Signaled 0)) t.wait_syscall) Ready

-- the threads from number i on, those of the list woken; a thread is in the list once
unfoldable pub wake_all : List ℕ → ℕ → List Thread → List Thread
wake_all woken i [] = []
wake_all woken i (t ∷ ts) = pick (contains woken i) (woken_up t) t ∷ wake_all woken (suc i) ts

-- the threads that a signal at the address a wakes through the arbiter o; another kind of object has no records and wakes nobody
abbrev pub woken_at : List Thread → ObjectStore → ℕ → ℕ → ℕ → List ℕ
woken_at ts s o a value = to_wake ts s.waiters a value [] (chain_of s o)

abbrev pub signal_address : Kernel → ℕ → ℕ → ℕ → Kernel
signal_address k o a value =
    let s : ObjectStore = k.objects in
    with_threads k (wake_all (woken_at k.threads s o a value) 0 k.threads)
    (relinked s o (unlink_woken k.threads s.waiters a value [] s.free_waiter (chain_of s o)))

-- ---- kinds 1 to 4: the current thread parks if the word at the address is less than the value, both signed
abbrev pub decrements : ArbitrationType → Bool
decrements Signal = false
decrements WaitIfLessThan = false
decrements DecrementAndWaitIfLessThan = true
decrements WaitIfLessThanWithTimeout = false
decrements DecrementAndWaitIfLessThanWithTimeout = true

abbrev pub has_timeout : ArbitrationType → Bool
has_timeout Signal = false
has_timeout WaitIfLessThan = false
has_timeout DecrementAndWaitIfLessThan = false
has_timeout WaitIfLessThanWithTimeout = true
has_timeout DecrementAndWaitIfLessThanWithTimeout = true

-- a time-out of 0 counts, a negative one waits for good
abbrev pub park_time : ArbitrationType → ℕ → Option Ticks
park_time kind nanos = pick (has_timeout kind and not (negative nanos)) (Some (nanos_to_ticks (record { 0 = nanos })))
    None

-- an older wait's result stays
abbrev pub parked : Thread → ℕ → Option Ticks → Thread
parked t a wake = record {
  status = WaitArbiter;
  priority = t.priority;
  entry = t.entry;
  stack_top = t.stack_top;
  tls = t.tls;
  processor_id = t.processor_id;
  wait_objects = (clear_wait t).wait_objects;
  wait_count = 0;
  wait_all = false;
  wakeup_at = wake;
  running_since = t.running_since;
  waited = t.waited;
  wait_address = Some a;
  wait_result = t.wait_result;
  wait_syscall = (Some ArbitrateAddress);
  guest_id = t.guest_id;
}

-- a record at the end of the arbiter's chain; with an object of another kind it parks without one
abbrev pub park_as : Option ℕ → Kernel → ℕ → ℕ → Option Ticks → ℕ → Kernel
park_as None k o a time tick = k
park_as (Some c) k o a time tick =
    with_threads k (set k.threads c (parked (thread_at k.threads c) a (wake_tick time tick))) (push k.objects o c a)

abbrev pub park : Kernel → ℕ → ℕ → Option Ticks → ℕ → Kernel
park k o a time tick = park_as k.current_thread k o a time tick

-- the word is written before the thread parks; question 8 if one less does not fit
abbrev pub wait_below : ArbitrationType → Kernel → ℕ → ℕ → ℕ → ℕ → ℕ → ℕ → Served
wait_below kind k o a value word nanos tick =
    pick (ltb (biased word) (biased value))
    (record {
      kernel = with_over (park k o a (park_time kind nanos) tick) (k.overflow or (decrements kind and eqb word 2147483648));
      answer = 0;
      r0 = Some 0;
      r1 = None;
      word = pick (decrements kind) (Some (one_less word)) None;
    })
    (done k)

abbrev pub arbitrate_as : ArbitrationType → Kernel → ℕ → ℕ → ℕ → ℕ → ℕ → ℕ → Served
arbitrate_as Signal k o a value word nanos tick = done (signal_address k o a value)
arbitrate_as WaitIfLessThan k o a value word nanos tick = wait_below WaitIfLessThan k o a value word nanos tick
arbitrate_as DecrementAndWaitIfLessThan k o a value word nanos tick = wait_below DecrementAndWaitIfLessThan k o a value word nanos tick
arbitrate_as WaitIfLessThanWithTimeout k o a value word nanos tick = wait_below WaitIfLessThanWithTimeout k o a value word nanos tick
arbitrate_as DecrementAndWaitIfLessThanWithTimeout k o a value word nanos tick = wait_below DecrementAndWaitIfLessThanWithTimeout k o a value word nanos tick

-- ---- `arbitrate_address`: r0 handle, r1 address, r2 kind, r3 value, r4 and r5 nanoseconds; the word is that at the address, for kinds 1 to 4
abbrev pub arbitrate_for : ArbitrationType → Kernel → Resolved → Registers → ℕ → ℕ → Served
arbitrate_for kind k x r word tick =
    pick (eqb x.object.0 0)
    (answers invalid_handle (with_objects k x.store))
    (arbitrate_as kind (with_objects k x.store) x.object.0 r.r1 r.r3 word (pair r.r4 r.r5) tick)

-- an unknown kind comes before everything else, and makes no object
abbrev pub arbitrate_by : Option ArbitrationType → Kernel → Registers → ℕ → ℕ → Served
arbitrate_by None k r word tick = answers invalid_enum_value k
arbitrate_by (Some kind) k r word tick = arbitrate_for kind k (resolved k r.r0) r word tick

unfoldable pub arbitrate_address : Kernel → Registers → ℕ → ℕ → Served
arbitrate_address k r word tick = arbitrate_by (arbitration_from_raw r.r2) k r word tick
