-- What a case asks, and what the definitions answer.
use Rattle.units.specs.declared.Ticks.{Ticks}
use Rattle.std.specs.Prelude.{Bool, true, false, List, [], ◌∷◌, ◌++◌, map, ℕ, set, Option, Some, None}
use Rattle.laws.specs.Logic.{pick}
use Rattle.laws.specs.Count.{one?}
use Rattle.units.specs.Ticks.{nanos_to_ticks}
use Rattle.types.specs.declared.thread.ThreadStatus.TheVariants.{Ready, Running}
use Rattle.types.specs.declared.thread.Thread as th
use Rattle.types.specs.declared.sync.ResetType.TheVariants.{OneShot}
use Rattle.types.specs.declared.object.KObject.{KObject}
use Rattle.types.specs.declared.object.KObject.TheVariants.{Free, Thread, Event, Mutex, Semaphore, Timer, AddressArbiter, Process, ResourceLimit}
use Rattle.types.specs.declared.object.ObjectStore.{ObjectStore}
use Rattle.types.specs.declared.kernel.Kernel.{Kernel}
use Rattle.sound.specs.View.{object_at, thread_at}
use Rattle.kernel.specs.NextEvent.{due_of}
use Rattle.thread.specs.Thread.{new_thread, with_status}
use Rattle.pass.specs.Timers.{fire_timers}
use Rattle.pass.specs.Pick.{pick_next}
use Rattle.pass.specs.Schedule.{starves}
use Rattle.svc.specs.declared.Registers.{Registers}
use Rattle.svc.specs.declared.Served.{Served}
use Rattle.svc.specs.Waits.{wait_synchronization_n}

pub data Ask : Type 0 where
  -- the ticks of so many nanoseconds
  ticks : (nanos : ℕ) → Ask
  -- when a timer that is due at a tick, with an interval, is due after timers were fired at another
  fired : (at interval tick : ℕ) → Ask
  -- whether a thread starves that has run for so many ticks
  lead : (span : ℕ) → Ask
  -- the first pick among threads with these priorities, all Ready but the current one, if that is Running
  picks : (priorities : List ℕ) (current : Option ℕ) (running : Bool) → Ask
  -- what 0x25 with a time-out answers thread 0, with a semaphore of a count as object 1 and the handle 0x10000 to it, and the count after
  waits : (count : ℕ) (all : Bool) (handles : List ℕ) (nanos : ℕ) → Ask

-- ---- answers as numbers: none of an option that is none
abbrev tick_answer : Option Ticks → List ℕ
tick_answer None = []
tick_answer (Some t) = t.0 ∷ []

abbrev thread_answer : Option ℕ → List ℕ
thread_answer None = []
thread_answer (Some t) = t ∷ []

abbrev word_answer : Option ℕ → List ℕ
word_answer None = []
word_answer (Some v) = v ∷ []

abbrev count_of : KObject → List ℕ
count_of (Free n) = []
count_of (Thread u) = []
count_of (Event e) = []
count_of (Mutex m) = []
count_of (Semaphore s) = s.count ∷ []
count_of (Timer t) = []
count_of (AddressArbiter a) = []
count_of Process = []
count_of ResourceLimit = []

-- ---- what is asked about
-- a store with one object
abbrev store_of : KObject → ObjectStore
store_of x = record {
  slots = record { object = x; refcount = 1; pulsed = false } ∷ [];
  free = 0;
  waiters = [];
  free_waiter = 0;
  thread_objects = [];
  process_object = record { 0 = 0 };
  full = false;
  overflow = false;
}

abbrev timer_due : ℕ → ℕ → KObject
timer_due at interval = Timer
    (record {
      reset_type = OneShot;
      signaled = false;
      fire_at = Some (record { 0 = at });
      interval = record { 0 = interval };
    })

-- running since tick 0
abbrev ready_thread : ℕ → th.Thread
ready_thread priority = new_thread 0 0 priority 0 0 0

abbrev row : List ℕ → Option ℕ → Bool → List th.Thread
row ps None running = map ready_thread ps
row ps (Some c) running = let ts : List th.Thread = map ready_thread ps
    in set ts c (with_status (thread_at ts c) (pick running Running Ready))

-- thread 0 runs, and the handle 0x10000 names a semaphore
abbrev state_of : ℕ → Kernel
state_of count = record {
  status_word = 0;
  objects = store_of (Semaphore (record { count = count; max_count = count }));
  handles = record { entries = (record { handle = record { 0 = 0x10000 }; object = record { 0 = 1 } }) ∷ []; count = 1; next = record { 0 = 0x10001 }; full = false; overflow = false };
  threads = row (0 ∷ []) (Some 0) true;
  thread_count = 1;
  current_thread = Some 0;
  next_tls_slot = 1;
  next_guest_id = 1;
  all_blocked = false;
  relief = false;
  full = false;
  overflow = false;
}

-- r3 is whether for all, r0 the low word of the time-out
abbrev registers_of : Bool → ℕ → Registers
registers_of all n = record { r0 = n; r1 = 0; r2 = 0; r3 = pick all 1 0; r4 = 0; r5 = 0 }

-- ---- what the definitions answer
unfoldable pub answer : Ask → List ℕ
answer (ticks n) = (nanos_to_ticks (record { 0 = n })).0 ∷ []
answer (fired at interval tick) = tick_answer (due_of (object_at (fire_timers (store_of (timer_due at interval)) tick) 1))
answer (lead n) = one? (starves (ready_thread 0) n) ∷ []
answer (picks ps c running) = thread_answer (pick_next (row ps c running) c)
answer (waits count all hs n) =
    let v : Served = wait_synchronization_n (state_of count) (registers_of all n) hs 0 in
    v.answer ∷ (word_answer v.r1 ++ count_of (object_at v.kernel.objects 1))
