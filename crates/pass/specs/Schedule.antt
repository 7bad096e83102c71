-- `schedule` of mod.rs: a pass.
use Rattle.std.specs.Prelude.{Bool, true, false, not, List, ℕ, ◌-◌, eqb, ltb, set, Option, Some, None}
use Rattle.laws.specs.Logic.{pick, ◌and◌}
use Rattle.types.specs.declared.thread.ThreadStatus.TheVariants.{Ready, Running}
use Rattle.types.specs.declared.thread.Thread.{Thread}
use Rattle.types.specs.declared.object.ObjectStore.{ObjectStore}
use Rattle.types.specs.declared.kernel.Kernel.{Kernel}
use Rattle.sound.specs.View.{thread_at}
use Rattle.thread.specs.Thread.{with_status}
use Rattle.pass.specs.declared.Waits.{Waits}
use Rattle.pass.specs.declared.Passed.{Passed}
use Rattle.pass.specs.Signal.{clear_pulses}
use Rattle.pass.specs.Timers.{fire_timers}
use Rattle.pass.specs.Waits.{try_waits}
use Rattle.pass.specs.Pick.{is_runnable, is_running, or_else, pick_next, pick_other}

-- ---- who has run for how long
abbrev pub with_run : Thread → Bool → ℕ → Thread
with_run t waited since = record {
  status = t.status;
  priority = t.priority;
  entry = t.entry;
  stack_top = t.stack_top;
  tls = t.tls;
  processor_id = t.processor_id;
  wait_objects = t.wait_objects;
  wait_count = t.wait_count;
  wait_all = t.wait_all;
  wakeup_at = t.wakeup_at;
  running_since = record { 0 = since };
  waited = waited;
  wait_address = t.wait_address;
  wait_result = t.wait_result;
  wait_syscall = t.wait_syscall;
  guest_id = t.guest_id;
}

-- the current thread has waited if it cannot run, after all waits were tried
abbrev pub mark_waited : List Thread → Option ℕ → List Thread
mark_waited ts None = ts
mark_waited ts (Some c) = pick (is_runnable (thread_at ts c).status) ts
    (set ts c (with_run (thread_at ts c) true (thread_at ts c).running_since.0))

-- a thread that has waited begins to run
abbrev pub begun : Thread → ℕ → Thread
begun t tick = pick t.waited (with_run t false tick) t

abbrev pub begin_run : List Thread → Option ℕ → ℕ → List Thread
begin_run ts None tick = ts
begin_run ts (Some c) tick = set ts c (begun (thread_at ts c) tick)

-- four frames; the difference is 0 for a tick before
abbrev pub starvation_ticks : ℕ
starvation_ticks = 17924544

abbrev pub starves : Thread → ℕ → Bool
starves t tick = ltb starvation_ticks (tick - t.running_since.0)

-- judged for the first pick, not for the current thread
abbrev pub starving : List Thread → Option ℕ → ℕ → Bool
starving ts None tick = false
starving ts (Some c) tick = starves (thread_at ts c) tick

-- each starving pass flips the flag; no other pass sets it back
abbrev pub flipped : Bool → Bool → Bool
flipped starve relief = pick starve (not relief) relief

-- when it turns on, another thread runs instead, if there is one
abbrev pub stand_in : List Thread → Option ℕ → Option ℕ
stand_in ts None = None
stand_in ts (Some c) = or_else (pick_other ts c (thread_at ts c).priority) (Some c)

abbrev pub chosen : List Thread → Option ℕ → Bool → Bool → Option ℕ
chosen ts first starve relief = pick (starve and not relief) (stand_in ts first) first

-- ---- the switch
-- a Running thread that leaves the core is Ready
abbrev pub leaves : Thread → Thread
leaves t = pick (is_running t.status) (with_status t Ready) t

abbrev pub leave_core : List Thread → Option ℕ → List Thread
leave_core ts None = ts
leave_core ts (Some c) = set ts c (leaves (thread_at ts c))

abbrev pub take_core : List Thread → ℕ → List Thread
take_core ts n = set ts n (with_status (thread_at ts n) Running)

abbrev pub is_none : Option ℕ → Bool
is_none None = true
is_none (Some t) = false

abbrev pub scheduled : Kernel → ObjectStore → List Thread → Option ℕ → Bool → Kernel
scheduled k s ts next relief = record {
  status_word = k.status_word;
  objects = s;
  handles = k.handles;
  threads = ts;
  thread_count = k.thread_count;
  current_thread = next;
  next_tls_slot = k.next_tls_slot;
  next_guest_id = k.next_guest_id;
  all_blocked = is_none next;
  relief = relief;
  full = k.full;
  overflow = k.overflow;
}

-- the thread that was current, and the one that is to run
abbrev pub switch_as : Kernel → ObjectStore → List Thread → Bool → Option ℕ → Option ℕ → Passed
-- nobody ran and nobody can: nothing switches
switch_as k s ts relief None None = record {
  kernel = scheduled k s ts None relief;
  saved = None;
  restored = None;
  switched = false;
}
-- everything is blocked: the context is saved
switch_as k s ts relief (Some c) None = record {
  kernel = scheduled k s (leave_core ts (Some c)) None relief;
  saved = Some c;
  restored = None;
  switched = true;
}
switch_as k s ts relief None (Some n) = record {
  kernel = scheduled k s (take_core ts n) (Some n) relief;
  saved = None;
  restored = Some n;
  switched = true;
}
-- a thread that stays current is neither saved nor restored
switch_as k s ts relief (Some c) (Some n) =
    pick (eqb c n)
    (record {
      kernel = scheduled k s (take_core ts n) (Some n) relief;
      saved = None;
      restored = None;
      switched = false;
    })
    (record {
      kernel = scheduled k s (take_core (leave_core ts (Some c)) n) (Some n) relief;
      saved = Some c;
      restored = Some n;
      switched = true;
    })

-- ---- the pass, after the tries: choose
abbrev pub choose_from : Kernel → ObjectStore → List Thread → Option ℕ → ℕ → Passed
choose_from k s ts first tick =
    let begun : List Thread = begin_run ts first tick in
    let starve : Bool = starving begun first tick in
    let next : (Option ℕ) = chosen begun first starve k.relief in
    switch_as k s (begin_run begun next tick) (flipped starve k.relief) k.current_thread next

abbrev pub choose : Kernel → Waits → ℕ → Passed
choose k w tick =
    let ts : List Thread = mark_waited w.threads k.current_thread in
    choose_from k w.objects ts (pick_next ts k.current_thread) tick

-- fire timers, try each blocked thread by number, clear the pulses
abbrev pub tried : Kernel → ℕ → Waits
tried k tick =
    let w : Waits = try_waits tick 32 0 (record { objects = fire_timers k.objects tick; threads = k.threads }) in
    record { objects = clear_pulses w.objects; threads = w.threads }

unfoldable pub schedule : Kernel → ℕ → Passed
schedule k tick = choose k (tried k tick) tick
