-- `is_signaled` as it is computed: whether the thread that an object names is Dead is looked up first.
use Rattle.std.specs.Prelude.{◌≡◌, refl, Bool, true, List, ℕ}
use Rattle.types.specs.declared.thread.Thread as th
use Rattle.types.specs.declared.object.KObject.{KObject}
use Rattle.types.specs.declared.object.KObject.TheVariants.{Free, Thread, Event, Mutex, Semaphore, Timer, AddressArbiter, Process, ResourceLimit}
use Rattle.types.specs.Thread.{is_dead}
use Rattle.sound.specs.View.{thread_at}
use Rattle.pass.specs.Signal.{positive, free_for, is_signaled}

-- the thread that a thread object names; 32, a place of no thread, for another kind
abbrev pub thread_named : KObject → ℕ
thread_named (Free n) = 32
thread_named (Thread u) = u
thread_named (Event e) = 32
thread_named (Mutex m) = 32
thread_named (Semaphore s) = 32
thread_named (Timer t) = 32
thread_named (AddressArbiter a) = 32
thread_named Process = 32
thread_named ResourceLimit = 32

abbrev pub signaled_for : KObject → Bool → ℕ → Bool
signaled_for (Free n) gone w = true
signaled_for (Thread u) gone w = gone
signaled_for (Event e) gone w = e.signaled
signaled_for (Mutex m) gone w = free_for m.owner w
signaled_for (Semaphore s) gone w = positive s.count
signaled_for (Timer t) gone w = t.signaled
signaled_for (AddressArbiter a) gone w = true
signaled_for Process gone w = true
signaled_for ResourceLimit gone w = true

pub signaled-is : (ts : List th.Thread) (x : KObject) (w : ℕ) → signaled_for x (is_dead (thread_at ts (thread_named x)).status) w ≡ is_signaled ts x w
signaled-is ts (Free n) w = refl
signaled-is ts (Thread u) w = refl
signaled-is ts (Event e) w = refl
signaled-is ts (Mutex m) w = refl
signaled-is ts (Semaphore s) w = refl
signaled-is ts (Timer t) w = refl
signaled-is ts (AddressArbiter a) w = refl
signaled-is ts Process w = refl
signaled-is ts ResourceLimit w = refl
