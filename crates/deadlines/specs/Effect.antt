-- What a guest call does to the threads that wait, so that it is one fact for every call.
use Rattle.units.specs.declared.Ticks.{Ticks}
use Rattle.std.specs.Prelude.{◌≡◌, refl, Bool, true, false, ◌≢◌, List, [], ℕ, ◌+◌, ◌≤◌, ◌<◌, eqb, length, Option, Some}
use Rattle.std.proofs.Common.{ap, sym, ◌∙◌, arith, ne_eqb, le-ltb}
use Rattle.laws.specs.Logic.{false-true}
use Rattle.units.specs.Ticks.{nanos_to_ticks}
use Rattle.types.specs.declared.thread.ThreadStatus.{ThreadStatus}
use Rattle.types.specs.declared.thread.ThreadStatus.TheVariants.{Dead, Running, Ready, Sleeping, WaitSync, WaitArbiter, Dormant}
use Rattle.types.specs.declared.thread.Thread.{Thread}
use Rattle.types.specs.declared.object.ObjectStore.{ObjectStore}
use Rattle.types.specs.declared.kernel.Kernel.{Kernel}
use Rattle.types.specs.Thread.{is_blocked, is_dead}
use Rattle.sound.specs.View.{thread_at}
use Rattle.kernel.specs.NextEvent.{contains}
use Rattle.passing.specs.Signal.{live_in}
use Rattle.pass.specs.Pick.{is_running}
use Rattle.pass.specs.Timers.{saturating_add}
use Rattle.timing.specs.Wait.{wait_of, Blocked}
use Rattle.timing.specs.Parks.{saturating_is}
use Rattle.svc.specs.Call.{with_objects, negative}
use Rattle.svc.specs.Dispatch.{runs_as, runs?}

-- ---- who runs
abbrev pub Runs : Kernel → ℕ → Type 0
Runs k c = is_running (thread_at k.threads c).status ≡ true

-- is not blocked
pub running_status : (s : ThreadStatus) → is_running s ≡ true → is_blocked s ≡ false
running_status Dead e = refl
running_status Running e = refl
running_status Ready e = refl
running_status Sleeping e = sym e
running_status WaitSync e = sym e
running_status WaitArbiter e = sym e
running_status Dormant e = refl

running_dead : (s : ThreadStatus) → is_running s ≡ true → is_dead s ≡ false
running_dead Dead e = sym e
running_dead Running e = refl
running_dead Ready e = refl
running_dead Sleeping e = refl
running_dead WaitSync e = refl
running_dead WaitArbiter e = refl
running_dead Dormant e = refl

-- has a place
pub running_in : (ts : List Thread) (c : ℕ) → is_running (thread_at ts c).status ≡ true → c < length ts
running_in ts c e = live_in ts c (running_dead (thread_at ts c).status e)

-- a guest call is served only while the current thread runs (question 4), so a blocked thread is another one
pub blocked-other : (k : Kernel) → runs? k ≡ true → (w : ℕ) → Blocked k.threads w → k.current_thread ≢ Some w
unfolding runs?
blocked-other k e w b h = false-true
    (sym (running_status (thread_at k.threads w).status (sym (ap (λ (o : Option ℕ). runs_as o k.threads) h) ∙ e)) ∙ b)

pub runs-current : (k : Kernel) → runs? k ≡ true → (c : ℕ) → k.current_thread ≡ Some c → Runs k c
unfolding runs?
runs-current k e c h = sym (ap (λ (o : Option ℕ). runs_as o k.threads) h) ∙ e

-- ---- a wait of n nanoseconds from the tick on
-- n is not 0 and not below 0 as a signed number, and its end fits a tick
pub record Timed (n tick : ℕ) : Type 0 where
  pub least : 1 ≤ n
  pub most : n < 9223372036854775808
  pub fits : tick + (nanos_to_ticks (record { 0 = n })).0 < 18446744073709551616

-- when it runs out
abbrev pub runs_out : ℕ → ℕ → Option Ticks
runs_out n tick = Some (record { 0 = tick + (nanos_to_ticks (record { 0 = n })).0 })

pub timed_zero : (n tick : ℕ) → Timed n tick → eqb n 0 ≡ false
timed_zero n tick t = ne_eqb n 0 (λ e. omega (arith, e, t.least))

pub timed_negative : (n tick : ℕ) → Timed n tick → negative n ≡ false
timed_negative n tick t = le-ltb 9223372036854775807 n (omega (arith, t.most))

pub timed_out : (n tick : ℕ) → Timed n tick → saturating_add tick (nanos_to_ticks (record { 0 = n })).0 ≡ tick + (nanos_to_ticks (record { 0 = n })).0
timed_out n tick t = saturating_is tick (nanos_to_ticks (record { 0 = n })).0 (omega (arith, t.fits))

-- ---- from k to k': woken are the threads that the call wakes, parks whether the current thread may park, timed whether for n nanoseconds
pub record Effect (k : Kernel) (woken : List ℕ) (parks timed : Bool) (n tick : ℕ) (k' : Kernel) : Type 0 where
  -- another thread's wait is as it was
  pub waits : (w : ℕ) → Blocked k.threads w → k.current_thread ≢ Some w → contains woken w ≡ false
      → wait_of (thread_at k'.threads w) ≡ wait_of (thread_at k.threads w)
  pub wakes : (w : ℕ) → contains woken w ≡ true → (thread_at k'.threads w).status ≡ Ready
  -- the current thread, if it is blocked afterwards
  pub parked : (c : ℕ) → k.current_thread ≡ Some c → Runs k c → Blocked k'.threads c → parks ≡ true
  pub wake : (c : ℕ) → k.current_thread ≡ Some c → Runs k c → Blocked k'.threads c → timed ≡ true → Timed n tick
      → (thread_at k'.threads c).wakeup_at ≡ runs_out n tick
  pub relief : k'.relief ≡ k.relief

-- ---- a call that wakes nobody and parks nobody
pub record Calm (k k' : Kernel) : Type 0 where
  pub waits : (w : ℕ) → Blocked k.threads w → k.current_thread ≢ Some w
      → wait_of (thread_at k'.threads w) ≡ wait_of (thread_at k.threads w)
  pub free : (c : ℕ) → k.current_thread ≡ Some c → Runs k c → is_blocked (thread_at k'.threads c).status ≡ false
  pub relief : k'.relief ≡ k.relief

-- has that effect, whatever it might park for
abbrev pub Quiet : Kernel → Kernel → Type 0
Quiet k k' = (parks timed : Bool) (n tick : ℕ) → Effect k [] parks timed n tick k'

pub calm-effect : (k k' : Kernel) → Calm k k' → Quiet k k'
unfolding contains
calm-effect k k' q parks timed n tick = record {
  waits = λ w b h e. q.waits w b h;
  wakes = λ w e. false-true e;
  parked = λ c e r b. false-true (sym (q.free c e r) ∙ b);
  wake = λ c e r b t s. false-true (sym (q.free c e r) ∙ b);
  relief = q.relief;
}

-- ---- no thread is touched
pub record Same (k k' : Kernel) : Type 0 where
  pub threads : k'.threads ≡ k.threads
  pub relief : k'.relief ≡ k.relief

pub same-calm : (k k' : Kernel) → Same k k' → Calm k k'
same-calm k k' s = record {
  waits = λ w b h. ap (λ (ts : List Thread). wait_of (thread_at ts w)) s.threads;
  free = λ c e r. ap (λ (ts : List Thread). is_blocked (thread_at ts c).status) s.threads ∙ running_status (thread_at k.threads c).status r;
  relief = s.relief;
}

-- ---- another store is no change of threads
pub effect-store : (k : Kernel) (s : ObjectStore) (woken : List ℕ) (parks timed : Bool) (n tick : ℕ) (k' : Kernel) → Effect (with_objects k s) woken parks timed n tick k' → Effect k woken parks timed n tick k'
effect-store k s woken parks timed n tick k' d = record { waits = d.waits; wakes = d.wakes; parked = d.parked; wake = d.wake; relief = d.relief }

pub same_effect : (k k' : Kernel) → Same k k' → Quiet k k'
same_effect k k' s = calm-effect k k' (same-calm k k' s)
