-- A guest call and a thread that waits: its wait goes on, or the call wakes it. And when the wait that a call begins runs out.
use Rattle.std.specs.Prelude.{◌≡◌, refl, Bool, true, false, List, [], ℕ, eqb, Option, Some, None}
use Rattle.std.proofs.Math.Path.{ap}
use Rattle.std.proofs.Common.{eqb-true}
use Rattle.laws.specs.Logic.{pick, ◌and◌, true-and, false-true}
use Rattle.types.specs.declared.thread.ThreadStatus.{ThreadStatus}
use Rattle.types.specs.declared.thread.ThreadStatus.TheVariants.{Dead, Running, Ready, Sleeping, WaitSync, WaitArbiter, Dormant}
use Rattle.types.specs.declared.thread.Thread.{Thread}
use Rattle.types.specs.declared.kernel.Kernel.{Kernel}
use Rattle.types.specs.Sync.{arbitration_from_raw}
use Rattle.sound.specs.View.{thread_at}
use Rattle.soundness.specs.Whole.{Parts}
use Rattle.kernel.specs.NextEvent.{contains}
use Rattle.pass.specs.Pick.{is_runnable}
use Rattle.timing.specs.Wait.{wait_of, Blocked}
use Rattle.svc.specs.declared.Registers.{Registers}
use Rattle.svc.specs.Threads.{exit_thread}
use Rattle.svc.specs.Arbiter.{is_at, waits_arbiter, parked_at}
use Rattle.svc.specs.Dispatch.{runs?, call}
use Rattle.deadlines.specs.Effect.{blocked-other, runs-current, Timed, runs_out}
use Rattle.demand.specs.Words.{Doing, calls, is_for, address_gives?, gives?, timed_wait?, wait_nanos}
use Rattle.deadlines.specs.Arbiter.{woken_if, if_parked, if_signal}
use Rattle.deadlines.specs.Calls.{wakes, call-effect}

-- ---- whom a call wakes: only threads that are parked at the address in r1, so blocked ones
wakes-parked : (number : ℕ) (k : Kernel) (r : Registers) (w : ℕ) → contains (wakes number k r) w ≡ true → parked_at (thread_at k.threads w) r.r1 ≡ true
unfolding wakes contains
wakes-parked number k r w e = go (eqb number 0x22) e
  where
    go : (q : Bool) → contains (pick q (woken_if (arbitration_from_raw r.r2) k r) []) w ≡ true → parked_at (thread_at k.threads w) r.r1 ≡ true
    go true f = if_parked (arbitration_from_raw r.r2) k r w f
    go false f = false-true f

-- only a 0x22 of kind 0 wakes anyone
wakes-signal : (number : ℕ) (k : Kernel) (r : Registers) (w : ℕ) → contains (wakes number k r) w ≡ true → (eqb number 0x22 ≡ true) × (eqb r.r2 0 ≡ true)
unfolding wakes contains
wakes-signal number k r w e = go (eqb number 0x22) e
  where
    go : (q : Bool) → contains (pick q (woken_if (arbitration_from_raw r.r2) k r) []) w ≡ true → (q ≡ true) × (eqb r.r2 0 ≡ true)
    go true f = (refl, if_signal k r w f)
    go false f = false-true f

parked-for : (s : ThreadStatus) (t : Thread) (a : ℕ) → waits_arbiter s and is_at t.wait_address a ≡ true → address_gives? s t a ≡ true
unfolding ◌and◌
parked-for Dead t a e = e
parked-for Running t a e = e
parked-for Ready t a e = e
parked-for Sleeping t a e = e
parked-for WaitSync t a e = e
parked-for WaitArbiter t a e = at t.wait_address e
  where
    at : (o : Option ℕ) → is_at o a ≡ true → is_for o a ≡ true
    at None f = f
    at (Some b) f = f
parked-for Dormant t a e = e

-- whom a call wakes, it gives what it waited for, in the words of the demand
pub wakes-words : (number : ℕ) (k : Kernel) (r : Registers) (words : List ℕ) (tick w : ℕ) → contains (wakes number k r) w ≡ true → gives? w (calls number r words tick) k ≡ true
wakes-words number k r words tick w e =
    let t : Thread = thread_at k.threads w in
    let s = wakes-signal number k r w e in
    true-and (eqb number 0x22) _ s.0 (true-and (eqb r.r2 0) _ s.1 (parked-for t.status t r.r1 (wakes-parked number k r w e)))

module _ (number : ℕ) (k : Kernel) (r : Registers) (words : List ℕ) (tick : ℕ) (p : Parts k) where
  abbrev after : Kernel
  after = (call number k r words tick).kernel

  -- ---- the relief flag is a pass's own
  pub call-relief : after.relief ≡ k.relief
  call-relief = (call-effect k r tick number words p).relief

  -- ---- whom a call wakes is Ready after it
  pub call-wakes : (w : ℕ) → contains (wakes number k r) w ≡ true → (thread_at after.threads w).status ≡ Ready
  call-wakes w e = (call-effect k r tick number words p).wakes w e

  pub call_runnable : (w : ℕ) → contains (wakes number k r) w ≡ true → is_runnable (thread_at after.threads w).status ≡ true
  call_runnable w e = ap is_runnable (call-wakes w e)

  -- ---- while the current thread runs (question 4)
  module _ (run : runs? k ≡ true) where
    -- the wait of every other blocked thread is as it was
    pub call-waits : (w : ℕ) → Blocked k.threads w → contains (wakes number k r) w ≡ false → wait_of (thread_at after.threads w) ≡ wait_of (thread_at k.threads w)
    call-waits w b e = (call-effect k r tick number words p).waits w b (blocked-other k run w b) e

    -- and a wait of n nanoseconds runs out as many ticks after the call's
    pub call-wake : (c : ℕ) → k.current_thread ≡ Some c → Blocked after.threads c → timed_wait? number r ≡ true
        → Timed (wait_nanos number r) tick
        → (thread_at after.threads c).wakeup_at ≡ runs_out (wait_nanos number r) tick
    call-wake c e b t s = (call-effect k r tick number words p).wake c e (runs-current k run c e) b t s

-- ---- 0x09: the current thread is Dead afterwards, and no other one is touched
module _ (number : ℕ) (is : eqb number 0x09 ≡ true) (k : Kernel) (r : Registers) (words : List ℕ) (tick : ℕ) where
  exits : call number k r words tick ≡ exit_thread k
  unfolding call
  exits = ap (λ (m : ℕ). call m k r words tick) (eqb-true number 0x09 is)

-- ---- what a call makes of a blocked thread w
pub data CallEnds (number : ℕ) (k : Kernel) (r : Registers) (words : List ℕ) (tick w : ℕ) : Type 0 where
  goes_on_lem : wait_of (thread_at (call number k r words tick).kernel.threads w) ≡ wait_of (thread_at k.threads w) → contains (wakes number k r) w ≡ false → CallEnds number k r words tick w
  gets : (thread_at (call number k r words tick).kernel.threads w).status ≡ Ready → contains (wakes number k r) w ≡ true → CallEnds number k r words tick w
