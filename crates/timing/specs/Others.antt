-- What the changes outside a pass do to the wait of a thread: only its own end and its own parking touch it.
use Rattle.units.specs.declared.Ticks.{Ticks}
use Rattle.std.specs.Prelude.{◌≡◌, refl, Bool, List, ◌≢◌, ℕ, ◌<◌, length, set, Option, Some, None}
use Rattle.std.proofs.Common.{ap, sym, ◌∙◌, arith, length-set}
use Rattle.laws.specs.Logic.{false-true}
use Rattle.units.specs.declared.ObjectId.{ObjectId}
use Rattle.types.specs.declared.thread.ThreadStatus.TheVariants.{Dead}
use Rattle.types.specs.declared.thread.Thread.{Thread}
use Rattle.types.specs.declared.kernel.Kernel.{Kernel}
use Rattle.types.specs.Thread.{is_dead}
use Rattle.sound.specs.View.{thread_at}
use Rattle.thread.specs.Thread.{clear_wait}
use Rattle.thread.specs.Threads.{ended_thread, create_thread, set_priority, end_wait, ended, end_thread}
use Rattle.soundness.specs.Threads.{thread-same, thread-other}
use Rattle.soundness.specs.Whole.{Parts}
use Rattle.soundness.specs.Creates.{ended-dead}
use Rattle.pass.specs.Waits.{begin_wait_as, begin_wait, sleep_as, sleep_current}
use Rattle.passing.specs.Picks.{thread-f}
use Rattle.timing.specs.Wait.{wait_of, Blocked, blocked-dead, blocked_in}

-- ---- a new thread takes the place of an ended one, or one not in use
pub create-other : (k : Kernel) (entry stack priority processor : ℕ) → Parts k → (w : ℕ) → Blocked k.threads w
    → thread_at (create_thread k entry stack priority processor).threads w ≡ thread_at k.threads w
unfolding create_thread
create-other k entry stack priority processor p w b =
    thread-other k.threads (ended_thread k) w _
    (λ e.
    let l : ended_thread k < 32 = omega (arith, blocked_in k.threads w b, p.nt) in
    false-true (sym (blocked-dead (thread_at k.threads w).status b) ∙ ap (λ (t : ℕ). is_dead (thread_at k.threads t).status) e ∙ ended-dead k p.threads l))

-- ---- another thread ends
pub end-other : (k : Kernel) (t w : ℕ) → w ≢ t → thread_at (end_thread k t).threads w ≡ thread_at k.threads w
unfolding end_thread end_wait
end-other k t w n = thread-other (set k.threads t (clear_wait (thread_at k.threads t))) t w _ n ∙ thread-other k.threads t w _ n

-- the thread itself ends
pub end-dead : (k : Kernel) (t : ℕ) → t < length k.threads → (thread_at (end_thread k t).threads t).status ≡ Dead
unfolding end_thread end_wait
end-dead k t l =
    let ts : List Thread = set k.threads t (clear_wait (thread_at k.threads t)) in
    ap (λ (x : Thread). x.status) (thread-same ts t (ended (thread_at ts t)) (omega (arith, length-set k.threads t (clear_wait (thread_at k.threads t)))))

-- ---- a priority is no part of a wait, of whichever thread
pub priority-wait : (k : Kernel) (t p w : ℕ) → wait_of (thread_at (set_priority k t p).threads w) ≡ wait_of (thread_at k.threads w)
unfolding set_priority
priority-wait k t p w = thread-f wait_of k.threads t _ w refl

-- ---- the current thread parks: another one is left
begin_as : (c : Option ℕ) (k : Kernel) (l : List ObjectId) (n : ℕ) (all : Bool) (timeout : Option Ticks) (tick w : ℕ)
    → c ≢ Some w
    → thread_at (begin_wait_as c k l n all timeout tick).threads w ≡ thread_at k.threads w
begin_as None k l n all timeout tick w h = refl
begin_as (Some c) k l n all timeout tick w h = thread-other k.threads c w _ (λ e. h (ap Some (sym e)))

pub begin-other : (k : Kernel) (l : List ObjectId) (n : ℕ) (all : Bool) (timeout : Option Ticks) (tick w : ℕ)
    → k.current_thread ≢ Some w
    → thread_at (begin_wait k l n all timeout tick).threads w ≡ thread_at k.threads w
unfolding begin_wait
begin-other k l n all timeout tick w h = begin_as k.current_thread k l n all timeout tick w h

sleep-as : (c : Option ℕ) (k : Kernel) (ticks tick w : ℕ) → c ≢ Some w
    → thread_at (sleep_as c k ticks tick).threads w ≡ thread_at k.threads w
sleep-as None k ticks tick w h = refl
sleep-as (Some c) k ticks tick w h = thread-other k.threads c w _ (λ e. h (ap Some (sym e)))

pub sleep-other : (k : Kernel) (ticks tick w : ℕ) → k.current_thread ≢ Some w
    → thread_at (sleep_current k ticks tick).threads w ≡ thread_at k.threads w
unfolding sleep_current
sleep-other k ticks tick w h = sleep-as k.current_thread k ticks tick w h
