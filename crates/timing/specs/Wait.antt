-- What of a thread its wait is, so that "its wait is as it was" is one equation.
use Rattle.units.specs.declared.Ticks.{Ticks}
use Rattle.std.specs.Prelude.{◌≡◌, refl, Bool, true, false, List, ℕ, ◌<◌, length, Option}
use Rattle.std.proofs.Common.{sym}
use Rattle.laws.specs.Logic.{false-true}
use Rattle.units.specs.declared.ObjectId.{ObjectId}
use Rattle.types.specs.declared.thread.ThreadStatus.{ThreadStatus}
use Rattle.types.specs.declared.thread.ThreadStatus.TheVariants.{Dead, Running, Ready, Sleeping, WaitSync, WaitArbiter, Dormant}
use Rattle.types.specs.declared.thread.Thread.{Thread}
use Rattle.types.specs.Thread.{is_blocked, is_dead}
use Rattle.sound.specs.View.{thread_at}
use Rattle.pass.specs.Pick.{is_runnable}
use Rattle.passing.specs.Signal.{live_in}

pub record Wait : Type 0 where
  pub status : ThreadStatus
  pub objects : List ObjectId
  pub count : ℕ
  pub all : Bool
  pub wake : Option Ticks
  pub address : Option ℕ

abbrev pub wait_of : Thread → Wait
wait_of t = record { status = t.status; objects = t.wait_objects; count = t.wait_count; all = t.wait_all; wake = t.wakeup_at; address = t.wait_address }

-- ---- a blocked thread
abbrev pub Blocked : List Thread → ℕ → Type 0
Blocked ts w = is_blocked (thread_at ts w).status ≡ true

-- is not Dead
pub blocked-dead : (s : ThreadStatus) → is_blocked s ≡ true → is_dead s ≡ false
blocked-dead Dead e = sym e
blocked-dead Running e = refl
blocked-dead Ready e = refl
blocked-dead Sleeping e = refl
blocked-dead WaitSync e = refl
blocked-dead WaitArbiter e = refl
blocked-dead Dormant e = refl

-- cannot run
pub blocked-runs : (s : ThreadStatus) → is_blocked s ≡ true → is_runnable s ≡ false
blocked-runs Dead e = refl
blocked-runs Running e = false-true e
blocked-runs Ready e = false-true e
blocked-runs Sleeping e = refl
blocked-runs WaitSync e = refl
blocked-runs WaitArbiter e = refl
blocked-runs Dormant e = refl

-- has a place
pub blocked_in : (ts : List Thread) (w : ℕ) → Blocked ts w → w < length ts
blocked_in ts w e = live_in ts w (blocked-dead (thread_at ts w).status e)
