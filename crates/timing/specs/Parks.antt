-- The current thread parks: the wait that it begins, and when it runs out.
use Rattle.units.specs.declared.Ticks.{Ticks}
use Rattle.std.specs.Prelude.{◌≡◌, Bool, List, ℕ, ◌+◌, ◌≤◌, ◌<◌, length, Option, Some}
use Rattle.std.proofs.Math.Path.{ap}
use Rattle.std.proofs.Common.{◌∙◌}
use Rattle.units.specs.declared.ObjectId.{ObjectId}
use Rattle.types.specs.declared.kernel.Kernel.{Kernel}
use Rattle.sound.specs.View.{thread_at}
use Rattle.thread.specs.Marks.{least-is}
use Rattle.soundness.specs.Threads.{thread-same}
use Rattle.pass.specs.Timers.{max_tick, saturating_add}
use Rattle.pass.specs.Waits.{wake_tick, waiting, begin_wait_as, begin_wait, sleeping, sleep_as, sleep_current}

-- a sum that fits is not cut
pub saturating_is : (a b : ℕ) → a + b ≤ max_tick → saturating_add a b ≡ a + b
saturating_is a b h = least-is (a + b) max_tick h

module _ (k : Kernel) (c : ℕ) (e : k.current_thread ≡ Some c) (l : c < length k.threads) where
  pub begin-own : (os : List ObjectId) (n : ℕ) (all : Bool) (timeout : Option Ticks) (tick : ℕ)
      → thread_at (begin_wait k os n all timeout tick).threads c ≡ waiting (thread_at k.threads c) os n all (wake_tick timeout tick)
  unfolding begin_wait
  begin-own os n all timeout tick =
      ap (λ (o : Option ℕ). thread_at (begin_wait_as o k os n all timeout tick).threads c) e
      ∙ thread-same k.threads c (waiting (thread_at k.threads c) os n all (wake_tick timeout tick)) l

  pub sleep-own : (ticks tick : ℕ) → thread_at (sleep_current k ticks tick).threads c ≡ sleeping (thread_at k.threads c) (saturating_add tick ticks)
  unfolding sleep_current
  sleep-own ticks tick =
      ap (λ (o : Option ℕ). thread_at (sleep_as o k ticks tick).threads c) e
      ∙ thread-same k.threads c (sleeping (thread_at k.threads c) (saturating_add tick ticks)) l
