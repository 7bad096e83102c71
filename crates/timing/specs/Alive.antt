-- Who can run after the tries of a pass was not Dead before them.
use Rattle.std.specs.Prelude.{◌≡◌, refl, Bool, true, false, ℕ, Option}
use Rattle.std.proofs.Common.{ap, sym, ◌∙◌, inl, inr, arith}
use Rattle.laws.specs.Logic.{false-true, lt-cases}
use Rattle.types.specs.declared.thread.ThreadStatus.{ThreadStatus}
use Rattle.types.specs.declared.thread.ThreadStatus.TheVariants.{Dead, Running, Ready, Sleeping, WaitSync, WaitArbiter, Dormant}
use Rattle.types.specs.declared.thread.Thread.{Thread}
use Rattle.types.specs.declared.kernel.Kernel.{Kernel}
use Rattle.types.specs.Thread.{is_dead}
use Rattle.sound.specs.View.{thread_at}
use Rattle.sound.specs.Objects.{Live}
use Rattle.pass.specs.Timers.{due_by}
use Rattle.pass.specs.Waits.{fate_as}
use Rattle.pass.specs.Pick.{is_runnable}
use Rattle.pass.specs.Schedule.{tried}
use Rattle.passing.specs.Threads.{runs-live}
use Rattle.passing.specs.Picks.{can_run}
use Rattle.timing.specs.Turn.{stays?, tries_other, tried-stays}
use Rattle.timing.specs.Late.{found_at, fate-is}

-- a Dead thread stays
dead-stays : (s : ThreadStatus) (x : Option ℕ) (late : Bool) → is_dead s ≡ true → stays? (fate_as s x late) ≡ true
dead-stays Dead x late e = refl
dead-stays Running x late e = false-true e
dead-stays Ready x late e = false-true e
dead-stays Sleeping x late e = false-true e
dead-stays WaitSync x late e = false-true e
dead-stays WaitArbiter x late e = false-true e
dead-stays Dormant x late e = false-true e

tried-dead : (k : Kernel) (tick w : ℕ) → is_dead (thread_at k.threads w).status ≡ true → thread_at (tried k tick).threads w ≡ thread_at k.threads w
tried-dead k tick w e =
    elim (lt-cases w 32) [
      | inl l ↦ tried-stays k tick w l (ap stays? (fate-is k tick w) ∙ dead-stays (thread_at k.threads w).status (found_at k tick w) (due_by (thread_at k.threads w).wakeup_at tick) e)
      | inr l ↦ tries_other tick 32 0 _ w (λ a b. omega arith)
    ]

pub tried-live : (k : Kernel) (tick w : ℕ) → can_run (tried k tick).threads w ≡ true → Live k.threads w
tried-live k tick w h = go (is_dead (thread_at k.threads w).status) refl
  where
    go : (q : Bool) → is_dead (thread_at k.threads w).status ≡ q → q ≡ false
    go true e = sym e ∙ runs-live (thread_at k.threads w).status (ap (λ (t : Thread). is_runnable t.status) (sym (tried-dead k tick w e)) ∙ h)
    go false e = refl
