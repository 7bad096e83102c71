-- A current thread with no list that goes to sleep leaves a sound state.
use Rattle.std.specs.Prelude.{◌≡◌, List, ℕ, Option, Some, None}
use Rattle.std.proofs.Math.Path.{refl}
use Rattle.std.proofs.Common.{sym, ◌∙◌}
use Rattle.types.specs.declared.thread.Thread.{Thread}
use Rattle.types.specs.declared.kernel.Kernel.{Kernel}
use Rattle.sound.specs.View.{ids, thread_at}
use Rattle.sound.specs.Threads.{Zeros}
use Rattle.sound.specs.Objects.{Live}
use Rattle.sound.specs.Sound.{Sound, zeros_count}
use Rattle.soundness.specs.Fits.{z4, no-objects, none_fit}
use Rattle.soundness.specs.Threads.{no-list}
use Rattle.soundness.specs.Whole.{Parts, sound-parts, parts-sound}
use Rattle.pass.specs.Timers.{saturating_add}
use Rattle.pass.specs.Waits.{sleeping, sleep_as, sleep_current}
use Rattle.passing.specs.Timers.{saturating_fits}
use Rattle.passing.specs.Threads.{live-place, live-ok, live-widths, thread-parts, runs-live, runs_none}
use Rattle.passing.specs.Picks.{Runs}
use Rattle.passing.specs.Switch.{current-live}

-- ---- a thread that waits on no object, or none
abbrev pub Unlisted : List Thread → Option ℕ → Type 0
Unlisted ts None = Unit {0}
Unlisted ts (Some c) = (thread_at ts c).wait_count ≡ 0

-- as one that can run does
pub runs_unlisted : (k : Kernel) → Parts k → (o : Option ℕ) → Runs k.threads o → Unlisted k.threads o
runs_unlisted k p None h = tt
runs_unlisted k p (Some c) h =
    runs_none (thread_at k.threads c).status (thread_at k.threads c).wait_count h (live-ok k p c (runs-live (thread_at k.threads c).status h)).only

pub unlisted_zeros : (k : Kernel) (p : Parts k) (c : ℕ) → Live k.threads c → Unlisted k.threads (Some c)
    → Zeros (ids (thread_at k.threads c).wait_objects)
unlisted_zeros k p c live e = no-list k.thread_count k.current_thread c (thread_at k.threads c) e (p.threads.each c (live-place k p c live))

-- ---- `sleep_current`
module _ (k : Kernel) (p : Parts k) (ticks tick : ℕ) where
  sleep-as : (c : Option ℕ) → k.current_thread ≡ c → Unlisted k.threads c → Parts (sleep_as c k ticks tick)
  sleep-as None e n = p
  sleep-as (Some c) e n =
      let live : Live k.threads c = current-live k p c e in
      let u = live-ok k p c live in
      let w = live-widths k p c live in
      let v : Thread = sleeping (thread_at k.threads c) (saturating_add tick ticks) in
      let z : Zeros (ids v.wait_objects) = no-objects in
      thread-parts k p c live v
      (record {
        ok = record { priority = u.priority; run = tt; list = z; only = refl };
        live = refl;
        tls = refl;
        widths = record { own = w.own; wait = record { count = z4; address = z4; wakeup = saturating_fits tick ticks; ids = none_fit; size = refl }; index = w.index; since = w.since };
      })
      (λ o q. zeros_count o (ids v.wait_objects) q z ∙ sym (zeros_count o (ids (thread_at k.threads c).wait_objects) q (unlisted_zeros k p c live n)))

  pub sleep_current-parts : Unlisted k.threads k.current_thread → Parts (sleep_current k ticks tick)
  unfolding sleep_current
  sleep_current-parts n = sleep-as k.current_thread refl n

pub sleep_current-sound : (k : Kernel) (ticks tick : ℕ) → Unlisted k.threads k.current_thread → Sound k → Sound (sleep_current k ticks tick)
sleep_current-sound k ticks tick n s = parts-sound (sleep_current k ticks tick) (sleep_current-parts k (sound-parts k s) ticks tick n)
