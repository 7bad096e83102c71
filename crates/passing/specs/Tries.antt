-- The tries of a pass leave a state sound. The finding sticks: if it is down after all tries, it was down after each.
use Rattle.std.specs.Prelude.{◌≡◌, false, List, ℕ, zero, suc, Some}
use Rattle.std.proofs.Common.{sym, ◌∙◌}
use Rattle.types.specs.declared.thread.WaitResult.TheVariants.{Signaled}
use Rattle.types.specs.declared.thread.WaitResult.TheVariants as result
use Rattle.types.specs.declared.object.ObjectStore.{ObjectStore}
use Rattle.types.specs.declared.kernel.Kernel.{Kernel}
use Rattle.sound.specs.View.{thread_at}
use Rattle.soundness.specs.Objects.{releases-overflow}
use Rattle.soundness.specs.Fits.{z4}
use Rattle.soundness.specs.Whole.{Parts}
use Rattle.pass.specs.declared.Fate.{Fate}
use Rattle.pass.specs.declared.Fate.TheVariants.{Stays, Given, TimedOut, Slept}
use Rattle.pass.specs.declared.Waits.{Waits}
use Rattle.pass.specs.Signal.{acquires}
use Rattle.pass.specs.Waits.{waited_objects, fate, taken, try_as, try_wait, try_waits}
use Rattle.passing.specs.Signal.{acquires-sticks, acquires-parts}
use Rattle.passing.specs.Threads.{live-widths}
use Rattle.passing.specs.Awake.{during, awake-parts}
use Rattle.passing.specs.Fates.{FateOk, fate-ok, list-short}

-- ---- one try: the finding sticks
pub try_sticks : (f : Fate) (w : Waits) (t : ℕ) → (try_as f w t).objects.overflow ≡ false → w.objects.overflow ≡ false
try_sticks Stays w t e = e
try_sticks (Given i) w t e = acquires-sticks (taken (thread_at w.threads t) i) w.objects t (sym (releases-overflow (acquires w.objects (taken (thread_at w.threads t) i) t) (waited_objects (thread_at w.threads t))) ∙ e)
try_sticks TimedOut w t e = sym (releases-overflow w.objects (waited_objects (thread_at w.threads t))) ∙ e
try_sticks Slept w t e = sym (releases-overflow w.objects (waited_objects (thread_at w.threads t))) ∙ e

pub try_wait-sticks : (tick : ℕ) (w : Waits) (t : ℕ) → (try_wait tick w t).objects.overflow ≡ false → w.objects.overflow ≡ false
unfolding try_wait
try_wait-sticks tick w t e = try_sticks (fate w.threads w.objects tick t) w t e

pub try_waits-sticks : (tick n t : ℕ) (w : Waits) → (try_waits tick n t w).objects.overflow ≡ false → w.objects.overflow ≡ false
unfolding try_waits
try_waits-sticks tick zero t w e = e
try_waits-sticks tick (suc n) t w e = try_wait-sticks tick w t (try_waits-sticks tick n (suc t) (try_wait tick w t) e)

-- ---- and the state stays sound
pub try_parts : (k : Kernel) (f : Fate) (w : Waits) (t : ℕ) → FateOk w.threads t f → (try_as f w t).objects.overflow ≡ false → Parts (during k w) → Parts (during k (try_as f w t))
try_parts k Stays w t h e p = p
try_parts k (Given i) w t h e p =
    let os : List ℕ = taken (thread_at w.threads t) i in
    let a : ObjectStore = acquires w.objects os t in
    awake-parts k (record { objects = a; threads = w.threads }) t (Some (Signaled i)) h.0 h.1
    (acquires-parts (during k w) p os t h.0 (sym (releases-overflow a (waited_objects (thread_at w.threads t))) ∙ e))
try_parts k TimedOut w t h e p = awake-parts k w t (Some result.TimedOut) h z4 p
try_parts k Slept w t h e p = awake-parts k w t (thread_at w.threads t).wait_result h (live-widths (during k w) p t h).index p

pub try_wait-parts : (k : Kernel) (tick : ℕ) (w : Waits) (t : ℕ) → (try_wait tick w t).objects.overflow ≡ false → Parts (during k w) → Parts (during k (try_wait tick w t))
unfolding try_wait
try_wait-parts k tick w t e p = try_parts k (fate w.threads w.objects tick t) w t (fate-ok w.threads w.objects tick t (list-short w.threads t p.threads_fit)) e p

pub try_waits-parts : (k : Kernel) (tick n t : ℕ) (w : Waits) → (try_waits tick n t w).objects.overflow ≡ false → Parts (during k w) → Parts (during k (try_waits tick n t w))
unfolding try_waits
try_waits-parts k tick zero t w e p = p
try_waits-parts k tick (suc n) t w e p =
    try_waits-parts k tick n (suc t) (try_wait tick w t) e (try_wait-parts k tick w t (try_waits-sticks tick n (suc t) (try_wait tick w t) e) p)
