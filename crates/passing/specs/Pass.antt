-- A pass leaves a sound state, unless a finding of it is up.
use Rattle.std.specs.Prelude.{◌≡◌, Bool, false, List, ℕ, ◌^◌, ◌<◌, Option}
use Rattle.std.proofs.Common.{ap, sym, ◌∙◌, arith}
use Rattle.types.specs.declared.thread.Thread.{Thread}
use Rattle.types.specs.declared.object.ObjectStore.{ObjectStore}
use Rattle.types.specs.declared.kernel.Kernel.{Kernel}
use Rattle.sound.specs.Sound.{Sound}
use Rattle.thread.specs.Threads.{with_threads}
use Rattle.soundness.specs.Whole.{Parts, sound-parts, parts-sound}
use Rattle.pass.specs.declared.Waits.{Waits}
use Rattle.pass.specs.Timers.{fire_timers}
use Rattle.pass.specs.Waits.{try_waits}
use Rattle.pass.specs.Pick.{pick_next}
use Rattle.pass.specs.Schedule.{mark_waited, begin_run, starving, flipped, chosen, choose, tried, schedule}
use Rattle.passing.specs.Timers.{clear-overflow, fire_timers-parts, clear_pulses-parts}
use Rattle.passing.specs.Awake.{during}
use Rattle.passing.specs.Tries.{try_waits-sticks, try_waits-parts}
use Rattle.passing.specs.Picks.{Runs, pick_next-runs, chosen-runs}
use Rattle.passing.specs.Switch.{mark_parts, begin-parts, begin-runs, switch_parts, switch_objects}

-- ---- the choice, after the tries
pub choose-parts : (k : Kernel) (w : Waits) (tick : ℕ) → tick < 256 ^ 8 → Parts (during k w) → Parts (choose k w tick).kernel
choose-parts k w tick f p =
    let s : ObjectStore = w.objects in
    let c : (Option ℕ) = k.current_thread in
    let ts : List Thread = mark_waited w.threads c in
    let first : (Option ℕ) = pick_next ts c in
    let first_runs : Runs ts first = pick_next-runs ts c in
    let begun : List Thread = begin_run ts first tick in
    let starve : Bool = starving begun first tick in
    let next : (Option ℕ) = chosen begun first starve k.relief in
    let next-runs : Runs begun next = chosen-runs begun first starve k.relief (begin-runs ts first tick first first_runs) in
    switch_parts k s (begin_run begun next tick) (flipped starve k.relief)
    (begin-parts (with_threads k begun s) (begin-parts (with_threads k ts s) (mark_parts (during k w) p) first first_runs tick f) next next-runs tick f) next (begin-runs begun next tick next next-runs)

pub choose-objects : (k : Kernel) (w : Waits) (tick : ℕ) → (choose k w tick).kernel.objects ≡ w.objects
choose-objects k w tick = switch_objects k w.objects _ _ k.current_thread _

-- ---- the tries
pub tried-parts : (k : Kernel) (tick : ℕ) → (tried k tick).objects.overflow ≡ false → Parts k → Parts (during k (tried k tick))
tried-parts k tick e p =
    let start : Waits = record { objects = fire_timers k.objects tick; threads = k.threads } in
    let after : Waits = try_waits tick 32 0 start in
    let down : after.objects.overflow ≡ false = sym (clear-overflow after.objects) ∙ e in
    clear_pulses-parts (during k after) (try_waits-parts k tick 32 0 start down (fire_timers-parts k p tick (try_waits-sticks tick 32 0 start down)))

-- ---- the pass
pub schedule-parts : (k : Kernel) (tick : ℕ) → tick < 18446744073709551616 → (schedule k tick).kernel.objects.overflow ≡ false → Parts k → Parts (schedule k tick).kernel
unfolding schedule
schedule-parts k tick f e p =
    choose-parts k (tried k tick) tick (omega arith) (tried-parts k tick (ap (λ (s : ObjectStore). s.overflow) (sym (choose-objects k (tried k tick) tick)) ∙ e) p)

pub schedule-sound : (k : Kernel) (tick : ℕ) → tick < 18446744073709551616 → Sound k → (schedule k tick).kernel.objects.overflow ≡ false → Sound (schedule k tick).kernel
schedule-sound k tick f s e = parts-sound (schedule k tick).kernel (schedule-parts k tick f e (sound-parts k s))
