-- How far a repeating timer lies behind the exact time: less than a tick for each whole number of ticks that it is made of.
use Rattle.std.specs.Prelude.{◌≡◌, refl, List, ℕ, ◌+◌, ◌-◌, ◌*◌, ◌/◌, ◌≤◌, ◌<◌}
use Rattle.std.proofs.Common.{arith, mul-le-mul_left}
use Rattle.units.specs.declared.Nanos.{Nanos}
use Rattle.units.specs.Ticks.{nanos_to_ticks}
use Rattle.demand.specs.Words.{cut_off, Passes, Least, InStep}
use Rattle.timing.specs.Grid.{fired_dues, on_grid, Fit, grid}

pub in_step : (a b : Nanos) (k t due : ℕ) → due ≡ t + (nanos_to_ticks a).0 + k * (nanos_to_ticks b).0 → InStep a.0 b.0 k (due - t)
in_step a b k t due e =
    let A : ℕ = a.0 * 268111856 / 1000000000 in
    let B : ℕ = b.0 * 268111856 / 1000000000 in
    let lo : B * 1000000000 ≤ b.0 * 268111856 = omega arith in
    let hi : b.0 * 268111856 ≤ B * 1000000000 + 1000000000 = omega arith in
    let below = mul-le-mul_left k lo in
    let above = mul-le-mul_left k hi in
    record { behind = omega arith; less = omega arith }

-- ---- a timer set at t with a and b nanoseconds, then fired at any ticks: on its grid, and in step while it fits 64 bits
pub set-grid : (a b : Nanos) (t : ℕ) (ticks : List ℕ) → 0 < (nanos_to_ticks b).0 → Fit ticks
    → (k : ℕ)
    × Least (Passes (t + (nanos_to_ticks a).0) (nanos_to_ticks b).0 ticks) k
    × (fired_dues (nanos_to_ticks b).0 ticks (cut_off (t + (nanos_to_ticks a).0)) ≡ on_grid (t + (nanos_to_ticks a).0) (nanos_to_ticks b).0 k)
    × InStep a.0 b.0 k (t + (nanos_to_ticks a).0 + k * (nanos_to_ticks b).0 - t)
set-grid a b t ticks pos f =
    let g = grid (t + (nanos_to_ticks a).0) (nanos_to_ticks b).0 pos ticks f in
    (g.0, g.1, g.2, in_step a b g.0 t (t + (nanos_to_ticks a).0 + g.0 * (nanos_to_ticks b).0) refl)
