-- The due tick of a timer that is fired at any ticks: on a grid, however late it is fired.
use Rattle.std.specs.Prelude.{◌≡◌, refl, Bool, true, false, ℕ, ◌+◌, ◌-◌, ◌*◌, ◌/◌, ◌≤◌, ◌<◌, min, leb, ltb, Option}
use Rattle.std.specs.Prelude.{Some, None}
use Rattle.std.proofs.Math.Path.{ap}
use Rattle.std.proofs.Common.{sym, subst, ◌∙◌, inl, inr, arith, div-mul-le_self, lt_of_mul-lt-mul_right, leb-true, leb-false, ltb-true, ltb-false, lt-ltb, le-leb}
use mathlib.Core.List.{List, [], ◌∷◌}
use Rattle.std.proofs.Math.Nat.{lt-div-mul-add, mul-le-mul_right}
use Rattle.std.proofs.lemmas.Bool.{lt-leb}
use Rattle.laws.specs.Logic.{pick, pick_yes, pick_no, ◌or◌, lt-cases}
use Rattle.laws.specs.All.{All}
use Rattle.units.specs.declared.Ticks.{Ticks}
use Rattle.thread.specs.Threads.{least}
use Rattle.pass.specs.Timers.{max_tick, saturating_add, saturating_mul, due_again}
use Rattle.demand.specs.Words.{cut_off, Passes, Least, reached}

-- ---- the due tick after timers were fired at a tick, and at each of a list
abbrev pub fired_due : ℕ → ℕ → Option Ticks → Option Ticks
fired_due interval tick None = None
fired_due interval tick (Some at) = pick (leb at.0 tick) (due_again at.0 interval tick) (Some at)

unfoldable pub fired_dues : ℕ → List ℕ → Option Ticks → Option Ticks
fired_dues interval [] due = due
fired_dues interval (tick ∷ ticks) due = fired_dues interval ticks (fired_due interval tick due)

-- the point k of the grid from x in steps of B
abbrev pub on_grid : ℕ → ℕ → ℕ → Option Ticks
on_grid x B k = cut_off (x + k * B)

-- 64 bits
abbrev pub Fit : List ℕ → Type 0
Fit ticks = All (λ tick. tick ≤ max_tick) ticks

-- ---- sums that saturate
pub least-min : (a b : ℕ) → least a b ≡ min a b
least-min a b = go (ltb a b) refl
  where
    go : (t : Bool) → ltb a b ≡ t → pick t a b ≡ min a b
    go true e = omega (arith, ltb-true a b e)
    go false e = omega (arith, ltb-false a b e)

saturated : (a b : ℕ) → saturating_add a (least b max_tick) ≡ least (a + b) max_tick
saturated a b = omega (arith, least-min (a + least b max_tick) max_tick, least-min b max_tick, least-min (a + b) max_tick)

-- ---- one firing
module _ (x B : ℕ) (pos : 0 < B) (P : ℕ → Type 0) (mono : (k j : ℕ) → k ≤ j → P k → P j) (k tick : ℕ) (fit : tick ≤ max_tick) (h : Least P k) where
  -- the point after timers were fired at the tick
  abbrev Next : Option Ticks → Type 0
  Next due = (k' : ℕ) × Least (λ j. (tick < x + j * B) × P j) k' × (due ≡ on_grid x B k')

  stay : tick < x + k * B → Next (on_grid x B k)
  stay p = (k, record { holds = (p, h.holds); least = λ j q. h.least j q.1 }, refl)

  abbrev periods : ℕ
  periods = (tick - (x + k * B)) / B

  go_on : x + k * B ≤ tick → Next (due_again (x + k * B) B tick)
  go_on p =
      let q : ℕ = periods in
      let a : tick - (x + k * B) < q * B + B = lt-div-mul-add pos in
      let b : q * B ≤ tick - (x + k * B) = div-mul-le_self _ B in
      let e : x + k * B + B * (q + 1) ≡ x + (k + q + 1) * B = omega arith in (
        k + q + 1,
        record {
          holds = (omega arith, mono k (k + q + 1) (omega arith) h.holds);
          least = λ j r. let c : k + q < j = lt_of_mul-lt-mul_right B (omega (arith, r.0)) in omega arith;
        },
        pick_yes (ltb 0 B) _ None (lt-ltb 0 B pos)
            ∙ ap (λ (n : ℕ). Some (record { 0 = n }))
            (saturated (x + k * B) (B * (q + 1)) ∙ ap (λ (n : ℕ). least n max_tick) e),
      )

  -- past 64 bits it stays at the last tick
  last : max_tick < x + k * B → Next (due_again (least (x + k * B) max_tick) B tick)
  last p =
      let d : ℕ = least (x + k * B) max_tick in
      let m : ℕ = saturating_mul B ((tick - d) / B + 1) in
      let e : saturating_add d m ≡ d = omega (arith, least-min (d + m) max_tick, least-min (x + k * B) max_tick) in
      let n = stay (omega arith) in
      (n.0, n.1, pick_yes (ltb 0 B) _ None (lt-ltb 0 B pos) ∙ ap (λ (a : ℕ). Some (record { 0 = a })) e ∙ n.2)

  fire-at : (b : Bool) → leb (least (x + k * B) max_tick) tick ≡ b → Next (pick b (due_again (least (x + k * B) max_tick) B tick) (on_grid x B k))
  fire-at false e = stay (omega (arith, leb-false (least (x + k * B) max_tick) tick e, least-min (x + k * B) max_tick))
  fire-at true e =
      elim (lt-cases max_tick (x + k * B)) [
        | inl p ↦ last p
        | inr p ↦
            let d : least (x + k * B) max_tick ≡ x + k * B = omega (arith, least-min (x + k * B) max_tick) in
            subst (λ (a : ℕ). Next (due_again a B tick)) (sym d) (go_on (omega (arith, leb-true (least (x + k * B) max_tick) tick e)))
      ]

  fire-step : Next (fired_due B tick (on_grid x B k))
  fire-step = fire-at (leb (least (x + k * B) max_tick) tick) refl

-- ---- any number of firings, at ticks in any order: the point is the least that passes every tick
module _ (x B : ℕ) (pos : 0 < B) where
  grid-from : (P : ℕ → Type 0) → ((k j : ℕ) → k ≤ j → P k → P j) → (k : ℕ) (ticks : List ℕ) → Fit ticks → Least P k
      → (k' : ℕ) × Least (λ j. Passes x B ticks j × P j) k' × (fired_dues B ticks (on_grid x B k) ≡ on_grid x B k')
  unfolding fired_dues
  grid-from P mono k [] f h = (k, record { holds = (tt, h.holds); least = λ j p. h.least j p.1 }, refl)
  grid-from P mono k (tick ∷ ticks) f h =
      let n = fire-step x B pos P mono k tick f.0 h in
      let r = grid-from (λ j. (tick < x + j * B) × P j) (λ a b l p. (omega (arith, p.0, mul-le-mul_right B l), mono a b l p.1)) n.0 ticks f.1 n.1 in (
        r.0,
        record {
          holds = ((r.1.holds.1.0, r.1.holds.0), r.1.holds.1.1);
          least = λ j p. r.1.least j (p.0.1, (p.0.0, p.1));
        },
        ap (fired_dues B ticks) n.2 ∙ r.2,
      )

  first_point : on_grid x B 0 ≡ cut_off x
  first_point = let e : x + 0 * B ≡ x = omega arith in ap cut_off e

  pub grid : (ticks : List ℕ) → Fit ticks → (k : ℕ) × Least (Passes x B ticks) k × (fired_dues B ticks (cut_off x) ≡ on_grid x B k)
  grid ticks f =
      let r = grid-from (λ j. Unit {0}) (λ a b l p. tt) 0 ticks f (record { holds = tt; least = λ j p. omega arith }) in
      (r.0, record { holds = r.1.holds.0; least = λ j p. r.1.least j (p, tt) }, ap (fired_dues B ticks) (sym first_point) ∙ r.2)

  -- one firing
  pub grid-once : (tick : ℕ) → tick ≤ max_tick → (k : ℕ) × Least (λ j. tick < x + j * B) k × (fired_due B tick (cut_off x) ≡ on_grid x B k)
  unfolding fired_dues
  grid-once tick f =
      let r = grid (tick ∷ []) (f, tt) in
      (r.0, record { holds = r.1.holds.0; least = λ j p. r.1.least j (p, tt) }, r.2)

-- ---- a tick before the due one changes nothing
pub early-due : (B tick : ℕ) (at : Ticks) → tick < at.0 → fired_due B tick (Some at) ≡ Some at
early-due B tick at l = pick_no (leb at.0 tick) _ (Some at) (lt-leb at.0 tick l)

-- ---- with an interval of 0 the first tick at or after the due one is the last firing
pub once-due : (tick : ℕ) (at : Ticks) → at.0 ≤ tick → fired_due 0 tick (Some at) ≡ None
once-due tick at l = pick_yes (leb at.0 tick) _ (Some at) (le-leb at.0 tick l)

pub none-due : (B : ℕ) (ticks : List ℕ) → fired_dues B ticks None ≡ None
unfolding fired_dues
none-due B [] = refl
none-due B (tick ∷ ticks) = none-due B ticks

pub once : (ticks : List ℕ) (at : Ticks) → fired_dues 0 ticks (Some at) ≡ pick (reached at.0 ticks) None (Some at)
unfolding fired_dues reached ◌or◌
once [] at = refl
once (tick ∷ ticks) at = go (leb at.0 tick) (once ticks at)
  where
    go : (b : Bool) → fired_dues 0 ticks (Some at) ≡ pick (reached at.0 ticks) None (Some at)
        → fired_dues 0 ticks (pick b None (Some at)) ≡ pick (b or reached at.0 ticks) None (Some at)
    go true e = none-due 0 ticks
    go false e = e
