-- A timer keeps to its grid after every operation that leaves it alone.
use Rattle.std.specs.Prelude.{◌≡◌, Bool, List, [], ◌∷◌, ◌++◌, ℕ, zero, suc, ◌+◌, ◌*◌, ◌-◌, ◌≤◌, ◌<◌, None}
use Rattle.std.proofs.Math.Path.{refl, ap}
use Rattle.std.proofs.Common.{sym, subst, ◌∙◌, arith}
use Rattle.std.proofs.Math.Bool.{true, false}
use Rattle.laws.specs.Logic.{pick, ◌and◌, false-true}
use Rattle.units.specs.Ticks.{nanos_to_ticks}
use Rattle.types.specs.declared.object.ObjectStore.{ObjectStore}
use Rattle.types.specs.declared.kernel.Kernel.{Kernel}
use Rattle.sound.specs.View.{object_at, slot_at}
use Rattle.sound.specs.Sound.{Sound}
use Rattle.soundness.specs.Whole.{sound-parts}
use Rattle.kernel.specs.NextEvent.{due_of}
use Rattle.thread.specs.Threads.{least}
use Rattle.pass.specs.Timers.{max_tick}
use Rattle.svc.specs.Dispatch.{given}
use Rattle.demand.specs.Words.{Doing, starts, creates, passes, looks, ends, calls, collects, Event, is_timer, resets?, fires?, fires_at, fired_by, Open, cut_off, Passes, Least, InStep, reached, OnGrid, Grid}
use Rattle.timing.specs.Grid.{fired_dues, Fit, once}
use Rattle.timing.specs.Drift.{set-grid}
use Rattle.timing.specs.Clock.{Clock, clock_at}
use Rattle.timing.specs.Fires.{fired_clocks, clocks_due}
use Rattle.timing.specs.Keeps.{create-keeps, end-keeps, pass-clock, handle_kind}
use Rattle.clocks.specs.Threads.{collect-objects}
use Rattle.clocks.specs.Call.{call-clock}
use Rattle.course.specs.Read.{resets-read}
use Rattle.course.specs.Course.{effect, Asked, Course, event}

-- ---- ticks fired at, one after the other
clocks_then : (us vs : List ℕ) (c : Clock) → fired_clocks (us ++ vs) c ≡ fired_clocks vs (fired_clocks us c)
unfolding fired_clocks
clocks_then [] vs c = refl
clocks_then (u ∷ us) vs c = clocks_then us vs _

fit_then : (us vs : List ℕ) → Fit us → Fit vs → Fit (us ++ vs)
fit_then [] vs a b = b
fit_then (u ∷ us) vs a b = (a.0, fit_then us vs a.1 b)

-- ---- the clock says the grid's due
on-grid : (t a b : ℕ) (ticks : List ℕ) → Fit ticks
    → OnGrid t a b ticks (fired_dues (nanos_to_ticks (record { 0 = b })).0 ticks (cut_off (t + (nanos_to_ticks (record { 0 = a })).0)))
on-grid t a b ticks f = record {
  repeats = λ A B p q pos.
      let g = set-grid (record { 0 = a }) (record { 0 = b }) t ticks (subst (λ (n : ℕ). 0 < n) (sym q) pos) f in
      subst (λ (n : ℕ). (k : ℕ) × Least (Passes (t + n) B ticks) k × (fired_dues (nanos_to_ticks (record { 0 = b })).0 ticks (cut_off (t + (nanos_to_ticks (record { 0 = a })).0)) ≡ cut_off (t + n + k * B)) × (t + n + k * B ≤ max_tick → InStep a b k (t + n + k * B - t))) p
      (subst (λ (m : ℕ). (k : ℕ) × Least (Passes (t + (nanos_to_ticks (record { 0 = a })).0) m ticks) k × (fired_dues (nanos_to_ticks (record { 0 = b })).0 ticks (cut_off (t + (nanos_to_ticks (record { 0 = a })).0)) ≡ cut_off (t + (nanos_to_ticks (record { 0 = a })).0 + k * m)) × (t + (nanos_to_ticks (record { 0 = a })).0 + k * m ≤ max_tick → InStep a b k (t + (nanos_to_ticks (record { 0 = a })).0 + k * m - t))) q
      (g.0, g.1, g.2, λ h. g.3));
  single = λ A p q.
      subst (λ (n : ℕ). fired_dues (nanos_to_ticks (record { 0 = b })).0 ticks
      (cut_off (t + (nanos_to_ticks (record { 0 = a })).0)) ≡ pick (reached (least (t + n) max_tick) ticks) None
      (cut_off (t + n))) p
      (subst (λ (m : ℕ). fired_dues m ticks (cut_off (t + (nanos_to_ticks (record { 0 = a })).0)) ≡ pick
      (reached (least (t + (nanos_to_ticks (record { 0 = a })).0) max_tick) ticks) None
      (cut_off (t + (nanos_to_ticks (record { 0 = a })).0))) (sym q)
      (once ticks (record { 0 = least (t + (nanos_to_ticks (record { 0 = a })).0) max_tick })));
}

abbrev pub clock_set : ℕ → ℕ → ℕ → Clock
clock_set t a b = record { kind = 5; due = cut_off (t + (nanos_to_ticks (record { 0 = a })).0); interval = (nanos_to_ticks (record { 0 = b })).0 }

-- a clock that was set and fired since is on its grid
pub clock-grid : (t a b : ℕ) (ticks : List ℕ) (s : ObjectStore) (o : ℕ) → Fit ticks → clock_at s o ≡ fired_clocks ticks (clock_set t a b) → OnGrid t a b ticks (due_of (object_at s o))
clock-grid t a b ticks s o f e =
    subst (OnGrid t a b ticks) (sym (ap (λ (c : Clock). c.due) (e ∙ clocks_due ticks (clock_set t a b)))) (on-grid t a b ticks f)

-- there is no object 0
pub timer_place : (s : ObjectStore) (o : ℕ) → is_timer (object_at s o) ≡ true → 0 < o
unfolding slot_at
timer_place s zero e = false-true e
timer_place s (suc o) e = omega arith

-- ---- one operation
module _ (o : ℕ) (z : 0 < o) (k : Kernel) (s : Sound k) (h : Open o k) where
  did : (d : Doing) → Asked d k → Sound (effect d k) → Open o (effect d k) → resets? o d k ≡ false → clock_at (effect d k).objects o ≡ fired_clocks (fires_at d) (clock_at k.objects o)
  unfolding fired_clocks
  did (starts word) a q p r = false-true (sym r)
  did (creates entry stack priority processor) a q p r = create-keeps k entry stack priority processor o (handle_kind _ (sound-parts _ q) o z p)
  did (passes tick) a q p r = pass-clock k tick o (handle_kind _ (sound-parts _ q) o z p)
  did looks a q p r = refl
  did (ends t) a q p r = end-keeps k t o (handle_kind _ (sound-parts _ q) o z p)
  did (calls number r words tick) a q p e = call-clock number k (given number r) words tick o a.0 a.1 q z h p (resets-read number r words tick o k ∙ e)
  did collects a q p r = ap (λ (x : ObjectStore). clock_at x o) (collect-objects k)

  fits-did : (d : Doing) → Asked d k → Fit (fires_at d)
  fits-did (starts word) a = tt
  fits-did (creates entry stack priority processor) a = tt
  fits-did (passes tick) a = (omega (arith, a.1), tt)
  fits-did looks a = tt
  fits-did (ends t) a = tt
  fits-did (calls number r words tick) a = go (fires? number)
    where
      go : (q : Bool) → Fit (pick q (tick ∷ []) [])
      go true = (omega (arith, a.2), tt)
      go false = tt
  fits-did collects a = tt

  clock_as : (a : Bool) (d : Doing) (m : Kernel) → (a ≡ false → m ≡ k) → (a ≡ true → Asked d k) → (a ≡ true → m ≡ effect d k) → (a ≡ true → Sound m)
      → Open o m → a and resets? o d k ≡ false → clock_at m.objects o ≡ fired_clocks (fired_by (event a k d m)) (clock_at k.objects o)
  unfolding ◌and◌ fired_clocks
  clock_as false d m r q f v p e = ap (λ (x : Kernel). clock_at x.objects o) (r refl)
  clock_as true d m r q f v p e =
      ap (λ (x : Kernel). clock_at x.objects o) (f refl) ∙ did d (q refl) (subst Sound (f refl) (v refl)) (subst (Open o) (f refl) p) e

  fits_as : (a : Bool) (d : Doing) (m : Kernel) → (a ≡ true → Asked d k) → Fit (fired_by (event a k d m))
  fits_as false d m q = tt
  fits_as true d m q = fits-did d (q refl)

  sound_as : (a : Bool) (m : Kernel) → (a ≡ false → m ≡ k) → (a ≡ true → Sound m) → Sound m
  sound_as false m r v = subst Sound (sym (r refl)) s
  sound_as true m r v = v refl

-- ---- over every list
pub grid-run : (o t a b : ℕ) (ticks : List ℕ) (k : Kernel) (es : List Event) → Course k es → 0 < o → Sound k → Open o k → Fit ticks
    → clock_at k.objects o ≡ fired_clocks ticks (clock_set t a b) → Grid o t a b ticks es
grid-run o t a b ticks k [] c z s h f e = tt
grid-run o t a b ticks k (v ∷ es) c z s h f e = λ l.
    let s' : Sound v.before = subst Sound (sym c.0) s in
    let h' : Open o v.before = subst (Open o) (sym c.0) h in
    let e' : clock_at v.before.objects o ≡ fired_clocks ticks (clock_set t a b) = ap (λ (x : Kernel). clock_at x.objects o) c.0 ∙ e in
    let one : clock_at v.after.objects o ≡ fired_clocks (fired_by v) (clock_at v.before.objects o) =
    clock_as o z v.before s' h' v.accepted v.does v.after c.1.refused c.1.asked c.1.did c.1.sound l.held l.calm in
    let next : clock_at v.after.objects o ≡ fired_clocks (ticks ++ fired_by v) (clock_set t a b) =
    one ∙ ap (fired_clocks (fired_by v)) e' ∙ sym (clocks_then ticks (fired_by v) (clock_set t a b)) in
    let fit : Fit (ticks ++ fired_by v) = fit_then ticks (fired_by v) f (fits_as o z v.before s' h' v.accepted v.does v.after c.1.asked) in (
      clock-grid t a b (ticks ++ fired_by v) v.after.objects o fit next,
      grid-run o t a b (ticks ++ fired_by v) v.after es c.2 z (sound_as o z v.before s' h' v.accepted v.after c.1.refused c.1.sound) l.held fit next,
    )
