-- One turn of each loop, and places that no thread has. Assumes nothing.
use Rattle.std.specs.Prelude.{Option, Some, None}
use mathlib.Core.Path.{◌≡◌, refl, sym, ◌∙◌}
use mathlib.Core.Bool.{Bool, true, false, not}
use mathlib.Core.List.{List}
use Prim.Native.Nat.{ℕ, zero, suc, ◌+◌, ◌-◌, ◌≤◌, ◌<◌}
use native.Mathlib.Numerals.{add-one}
use native.Mathlib.Omega.{arith}
use lib.ListN.{length, get_or, drop, drop_of_length-le}
use lib.Seq.{drop-cons}
use Rattle.laws.specs.Logic.{pick, ◌and◌, ◌or◌, or_yes, or_no}
use Rattle.types.specs.declared.thread.Thread.{Thread}
use Rattle.sound.specs.View.{no_thread, thread_at-out}
use Rattle.sound.specs.Threads.{is_current}
use Rattle.pass.specs.Pick.{is_runnable, others_from, better, least_priority, runs_at, first_from, keeps_core, stands, more_urgent, other_from}

-- ---- the least priority
module _ (ts : List Thread) (i b : ℕ) where
  pub best_more : i < length ts → least_priority (better b (get_or ts i no_thread)) (drop (i + 1) ts) ≡ least_priority b (drop i ts)
  unfolding least_priority
  best_more h = rw (drop-cons ts i no_thread h, add-one)

  pub best_end : length ts ≤ i → b ≡ least_priority b (drop i ts)
  unfolding least_priority
  best_end h = rw (drop_of_length-le ts h)

-- ---- another thread that is ready
module _ (c : Option ℕ) (ts : List Thread) (i : ℕ) where
  abbrev ready : Bool
  ready = not (is_current c i) and is_runnable (get_or ts i no_thread).status

  step : i < length ts → others_from c i (drop i ts) ≡ ready or others_from c (i + 1) (drop (i + 1) ts)
  unfolding others_from
  step h = rw (drop-cons ts i no_thread h, add-one)

  pub others_hit : i < length ts → ready ≡ true → others_from c i (drop i ts) ≡ true
  others_hit h e = step h ∙ or_yes _ _ e

  pub others_miss : i < length ts → ready ≡ false → others_from c (i + 1) (drop (i + 1) ts) ≡ others_from c i (drop i ts)
  others_miss h e = sym (step h ∙ or_no _ _ e)

  pub others_end : length ts ≤ i → others_from c i (drop i ts) ≡ false
  unfolding others_from
  others_end h = rw (drop_of_length-le ts h)

-- ---- the first with a priority
runs-far : (ts : List Thread) (p i : ℕ) → length ts ≤ i → runs_at ts p i ≡ false
unfolding ◌and◌
runs-far ts p i h = rw (thread_at-out ts i h)

-- past the places there is none
pub first-far : (ts : List Thread) (p n i : ℕ) → length ts ≤ i → first_from (runs_at ts p) n i ≡ None
unfolding first_from
first-far ts p zero i h = refl
first-far ts p (suc n) i h = rw (runs-far ts p i h) (first-far ts p n (suc i) (omega arith))

pub keeps_far : (ts : List Thread) (t p : ℕ) → length ts ≤ t → keeps_core ts (Some t) p ≡ false
unfolding ◌and◌
keeps_far ts t p h = rw (thread_at-out ts t h)

-- ---- the stand-in
module _ (ts : List Thread) (chosen p : ℕ) (b : Option ℕ) (i : ℕ) where
  other-step : i < 32 → other_from ts chosen p b (32 - i) i ≡ other_from ts chosen p (pick (stands ts chosen p i) (more_urgent ts b i) b) (32 - (i + 1)) (i + 1)
  unfolding other_from
  other-step h = let e : 32 - i ≡ suc (32 - (i + 1)) = omega arith in rw (e, add-one)

  pub other_stands : i < 32 → stands ts chosen p i ≡ true → other_from ts chosen p (more_urgent ts b i) (32 - (i + 1)) (i + 1) ≡ other_from ts chosen p b (32 - i) i
  other_stands h e = sym (other-step h ∙ rw e)

  pub other_passed : i < 32 → stands ts chosen p i ≡ false → other_from ts chosen p b (32 - (i + 1)) (i + 1) ≡ other_from ts chosen p b (32 - i) i
  other_passed h e = sym (other-step h ∙ rw e)

  pub other_end : 32 ≤ i → b ≡ other_from ts chosen p b (32 - i) i
  unfolding other_from
  other_end h = let e : 32 - i ≡ 0 = omega arith in rw e
