-- The cyclic find as it is computed: place after place, from the last one on to the first. Assumes nothing.
use Rattle.std.specs.Prelude.{Option, Some, None}
use mathlib.Core.Path.{◌≡◌, refl, ap, ap₂, sym, ◌∙◌}
use mathlib.Core.Bool.{Bool, true, false}
use mathlib.Core.List.{List}
use Prim.Native.Nat.{ℕ, zero, suc, ◌+◌, ◌-◌, ◌%◌, ◌≤◌, ◌<◌}
use native.Mathlib.Nat.{zero-add, mod-eq_of_lt, add-mod_right}
use native.Mathlib.Numerals.{add-one}
use native.Mathlib.Omega.{arith}
use lib.Dec.{ltb}
use borrow.Author.Tests.{ltb-false}
use lib.ListN.{length}
use Rattle.std.proofs.lemmas.Grind.{common_steps}
use Rattle.laws.specs.Logic.{pick, pick_yes, pick_no}
use Rattle.types.specs.declared.thread.Thread.{Thread}
use Rattle.thread.specs.Threads.{least}
use Rattle.pass.specs.Pick.{runs_at, first_from, or_else, cyclic}
use Rattle.pick.proofs.Steps.{first-far}

-- of a row of n places, the first place from start + k on that passes the test, m places looked at
pub turns : (ℕ → Bool) → ℕ → ℕ → ℕ → ℕ → Option ℕ
turns test n start zero k = None
turns test n start (suc m) k = pick (test ((start + k) % n)) (Some ((start + k) % n)) (turns test n start m (suc k))

pub turns-step : (test : ℕ → Bool) (n start m k : ℕ) → k < m → turns test n start (m - k) k ≡ pick (test ((start + k) % n)) (Some ((start + k) % n)) (turns test n start (m - (k + 1)) (k + 1))
unfolding turns
turns-step test n start m k h = let e : m - k ≡ suc (m - (k + 1)) = omega arith in rw (e, add-one)

pub turns-end : (test : ℕ → Bool) (n start m k : ℕ) → m ≤ k → turns test n start (m - k) k ≡ None
unfolding turns
turns-end test n start m k h = let e : m - k ≡ 0 = omega arith in rw e

-- ---- a find in two parts
found_first : (b : Bool) (i : ℕ) (x y : Option ℕ) → pick b (Some i) (or_else x y) ≡ or_else (pick b (Some i) x) y
found_first true i x y = refl
found_first false i x y = refl

module _ (test : ℕ → Bool) where
  first_split : (a m i : ℕ) → first_from test (a + m) i ≡ or_else (first_from test a i) (first_from test m (i + a))
  unfolding first_from
  first_split zero m i = let e : zero + m ≡ m = omega arith in let f : i + zero ≡ i = omega arith in rw (e, f)
  first_split (suc a) m i =
      let e : suc a + m ≡ suc (a + m) = omega arith in
      let f : i + suc a ≡ suc i + a = omega arith in
      rw (e, f) (ap (pick (test i) (Some i)) (first_split a m (suc i)) ∙ found_first (test i) i (first_from test a (suc i)) (first_from test m (suc i + a)))

  module _ (n start : ℕ) where
    abbrev at : ℕ → ℕ
    at k = (start + k) % n

    turns_split : (a m k : ℕ) → turns test n start (a + m) k ≡ or_else (turns test n start a k) (turns test n start m (k + a))
    unfolding turns
    turns_split zero m k = let e : zero + m ≡ m = omega arith in let f : k + zero ≡ k = omega arith in rw (e, f)
    turns_split (suc a) m k =
        let e : suc a + m ≡ suc (a + m) = omega arith in
        let f : k + suc a ≡ suc k + a = omega arith in
        rw (e, f) (ap (pick (test (at k)) (Some (at k))) (turns_split a m (suc k)) ∙ found_first (test (at k)) (at k) (turns test n start a (suc k)) (turns test n start m (suc k + a)))

    -- the places up to the row's end
    turns-before : (m k : ℕ) → start + k + m ≤ n → turns test n start m k ≡ first_from test m (start + k)
    unfolding turns first_from
    turns-before zero k h = refl
    turns-before (suc m) k h =
        let e : at k ≡ start + k = mod-eq_of_lt (omega arith) in
        let s : start + suc k ≡ suc (start + k) = omega arith in
        let t : turns test n start m (suc k) ≡ first_from test m (suc (start + k)) = turns-before m (suc k) (omega arith) ∙ ap (first_from test m) s in
        rw (e, t)

    -- and those from the first on
    turns-after : (m k i : ℕ) → start + k ≡ i + n → i + m ≤ start → start ≤ n → turns test n start m k ≡ first_from test m i
    unfolding turns first_from
    turns-after zero k i h b c = refl
    turns-after (suc m) k i h b c =
        let e : at k ≡ i = ap (λ (x : ℕ). x % n) h ∙ add-mod_right i n ∙ mod-eq_of_lt (omega arith) in
        let t : turns test n start m (suc k) ≡ first_from test m (suc i) = turns-after m (suc k) (suc i) (omega arith) (omega arith) c in
        rw (e, t)

-- what was looked over first need not be looked over again
twice : (x y : Option ℕ) → or_else x y ≡ or_else x (or_else y x)
twice (Some t) y = refl
twice None (Some t) = refl
twice None None = refl

with_none : (x : Option ℕ) → or_else x None ≡ x
with_none (Some t) = refl
with_none None = refl

module _ (ts : List Thread) (p : ℕ) where
  abbrev test : ℕ → Bool
  test = runs_at ts p

  -- of the 32 places from i on only those of the row count
  first-row : (i a : ℕ) → i + a ≡ length ts → a ≤ 32 → first_from test 32 i ≡ first_from test a i
  first-row i a h b =
      let e : 32 ≡ a + (32 - a) = omega arith in
      ap (λ (m : ℕ). first_from test m i) e ∙ first_split test a (32 - a) i ∙ ap (or_else (first_from test a i)) (first-far ts p (32 - a) (i + a) (omega arith)) ∙ with_none (first_from test a i)

  -- a turn for each place of the row
  pub turns-cyclic : (start : ℕ) → start ≤ length ts → length ts ≤ 32 → turns test (length ts) start (length ts) 0 ≡ cyclic ts p start
  turns-cyclic start b c =
      let n = length ts in
      let a = n - start in
      let e : n ≡ a + start = omega arith in
      let f : n ≡ start + a = omega arith in
      let z : start + 0 ≡ start = omega arith in
      let x : turns test n start a 0 ≡ first_from test a start = turns-before test n start a 0 (omega arith) ∙ ap (first_from test a) z in
      let y : turns test n start start (0 + a) ≡ first_from test start 0 = turns-after test n start start (0 + a) 0 (omega arith) (omega arith) b in
      let u : first_from test 32 start ≡ first_from test a start = first-row start a (sym f) (omega arith) in
      let v : first_from test 32 0 ≡ or_else (first_from test start 0) (first_from test a start) =
      first-row 0 n (zero-add n) c ∙ ap (λ (m : ℕ). first_from test m 0) f ∙ first_split test start a 0 ∙ ap (λ (i : ℕ). or_else (first_from test start 0) (first_from test a i)) (zero-add start) in
      ap (λ (m : ℕ). turns test n start m 0) e ∙ turns_split test n start a start 0 ∙ ap₂ or_else x y
      ∙ twice (first_from test a start) (first_from test start 0) ∙ sym (ap₂ or_else u v)

  -- a start past the places is as good as the one after the last
  pub cyclic-cut : (start : ℕ) → length ts ≡ 32 → cyclic ts p (least start 32) ≡ cyclic ts p start
  cyclic-cut start n = go (ltb start 32) refl
    where
      go : (b : Bool) → ltb start 32 ≡ b → cyclic ts p (pick b start 32) ≡ cyclic ts p start
      go true e = refl
      go false e = ap (λ (x : Option ℕ). or_else x (first_from test 32 0))
          (first-far ts p 32 32 (omega (arith, n)) ∙ sym (first-far ts p 32 start (omega (arith, n, ltb-false start 32 e))))

pub ruleset finds = (common_steps, pick_yes, pick_no, turns-step, turns-end, cyclic-cut)
