-- The only runnable thread of the least priority number is the first pick, whoever is current.
use Rattle.std.specs.Prelude.{◌≡◌, Bool, List, [], ◌∷◌, eqb, leb, ltb, Option, Some, None}
use Rattle.std.proofs.Math.Path.{refl}
use Rattle.std.proofs.Common.{ap, sym, ◌∙◌, inl, inr, arith, eqb-true, eq-eqb, leb-true, ltb-false}
use Rattle.std.proofs.Math.Bool.{true, false}
use Prim.Native.Nat.{ℕ, zero, suc, ◌+◌, ◌≤◌, ◌<◌}
use Rattle.std.proofs.lemmas.Bool.{lt-leb}
use Rattle.laws.specs.Logic.{pick, and-true, true-and, false-true, pick_no}
use Rattle.laws.specs.Count.{ind-cases}
use Rattle.types.specs.declared.thread.Thread.{Thread}
use Rattle.sound.specs.View.{thread_at}
use Rattle.thread.specs.Threads.{least}
use Rattle.thread.specs.Marks.{least-le}
use Rattle.pass.specs.Pick.{is_runnable, better, least_priority, best, runs_at, first_from, or_else, start_after, cyclic, keeps_core, pick_next}
use Rattle.demand.specs.Words.{Lowest}
use Rattle.passing.specs.Picks.{Meets, meets_first, can_run, running_runs}

-- a table that says the same of who can run and how urgent they are
pub lowest_as : (bs cs ts : List Thread) (w : ℕ) → ((i : ℕ) → can_run ts i ≡ can_run cs i) → ((i : ℕ) → (thread_at ts i).priority ≡ (thread_at bs i).priority) → Lowest bs cs w → Lowest ts ts w
lowest_as bs cs ts w r p h = record {
  can = r w ∙ h.can;
  below = λ i e n. omega (arith, h.below i (sym (r i) ∙ e) n, p w, p i);
}

-- ---- the least number
least_first : (a b : ℕ) → least a b ≤ a
least_first a b = go (ltb a b) refl
  where
    go : (t : Bool) → ltb a b ≡ t → pick t a b ≤ a
    go true e = omega arith
    go false e = omega (arith, ltb-false a b e)

least-both : (a b p : ℕ) → p ≤ a → p ≤ b → p ≤ least a b
least-both a b p h l = go (ltb a b)
  where
    go : (t : Bool) → p ≤ pick t a b
    go true = h
    go false = l

better-le : (b : ℕ) (t : Thread) → better b t ≤ b
better-le b t = go (is_runnable t.status)
  where
    go : (q : Bool) → pick q (least t.priority b) b ≤ b
    go true = least-le t.priority b
    go false = omega arith

better-runs : (b : ℕ) (t : Thread) → is_runnable t.status ≡ true → better b t ≤ t.priority
better-runs b t e = rw e (least_first t.priority b)

better-ge : (b : ℕ) (t : Thread) (p : ℕ) → p ≤ b → (is_runnable t.status ≡ true → p ≤ t.priority) → p ≤ better b t
better-ge b t p h l = go (is_runnable t.status) refl
  where
    go : (q : Bool) → is_runnable t.status ≡ q → p ≤ pick q (least t.priority b) b
    go true e = least-both t.priority b p (l e) h
    go false e = h

least_priority-le : (b : ℕ) (ts : List Thread) → least_priority b ts ≤ b
unfolding least_priority
least_priority-le b [] = omega arith
least_priority-le b (t ∷ ts) = omega (arith, least_priority-le (better b t) ts, better-le b t)

least_priority-runs : (b : ℕ) (ts : List Thread) (i : ℕ) → can_run ts i ≡ true → least_priority b ts ≤ (thread_at ts i).priority
unfolding least_priority
least_priority-runs b [] i e = false-true e
least_priority-runs b (t ∷ ts) zero e = omega (arith, least_priority-le (better b t) ts, better-runs b t e)
least_priority-runs b (t ∷ ts) (suc i) e = least_priority-runs (better b t) ts i e

least_priority-ge : (b : ℕ) (ts : List Thread) (p : ℕ) → p ≤ b → ((i : ℕ) → can_run ts i ≡ true → p ≤ (thread_at ts i).priority) → p ≤ least_priority b ts
unfolding least_priority
least_priority-ge b [] p h l = h
least_priority-ge b (t ∷ ts) p h l = least_priority-ge (better b t) ts p (better-ge b t p h (λ e. l 0 e)) (λ i. l (suc i))

-- ---- the first of a test that only w meets
module _ (f : ℕ → Bool) (w : ℕ) (holds : f w ≡ true) (only : (i : ℕ) → f i ≡ true → i ≡ w) where
  first_if : (n i : ℕ) → i ≤ w → w < i + suc n → (suc i ≤ w → first_from f n (suc i) ≡ Some w) → (q : Bool) → f i ≡ q
      → pick q (Some i) (first_from f n (suc i)) ≡ Some w
  first_if n i a b next true e = ap Some (only i e)
  first_if n i a b next false e = elim (ind-cases i w) [ inl h ↦ false-true (sym e ∙ ap f h.0 ∙ holds) | inr h ↦ next (omega (arith, h.0)) ]

  first-only : (n i : ℕ) → i ≤ w → w < i + n → first_from f n i ≡ Some w
  unfolding first_from
  first-only zero i a b = absurd (omega arith)
  first-only (suc n) i a b = first_if n i a b (λ l. first-only n (suc i) l (omega arith)) (f i) refl

  else_only : (a b : Option ℕ) → Meets f a → b ≡ Some w → or_else a b ≡ Some w
  else_only None b m e = e
  else_only (Some i) b m e = ap Some (only i m)

-- ---- the first pick
module _ (ts : List Thread) (w : ℕ) (place : w < 32) (small : (thread_at ts w).priority ≤ 63) (h : Lowest ts ts w) where
  best-is : best ts ≡ (thread_at ts w).priority
  best-is =
      omega (
        arith,
        least_priority-runs 64 ts w h.can,
        least_priority-ge 64 ts (thread_at ts w).priority (omega arith)
            (λ i e. elim (ind-cases i w) [ inl q ↦ rw q.0 (omega arith) | inr q ↦ omega (arith, h.below i e q.0) ]),
      )

  only_one : (i : ℕ) → runs_at ts (best ts) i ≡ true → i ≡ w
  only_one i e =
      elim (ind-cases i w) [
        | inl q ↦ q.0
        | inr q ↦ absurd (omega (arith, best-is, eqb-true (thread_at ts i).priority (best ts) (and-true _ _ e).1, h.below i (and-true _ _ e).0 q.0))
      ]

  runs-one : runs_at ts (best ts) w ≡ true
  runs-one = true-and (can_run ts w) (eqb (thread_at ts w).priority (best ts)) h.can (eq-eqb (thread_at ts w).priority (best ts) (sym best-is))

  cyclic-one : (start : ℕ) → cyclic ts (best ts) start ≡ Some w
  cyclic-one start =
      else_only (runs_at ts (best ts)) w runs-one only_one (first_from (runs_at ts (best ts)) 32 start) (first_from (runs_at ts (best ts)) 32 0) (meets_first (runs_at ts (best ts)) 32 start)
      (first-only (runs_at ts (best ts)) w runs-one only_one 32 0 (omega arith) (omega arith))

  keeps-one : (c : Option ℕ) → keeps_core ts c (best ts) ≡ true → c ≡ Some w
  keeps-one None e = false-true e
  keeps-one (Some c) e =
      elim (ind-cases c w) [
        | inl q ↦ ap Some q.0
        | inr q ↦ absurd (omega (arith, best-is, leb-true (thread_at ts c).priority (best ts) (and-true _ _ e).1, h.below c (running_runs (thread_at ts c).status (and-true _ _ e).0) q.0))
      ]

  pub lowest-picked : (c : Option ℕ) → pick_next ts c ≡ Some w
  unfolding pick_next
  lowest-picked c = pick_no (leb 64 (best ts)) None _ (lt-leb 64 (best ts) (omega (arith, best-is)))
      ∙ go (keeps_core ts c (best ts)) refl
    where
      go : (q : Bool) → keeps_core ts c (best ts) ≡ q → pick q c (cyclic ts (best ts) (start_after c)) ≡ Some w
      go true e = keeps-one c e
      go false e = cyclic-one (start_after c)
