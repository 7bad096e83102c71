-- A signal at an address with a mark for each thread: 1 for one that is parked there, 2 for one that it wakes.
use Rattle.std.specs.Prelude.{◌≡◌, Bool, true, false, not, ℕ, suc, ◌+◌, ◌<◌, eqb, ltb, length, get_or, set}
use Rattle.std.proofs.Math.Path.{refl}
use Rattle.std.proofs.Common.{sym, ◌∙◌, inl, inr, arith, length-append, get_or-set_same, get_or-set_other, eq-eqb}
use Rattle.std.proofs.Common.{ne_eqb, eqb-true}
use mathlib.Core.List.{List, [], ◌∷◌, ◌++◌, map}
use Rattle.std.proofs.Math.Decide.{ℕ_discrete}
use Rattle.std.proofs.Math.ListN.{get_or-map, get_or-eq_default}
use Rattle.laws.specs.Logic.{pick, ◌and◌, ◌or◌, and-true, lt-cases, or-true, or-end}
use Rattle.laws.specs.Count.{one?}
use Rattle.types.specs.declared.thread.Thread.{Thread}
use Rattle.types.specs.declared.object.Waiter.{Waiter}
use Rattle.sound.specs.View.{thread_at, no_thread}
use Rattle.kernel.specs.NextEvent.{contains}
use Rattle.object.specs.declared.waiters.Links.{Links}
use Rattle.object.specs.Waiters.{waiter_at, link}
use Rattle.svc.specs.Arbiter.{parked_at, wakes_at, stays_at, woken_by, to_wake, unlink_woken, woken_up, wake_all}

abbrev pub parked_marks : List Thread → ℕ → List ℕ
parked_marks ts a = map (λ (t : Thread). one? (parked_at t a)) ts

-- parked there, and not woken yet
abbrev pub marked : List ℕ → ℕ → Bool
marked p t = eqb (get_or p t 0) 1

-- n are woken so far
abbrev pub more : ℕ → ℕ → Bool
more value n = not (ltb value 2147483648) or ltb n value

abbrev pub wakes_marked : List Waiter → ℕ → ℕ → List ℕ → ℕ → ℕ → Bool
wakes_marked ws a value p n x = let w : Waiter = waiter_at ws x in eqb w.address a and (marked p w.thread and more value n)

abbrev pub stays_marked : List Waiter → ℕ → ℕ → List ℕ → ℕ → ℕ → Bool
stays_marked ws a value p n x = let w : Waiter = waiter_at ws x in not (eqb w.address a) or (marked p w.thread and not (more value n))

abbrev pub marks_by : List Waiter → ℕ → ℕ → List ℕ → ℕ → ℕ → List ℕ
marks_by ws a value p n x = pick (wakes_marked ws a value p n x) (set p (waiter_at ws x).thread 2) p

abbrev pub count_marked : List Waiter → ℕ → ℕ → List ℕ → ℕ → ℕ → ℕ
count_marked ws a value p n x = pick (wakes_marked ws a value p n x) (n + 1) n

unfoldable pub marks_after : List Waiter → ℕ → ℕ → List ℕ → ℕ → List ℕ → List ℕ
marks_after ws a value p n [] = p
marks_after ws a value p n (x ∷ xs) = marks_after ws a value (marks_by ws a value p n x) (count_marked ws a value p n x) xs

unfoldable pub unlink_marked : List Waiter → ℕ → ℕ → List ℕ → ℕ → ℕ → List ℕ → Links
unlink_marked ws a value p n free [] = record { waiters = ws; free = free; head = 0 }
unlink_marked ws a value p n free (x ∷ xs) =
    link (stays_marked ws a value p n x) x (unlink_marked ws a value (marks_by ws a value p n x) (count_marked ws a value p n x) free xs)

-- the threads from number i on
unfoldable pub wake_marked : List ℕ → ℕ → List Thread → List Thread
wake_marked p i [] = []
wake_marked p i (t ∷ ts) = pick (eqb (get_or p i 0) 2) (woken_up t) t ∷ wake_marked p (suc i) ts

-- ---- the marks say which threads are woken
abbrev pub Tells : List Thread → ℕ → List ℕ → List ℕ → Type 0
Tells ts a p woken = (t : ℕ) → get_or p t 0 ≡ pick (contains woken t) 2 (one? (parked_at (thread_at ts t) a))

pub tells-start : (ts : List Thread) (a : ℕ) → Tells ts a (parked_marks ts a) []
unfolding contains ◌and◌
tells-start ts a t = get_or-map (λ (x : Thread). one? (parked_at x a)) ts t no_thread

mark_one : (c k : Bool) → eqb (pick c 2 (one? k)) 1 ≡ k and not c
unfolding ◌and◌
mark_one true true = refl
mark_one true false = refl
mark_one false true = refl
mark_one false false = refl

mark_two : (c k : Bool) → eqb (pick c 2 (one? k)) 2 ≡ c
mark_two true true = refl
mark_two true false = refl
mark_two false true = refl
mark_two false false = refl

contains-end : (l : List ℕ) (t u : ℕ) → contains (l ++ (t ∷ [])) u ≡ contains l u or eqb t u
unfolding contains ◌or◌
contains-end [] t u = go (eqb t u)
  where
    go : (b : Bool) → b or false ≡ false or b
    go true = refl
    go false = refl
contains-end (x ∷ l) t u = go (eqb x u) (contains-end l t u)
  where
    go : (b : Bool) → contains (l ++ (t ∷ [])) u ≡ contains l u or eqb t u → b or contains (l ++ (t ∷ [])) u ≡ (b or contains l u) or eqb t u
    go true e = refl
    go false e = e

-- one more is woken, which has a mark
tells_more : (ts : List Thread) (a : ℕ) (p : List ℕ) (woken : List ℕ) (t : ℕ) → Tells ts a p woken → marked p t ≡ true
    → Tells ts a (set p t 2) (woken ++ (t ∷ []))
tells_more ts a p woken t v m u =
    let in? : t < length p = elim (lt-cases t (length p))
    [ inl h ↦ h | inr h ↦ absurd (omega (arith, eqb-true (get_or p t 0) 1 m, get_or-eq_default p 0 h)) ] in
    elim (ℕ_discrete u t) [
      | yes e ↦ rw (contains-end woken t u, eq-eqb t u (sym e), or-true (contains woken u), e)
          (get_or-set_same p t 2 0 in?)
      | no e ↦ rw (contains-end woken t u, ne_eqb t u (λ x. e (sym x)), or-end (contains woken u))
          (get_or-set_other p t u 2 0 e ∙ v u)
    ]

module _ (ts : List Thread) (ws : List Waiter) (a value : ℕ) where
  module _ (p : List ℕ) (woken : List ℕ) (n x : ℕ) (v : Tells ts a p woken) (e : n ≡ length woken) where
    here : marked p (waiter_at ws x).thread ≡ parked_at (thread_at ts (waiter_at ws x).thread) a and not (contains woken (waiter_at ws x).thread)
    here =
        rw (v (waiter_at ws x).thread)
        (mark_one (contains woken (waiter_at ws x).thread) (parked_at (thread_at ts (waiter_at ws x).thread) a))

    wakes-is : wakes_marked ws a value p n x ≡ wakes_at ts ws a value woken x
    wakes-is = rw (here, e)

    stays-is : stays_marked ws a value p n x ≡ stays_at ts ws a value woken x
    stays-is = rw (here, e)

    marks_as : (b : Bool) → wakes_marked ws a value p n x ≡ b
        → Tells ts a (pick b (set p (waiter_at ws x).thread 2) p)
        (pick b (woken ++ ((waiter_at ws x).thread ∷ [])) woken)
    marks_as true h =
        tells_more ts a p woken (waiter_at ws x).thread v (and-true (marked p (waiter_at ws x).thread) (more value n) (and-true (eqb (waiter_at ws x).address a) _ h).1).0
    marks_as false h = v

    count_as : (b : Bool) → pick b (n + 1) n ≡ length (pick b (woken ++ ((waiter_at ws x).thread ∷ [])) woken)
    count_as true = omega (arith, e, length-append woken ((waiter_at ws x).thread ∷ []))
    count_as false = e

    marks_tell : Tells ts a (marks_by ws a value p n x) (woken_by ts ws a value woken x)
    marks_tell = rw (← wakes-is) (marks_as (wakes_marked ws a value p n x) refl)

    count-is : count_marked ws a value p n x ≡ length (woken_by ts ws a value woken x)
    count-is = rw (← wakes-is) (count_as (wakes_marked ws a value p n x))

  pub unlink-is : (p : List ℕ) (woken : List ℕ) (n free : ℕ) (xs : List ℕ) → Tells ts a p woken → n ≡ length woken
      → unlink_marked ws a value p n free xs ≡ unlink_woken ts ws a value woken free xs
  unfolding unlink_marked unlink_woken
  unlink-is p woken n free [] v e = refl
  unlink-is p woken n free (x ∷ xs) v e =
      rw (stays-is p woken n x v e, unlink-is (marks_by ws a value p n x) (woken_by ts ws a value woken x) (count_marked ws a value p n x) free xs (marks_tell p woken n x v e) (count-is p woken n x v e))

  pub tells-after : (p : List ℕ) (woken : List ℕ) (n : ℕ) (xs : List ℕ) → Tells ts a p woken → n ≡ length woken
      → Tells ts a (marks_after ws a value p n xs) (to_wake ts ws a value woken xs)
  unfolding marks_after to_wake
  tells-after p woken n [] v e = v
  tells-after p woken n (x ∷ xs) v e =
      tells-after (marks_by ws a value p n x) (woken_by ts ws a value woken x) (count_marked ws a value p n x) xs (marks_tell p woken n x v e) (count-is p woken n x v e)

pub wake-is : (ts : List Thread) (a : ℕ) (p : List ℕ) (woken : List ℕ) (i : ℕ) (us : List Thread) → Tells ts a p woken
    → wake_marked p i us ≡ wake_all woken i us
unfolding wake_marked wake_all
wake-is ts a p woken i [] v = refl
wake-is ts a p woken i (u ∷ us) v =
    let e : eqb (get_or p i 0) 2
    ≡ contains woken i = rw (v i) (mark_two (contains woken i) (parked_at (thread_at ts i) a)) in
    rw (e, wake-is ts a p woken (suc i) us v)
