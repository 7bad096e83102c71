-- `next_event` as it is computed: the objects that blocked threads wait on are marked in an array.
use Rattle.units.specs.declared.Ticks.{Ticks}
use Rattle.std.specs.Prelude.{◌≡◌, Bool, true, false, ◌⊎◌, ℕ, zero, suc, ◌+◌, ◌≤◌, ◌<◌, eqb, ltb, length, get_or}
use Rattle.std.specs.Prelude.{replicate, Option}
use Rattle.std.proofs.Math.Path.{refl}
use Rattle.std.proofs.Common.{ap, sym, ◌∙◌, inl, inr, arith, eqb-true, lt-ltb}
use mathlib.Core.List.{List, [], ◌∷◌, ◌++◌, map}
use Rattle.std.proofs.lemmas.List.{length-map}
use Rattle.std.proofs.lemmas.Bool.{eqb-false}
use Rattle.laws.specs.Logic.{pick, ◌and◌, ◌or◌}
use Rattle.laws.specs.All.{All}
use Rattle.laws.specs.Count.{count, count_all, ind, ind-eq, ind-other}
use Rattle.laws.specs.Tally.{tally_all, tally_all_get, zero_get, zero-le}
use Rattle.types.specs.declared.thread.ThreadStatus.{ThreadStatus}
use Rattle.types.specs.declared.thread.Thread.{Thread}
use Rattle.types.specs.declared.object.Slot.{Slot}
use Rattle.types.specs.Thread.{wait_list, is_blocked}
use Rattle.sound.specs.View.{ids}
use Rattle.kernel.specs.NextEvent.{contains, waited_on, due_after, next_due}

-- the list of a thread, if its status is one that is asked for
abbrev pub list_by : (ThreadStatus → Bool) → Thread → List ℕ
list_by asked t = pick (asked t.status) (ids t.wait_objects) []

abbrev pub list_if : Thread → List ℕ
list_if t = list_by is_blocked t

abbrev pub lists_if : List Thread → List (List ℕ)
lists_if ts = map list_if ts

unfoldable pub due_marked : List ℕ → Option Ticks → ℕ → List Slot → Option Ticks
due_marked m best o [] = best
due_marked m best o (s ∷ ss) = due_marked m (due_after (ltb 0 (get_or m o 0)) best s) (suc o) ss

-- ---- what is counted is contained
contains-is : (l : List ℕ) (o : ℕ) → contains l o ≡ ltb 0 (count o l)
unfolding contains count ◌or◌
contains-is [] o = refl
contains-is (x ∷ xs) o = go (eqb x o) refl (contains-is xs o)
  where
    go : (t : Bool) → eqb x o ≡ t → contains xs o ≡ ltb 0 (count o xs) → t or contains xs o ≡ ltb 0 (ind x o + count o xs)
    go true e r = sym (lt-ltb 0 (ind x o + count o xs) (omega (arith, ind-eq x o (eqb-true x o e))))
    go false e r = let f : count o xs ≡ ind x o + count o xs = omega (arith, ind-other x o (eqb-false x o e)) in r ∙ ap (ltb 0) f

if_is : (b : Bool) (l : List ℕ) (o : ℕ) → b and contains l o ≡ ltb 0 (count o (pick b l []))
unfolding count ◌and◌
if_is true l o = contains-is l o
if_is false l o = refl

or-sum : (a b : ℕ) → ltb 0 a or ltb 0 b ≡ ltb 0 (a + b)
unfolding ◌or◌
or-sum zero b = let e : b ≡ 0 + b = omega arith in ap (ltb 0) e
or-sum (suc a) b = rw (lt-ltb 0 (suc a) (omega arith)) (sym (lt-ltb 0 (suc a + b) (omega arith)))

-- the marks tell what threads of a kind of status wait on, for any test of an object that says so
module _ (asked : ThreadStatus → Bool) (waited : List Thread → ℕ → Bool) (none : (o : ℕ) → waited [] o ≡ false)
    (more : (t : Thread) (ts : List Thread) (o : ℕ) → waited (t ∷ ts) o ≡ (asked t.status and contains (ids t.wait_objects) o) or waited ts o) where
  waited-is : (ts : List Thread) (o : ℕ) → waited ts o ≡ ltb 0 (count_all o (map (list_by asked) ts))
  unfolding count_all
  waited-is [] o = none o
  waited-is (t ∷ ts) o =
      more t ts o
      ∙ rw (if_is (asked t.status) (ids t.wait_objects) o, waited-is ts o) (or-sum (count o (list_by asked t)) (count_all o (map (list_by asked) ts)))

  pub marks_tell : (ts : List Thread) → length ts ≡ 32 → All (λ l. length l ≤ wait_list) (map (list_by asked) ts) → (o : ℕ) → o < 129
      → ltb 0 (get_or (tally_all 129 (replicate 129 0) (map (list_by asked) ts)) o 0) ≡ waited ts o
  marks_tell ts n a o h =
      let ls = map (list_by asked) ts in
      let e : get_or (tally_all 129 (replicate 129 0) ls) o 0 ≡ count_all o ls =
      omega (arith, tally_all_get 129 wait_list ls (replicate 129 0) 0 a refl (zero-le 129) (omega (arith, length-map ts (list_by asked))) o h, zero_get 129 o) in
      ap (ltb 0) e ∙ sym (waited-is ts o)

-- ---- the marks tell who is waited on
module _ (ts : List Thread) (n : length ts ≡ 32) (a : All (λ l. length l ≤ wait_list) (lists_if ts)) where
  marked : (o : ℕ) → o < 129 → ltb 0 (get_or (tally_all 129 (replicate 129 0) (lists_if ts)) o 0) ≡ waited_on ts o
  unfolding waited_on
  marked o h = marks_tell is_blocked waited_on (λ o. refl) (λ t ts o. refl) ts n a o h

  pub due-is : (best : Option Ticks) (o : ℕ) (l : List Slot) → o + length l ≤ 129
      → due_marked (tally_all 129 (replicate 129 0) (lists_if ts)) best o l ≡ next_due ts best o l
  unfolding due_marked next_due
  due-is best o [] h = refl
  due-is best o (s ∷ ss) h = rw (marked o (omega arith)) (due-is (due_after (waited_on ts o) best s) (suc o) ss (omega arith))

-- ---- one more at the end of a list
pub contains-end : (xs : List ℕ) (y i : ℕ) → contains (xs ++ (y ∷ [])) i ≡ true → (contains xs i ≡ true) ⊎ (y ≡ i)
unfolding contains ◌or◌
contains-end [] y i e = go (eqb y i) refl e
  where
    go : (b : Bool) → eqb y i ≡ b → b or false ≡ true → (false ≡ true) ⊎ (y ≡ i)
    go true q e = inr (eqb-true y i q)
    go false q e = inl e
contains-end (x ∷ xs) y i e = go (eqb x i) e (contains-end xs y i)
  where
    go : (b : Bool) → b or contains (xs ++ (y ∷ [])) i ≡ true → (contains (xs ++ (y ∷ [])) i ≡ true → (contains xs i ≡ true) ⊎ (y ≡ i)) → (b or contains xs i ≡ true) ⊎ (y ≡ i)
    go true e ih = inl refl
    go false e ih = ih e
