-- One turn of each loop. Assumes nothing.
use Rattle.std.specs.Prelude.{Option}
use mathlib.Core.Path.{◌≡◌, refl, ap, sym, ◌∙◌}
use mathlib.Core.Bool.{Bool, true, false, not, ◌&&◌}
use mathlib.Core.Logic.{◌≢◌, inl, inr}
use mathlib.Core.List.{List, [], ◌∷◌}
use Prim.Native.Nat.{ℕ, zero, suc, ◌+◌, ◌-◌, ◌≤◌, ◌<◌}
use native.Mathlib.Numerals.{add-one}
use native.Mathlib.Omega.{arith}
use lib.Dec.{eqb, leb, ltb}
use borrow.Author.Tests.{leb-true, leb-false, ltb-true, ltb-false, le-ltb, lt-leb, ne_eqb}
use lib.ListN.{length, get_or, drop, replicate, drop_of_length-le}
use lib.Seq.{drop-cons}
use Rattle.laws.specs.Logic.{pick_no, ◌and◌, and-true, and_no, and-end, and-false, and_assoc, lt-cases}
use Rattle.laws.specs.Count.{one?}
use Rattle.laws.specs.Tally.{bump, tally, tally_all, tally-le}
use Rattle.laws.specs.Walk.{walk, ends?}
use Rattle.question.specs.LinearObjects.{end_all?, walk_all, once_all?, shared_out?, chains_by?, fine_pool?}
use Rattle.units.specs.declared.ObjectId.{ObjectId}
use Rattle.types.specs.declared.thread.Thread.{Thread}
use Rattle.types.specs.declared.thread.ThreadStatus.{ThreadStatus}
use Rattle.types.specs.declared.thread.ThreadStatus.TheVariants.{Dead, Running, Ready, Sleeping, WaitSync, WaitArbiter, Dormant}
use Rattle.types.specs.declared.object.HandleEntry.{HandleEntry}
use Rattle.types.specs.Thread.{wait_list, is_dead}
use Rattle.sound.specs.View.{ids, no_thread}
use Rattle.sound.specs.Threads.{places?, zeros?, is_current, run?}
use Rattle.sound.specs.Tls.{held_if, held, held-step, below?}
use Rattle.sound.specs.Handles.{rising?, no_entries?}
use Rattle.tally.specs.Lists.{slot_of, name_of, handle_names}
use Rattle.question.specs.Linear.{one_place?, runs?, entry?}

-- ---- tests joined by an operator that asks both
pub eager-and : (a b : Bool) → a && b ≡ a and b
unfolding ◌and◌
eager-and true b = refl
eager-and false b = refl

pub eager-turn : (a b : Bool) → a && b ≡ b and a
unfolding ◌and◌
eager-turn true b = sym (and-end b)
eager-turn false b = sym (and-false b)

-- ---- faults counted: none so far, and what is still to look at
pub fault-turn : (bad : ℕ) (p r : Bool) → eqb (bad + one? (not p)) 0 and r ≡ eqb bad 0 and (p and r)
unfolding ◌and◌
fault-turn bad true r = let e : bad + 0 ≡ bad = omega arith in rw e
fault-turn bad false r = and_no _ _ (ne_eqb (bad + 1) 0 (omega arith)) ∙ sym (and-false (eqb bad 0))

pub fault-more : (bad : ℕ) (p : Bool) → eqb (bad + one? (not p)) 0 ≡ p and eqb bad 0
unfolding ◌and◌
fault-more bad true = let e : bad + 0 ≡ bad = omega arith in rw e
fault-more bad false = ne_eqb (bad + 1) 0 (omega arith)

pub fault-small : (p : Bool) → one? (not p) ≤ 1
fault-small true = omega arith
fault-small false = omega arith

-- ---- a wait list
module _ (l : List ObjectId) (n i : ℕ) (d : ObjectId) (h : i < length l) where
  places_as : (t : Bool) → ltb i n ≡ t → places? (n - i) (ids (drop i l)) ≡ one_place? t (get_or l i d).0 and places? (n - (i + 1)) (ids (drop (i + 1) l))
  unfolding places? one_place? zeros?
  places_as true e =
      let q = ltb-true i n e in
      let f : n - i ≡ suc (n - (i + 1)) = omega arith in
      rw (f, drop-cons l i d h) (rw add-one (and_assoc _ _ _))
  places_as false e =
      let q = ltb-false i n e in
      let f : n - i ≡ 0 = omega arith in
      let g : n - (i + 1) ≡ 0 = omega arith in
      rw (f, g, drop-cons l i d h, add-one)

  pub places-step : places? (n - i) (ids (drop i l)) ≡ one_place? (ltb i n) (get_or l i d).0 and places? (n - (i + 1)) (ids (drop (i + 1) l))
  places-step = places_as (ltb i n) refl

places-none : (k : ℕ) → k ≢ 0 → places? k [] ≡ false
unfolding places?
places-none zero p = absurd (p refl)
places-none (suc k) p = refl

places-end_as : (n : ℕ) (t : Bool) → leb n wait_list ≡ t → places? (n - wait_list) [] ≡ t
unfolding places? zeros?
places-end_as n true e = let f : n - wait_list ≡ 0 = omega (arith, leb-true n wait_list e) in rw f
places-end_as n false e = places-none (n - wait_list) (omega (arith, leb-false n wait_list e))

pub places-end : (l : List ObjectId) (n : ℕ) → length l ≤ wait_list → places? (n - wait_list) (ids (drop wait_list l)) ≡ leb n wait_list
places-end l n h = rw (drop_of_length-le l h) (places-end_as n (leb n wait_list) refl)

-- ---- the handles
-- handles from past the next one on do not come to their end
rising-over : (n low next : ℕ) (es : List HandleEntry) → next < low → rising? n low es next ≡ false
unfolding rising? ◌and◌
rising-over zero low next es h = rw (lt-leb low next h)
rising-over (suc n) low next [] h = refl
rising-over (suc n) low next (e ∷ es) h =
    elim (lt-cases e.handle.0 low) [
      | inl p ↦ rw (lt-leb low e.handle.0 p)
      | inr p ↦ rw (le-ltb e.handle.0 next (omega arith), and-false)
    ]

and_three : (a b c d : Bool) → a and (b and (c and d)) ≡ (a and (b and c)) and d
unfolding ◌and◌
and_three true true c d = refl
and_three true false c d = refl
and_three false b c d = refl

-- a test that the rest answers too
and_skip : (a b c d e : Bool) → (b ≡ false → e ≡ false) → a and (b and (c and (d and e))) ≡ (a and (c and d)) and e
unfolding ◌and◌
and_skip a true c d e f = and_three a c d e
and_skip a false c d e f = and-false a ∙ sym (ap (λ (t : Bool). (a and (c and d)) and t) (f refl) ∙ and-false (a and (c and d)))

rising-next : (n low next : ℕ) (e : HandleEntry) (es : List HandleEntry) → rising? (suc n) low (e ∷ es) next ≡ entry? low e and rising? n (suc e.handle.0) es next
unfolding rising? entry?
rising-next n low next e es =
    let h = e.handle.0 in
    and_skip (leb low h) (ltb h next) (ltb 0 e.object.0) (leb e.object.0 128) (rising? n (suc h) es next) (λ p. rising-over n (suc h) next es (omega (arith, ltb-false h next p)))

pub rising_step : (es : List HandleEntry) (n i low next : ℕ) (d : HandleEntry) → i < length es → i < n
    → rising? (n - i) low (drop i es) next ≡ entry? low (get_or es i d) and rising? (n - (i + 1)) ((get_or es i d).handle.0 + 1) (drop (i + 1) es) next
rising_step es n i low next d h q =
    let f : n - i ≡ suc (n - (i + 1)) = omega arith in
    rw (f, drop-cons es i d h, add-one i, add-one (get_or es i d).handle.0) (rising-next _ _ _ _ _)

pub rising-end : (es : List HandleEntry) (n i low next : ℕ) → n ≤ i → rising? (n - i) low es next ≡ leb low next and no_entries? es
unfolding rising?
rising-end es n i low next h = let e : n - i ≡ 0 = omega arith in rw e

-- more handles than entries
pub rising-far : (n low next : ℕ) (es : List HandleEntry) → length es < n → rising? n low es next ≡ false
unfolding rising?
rising-far zero low next es h = absurd (omega arith)
rising-far (suc n) low next [] h = refl
rising-far (suc n) low next (e ∷ es) h = rw (rising-far n (suc e.handle.0) next es (omega arith), and-false, and-false, and-false, and-false)

-- an entry in use names an object
pub entry-names : (low : ℕ) (e : HandleEntry) → entry? low e ≡ true → name_of e.object.0 ≡ e.object.0
unfolding entry?
entry-names low e h =
    let o = ltb-true 0 e.object.0 (and-true _ _ (and-true _ _ h).1).0 in
    pick_no (eqb e.object.0 0) 129 e.object.0 (ne_eqb e.object.0 0 (omega (arith, o)))

-- counts after one more
pub count-more : (c : List ℕ) (o m : ℕ) → length c ≡ 129 → ((j : ℕ) → get_or c j 0 ≤ m) → m + 1 ≤ 100000 → (j : ℕ) → get_or (bump 129 c o) j 0 ≤ m + 1
unfolding tally
count-more c o m e b r j = tally-le 129 (o ∷ []) c m e b r j

-- entries that are zero name nothing
pub none-tally : (c : List ℕ) (es : List HandleEntry) → no_entries? es ≡ true → tally 129 c (handle_names es) ≡ c
unfolding no_entries? tally bump
none-tally c [] h = refl
none-tally c (e ∷ es) h =
    let a = and-true _ _ h in
    let b = and-true _ _ a.1 in
    rw b.0 (none-tally c es b.1)

-- ---- TLS slots
below_if : (n : ℕ) (b : Bool) (s : ℕ) (l : List ℕ) → below? n (held_if b s l) ≡ below? n (held_if b s []) and below? n l
unfolding below? ◌and◌
below_if n true s l = refl
below_if n false s l = go (ltb s n)
  where
    go : (t : Bool) → t and below? n l ≡ (t and true) and below? n l
    go true = refl
    go false = refl

pub below-held : (ts : List Thread) (i : ℕ) → i < length ts → (n : ℕ) → below? n (held (drop i ts)) ≡ below? n (slot_of (get_or ts i no_thread)) and below? n (held (drop (i + 1) ts))
below-held ts i h n = ap (below? n) (held-step ts i h) ∙ below_if n (is_dead (get_or ts i no_thread).status) (get_or ts i no_thread).tls (held (drop (i + 1) ts))

-- ---- who may run
pub runs-is : (s : ThreadStatus) (c : Option ℕ) (i : ℕ) → runs? s (is_current c i) ≡ run? s c i
runs-is Dead c i = refl
runs-is Running c i = refl
runs-is Ready c i = refl
runs-is Sleeping c i = refl
runs-is WaitSync c i = refl
runs-is WaitArbiter c i = refl
runs-is Dormant c i = refl

-- ---- records, where the chains end
pub pool-ends : (nx ts ad : List ℕ) (n : ℕ) (hs : List ℕ) (free : ℕ) → end_all? nx hs ≡ true
    → fine_pool? nx ts ad n hs free
    ≡ (ends? nx 64 free and once_all? (tally 129 (tally_all 129 (replicate 129 0) (walk_all nx hs)) (walk nx 64 free)) 64) and chains_by? nx ts ad n hs 128
unfolding fine_pool? shared_out? ◌and◌
pool-ends nx ts ad n hs free e = rw e
