-- A walk of a chain that marks the thread of each record: if none is met twice, no thread and address are.
use Rattle.std.specs.Prelude.{◌≡◌, refl, Bool, true, false, not, ◌≢◌, List, [], ◌∷◌, ℕ, ◌-◌, ◌≤◌, ◌<◌, eqb, ltb, length, get_or, set}
use Rattle.std.proofs.Math.Path.{ap}
use Rattle.std.proofs.Common.{sym, ◌∙◌, arith, length-set, get_or-set_same, get_or-set_other}
use borrow.Author.Tests.{ltb-true, eq-eqb, ne_eqb}
use Rattle.laws.specs.Logic.{pick, ◌and◌, ◌or◌, and-true, true-and, and-end, and-false, and_assoc, false-true}
use Rattle.laws.specs.Count.{at}
use Rattle.laws.specs.Walk.{walk, ends?, walk-nil, walk-go}
use Rattle.sound.specs.Records.{has?, chain?}
use Rattle.laws.specs.Tally.{bump}
use Rattle.question.specs.declared.chains.Marks.{Marks}
use Rattle.question.specs.declared.chains.Marks.TheVariants.{Broken, Shared, Apart}
use Rattle.question.specs.LinearObjects.{new?, lone?}
use Rattle.question.specs.ObjectSteps.{mark_nil, mark_go}

-- s has the mark that each thread was last met with
unfoldable pub fresh? : List ℕ → ℕ → ℕ → Bool
fresh? s t k = ltb t 32 and not (eqb (get_or s t 0) k)

unfoldable pub marked : List ℕ → ℕ → ℕ → List ℕ
marked s t k = pick (fresh? s t k) (set s t k) s

-- each thread of a chain is below n, and is met with mark k for the first time
unfoldable pub apart? : ℕ → List ℕ → List ℕ → ℕ → List ℕ → Bool
apart? n ts s k [] = true
apart? n ts s k (i ∷ l) = (ltb (at ts i) n and fresh? s (at ts i) k) and apart? n ts (marked s (at ts i) k) k l

-- a walk that does not end, one that meets each thread once, any other
unfoldable pub outcome : Bool → Bool → Marks
outcome false a = Broken
outcome true true = Apart
outcome true false = Shared

pub outcome_open : (e a : Bool) → outcome e a ≡ Broken → e ≡ false
unfolding outcome
outcome_open false a h = refl
outcome_open true true h = cc
outcome_open true false h = cc

pub outcome-ends : (e a : Bool) → outcome e a ≢ Broken → e ≡ true
unfolding outcome
outcome-ends false a h = absurd (h refl)
outcome-ends true a h = refl

pub outcome-apart : (e a : Bool) → outcome e a ≡ Apart → a ≡ true
unfolding outcome
outcome-apart false a h = cc
outcome-apart true true h = refl
outcome-apart true false h = cc

pub length_marked : (s : List ℕ) (t k : ℕ) → length (marked s t k) ≡ length s
unfolding marked
length_marked s t k = go (fresh? s t k)
  where
    go : (b : Bool) → length (pick b (set s t k) s) ≡ length s
    go true = length-set s t k
    go false = refl

-- ---- threads met once: no pair twice
fresh-is : (s : List ℕ) (t k : ℕ) → fresh? s t k ≡ true → (t < 32) × ((get_or s t 0 ≢ k) × (marked s t k ≡ set s t k))
unfolding fresh? marked
fresh-is s t k e =
    let p = and-true (ltb t 32) (not (eqb (get_or s t 0) k)) e in
    (ltb-true t 32 p.0, ((λ w. false-true (sym (ap not (eq-eqb (get_or s t 0) k w)) ∙ p.1)), rw e))

-- a thread that has the mark is not met again
other : (n : ℕ) (ts ad : List ℕ) (k t a : ℕ) (l s : List ℕ) → get_or s t 0 ≡ k → apart? n ts s k l ≡ true → has? ts ad t a l ≡ false
unfolding apart? has? ◌and◌ ◌or◌
other n ts ad k t a [] s m e = refl
other n ts ad k t a (i ∷ l) s m e =
    let u = at ts i in
    let p = and-true (ltb u n and fresh? s u k) (apart? n ts (marked s u k) k l) e in
    let f = fresh-is s u k (and-true (ltb u n) (fresh? s u k) p.0).1 in
    let d : t ≢ u = λ w. f.1.0 (ap (λ (x : ℕ). get_or s x 0) (sym w) ∙ m) in
    let g : get_or (marked s u k) t 0 ≡ k = ap (λ (x : List ℕ). get_or x t 0) f.1.1 ∙ get_or-set_other s u t k 0 d ∙ m in
    rw (ne_eqb u t (λ w. d (sym w))) (other n ts ad k t a l (marked s u k) g p.1)

pub apart-chain : (n : ℕ) (ts ad : List ℕ) (k : ℕ) (l s : List ℕ) → length s ≡ 32 → apart? n ts s k l ≡ true → chain? ts ad n l ≡ true
unfolding apart? chain?
apart-chain n ts ad k [] s h e = refl
apart-chain n ts ad k (i ∷ l) s h e =
    let u = at ts i in
    let p = and-true (ltb u n and fresh? s u k) (apart? n ts (marked s u k) k l) e in
    let q = and-true (ltb u n) (fresh? s u k) p.0 in
    let f = fresh-is s u k q.1 in
    let g : get_or (marked s u k) u 0 ≡ k = ap (λ (x : List ℕ). get_or x u 0) f.1.1 ∙ get_or-set_same s u k 0 (omega (arith, f.0)) in
    true-and _ _ q.0
    (true-and _ _ (ap not (other n ts ad k u (at ad i) l (marked s u k) g p.1))
    (apart-chain n ts ad k l (marked s u k) (length_marked s u k ∙ h) p.1))

-- ---- the returns of a function that marks a chain and its threads
module _ (nx m : List ℕ) (left h : ℕ) where
  pub lone_nil : h ≡ 0 → lone? nx m left h ≡ true
  unfolding new?
  lone_nil e = true-and _ _ (sym (mark_nil nx m left h e).0) (rw (walk-nil nx left h e))

  pub lone_met : left ≢ 0 → h ≢ 0 → get_or m h 0 ≢ 0 → lone? nx m left h ≡ false
  unfolding new? ◌and◌
  lone_met p q f = rw (walk-go nx left h p q, ne_eqb (get_or m h 0) 0 f) (and-false (ends? nx left h))

  pub lone_go : left ≢ 0 → h ≢ 0 → h ≤ length nx → get_or m h 0 ≡ 0
      → lone? nx (bump 129 m h) (left - 1) (at nx h) ≡ lone? nx m left h
  unfolding new? ◌and◌
  lone_go p q f z =
      rw (walk-go nx left h p q, eq-eqb (get_or m h 0) 0 z)
      (ap (λ (t : Bool). t and new? (bump 129 m h) (walk nx (left - 1) (at nx h))) (mark_go nx m left h p q f).0)

module _ (n : ℕ) (nx ts s m : List ℕ) (k left h : ℕ) (b : Bool) where
  pub code_nil : h ≡ 0 → outcome true b ≡ outcome (lone? nx m left h) (b and apart? n ts s k (walk nx left h))
  unfolding apart?
  code_nil e =
      let f : b and apart? n ts s k (walk nx left h) ≡ b = rw (walk-nil nx left h e) (and-end b) in
      λ i. outcome (sym (lone_nil nx m left h e) i) (sym f i)

  pub code_open : lone? nx m left h ≡ false
      → Broken ≡ outcome (lone? nx m left h) (b and apart? n ts s k (walk nx left h))
  unfolding outcome
  code_open e = ap (λ (t : Bool). outcome t (b and apart? n ts s k (walk nx left h))) (sym e)

  pub code_go : left ≢ 0 → h ≢ 0 → h ≤ length nx → get_or m h 0 ≡ 0
      → outcome (lone? nx (bump 129 m h) (left - 1) (at nx h))
      ((b and (ltb (at ts h) n and fresh? s (at ts h) k)) and apart? n ts (marked s (at ts h) k) k (walk nx (left - 1) (at nx h)))
      ≡ outcome (lone? nx m left h) (b and apart? n ts s k (walk nx left h))
  unfolding apart?
  code_go p q f z =
      let g : b and apart? n ts s k (walk nx left h) ≡ (b and (ltb (at ts h) n and fresh? s (at ts h) k)) and apart? n ts (marked s (at ts h) k) k (walk nx (left - 1) (at nx h)) =
      rw (walk-go nx left h p q) (and_assoc b _ _) in
      λ i. outcome (lone_go nx m left h p q f z i) (sym g i)
