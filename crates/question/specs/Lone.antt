-- Chains that share out the cells: a walk that marks them meets none that is marked already, so one that does may end.
use Rattle.std.specs.Prelude.{◌≡◌, Bool, true, false, leb, ltb}
use Rattle.std.proofs.Math.Path.{refl}
use Rattle.std.proofs.Common.{sym, ◌∙◌, inl, inr}
use mathlib.Core.List.{List, [], ◌∷◌}
use Prim.Native.Nat.{ℕ, zero, suc, ◌≤◌, ◌<◌}
use native.Mathlib.Omega.{arith}
use Rattle.std.proofs.Math.Dec.{eqb}
use Rattle.std.proofs.Math.ListN.{length, get_or, replicate}
use borrow.Author.Tests.{eq-eqb, eqb-true, leb-true, le-ltb}
use Rattle.laws.specs.Logic.{pick, and-true, true-and, false-true, lt-cases}
use Rattle.laws.specs.Count.{at, ind-same}
use Rattle.laws.specs.Numbers.{all_to-true}
use Rattle.laws.specs.Walk.{walk, ends?}
use Rattle.laws.specs.Tally.{bump, tally, tally_all, bump_get, length-bump, length-tally, length-tally_all}
use Rattle.question.specs.LinearObjects.{end_all?, walk_all, new?, lone_all?, once_all?, shared_out?}

-- ---- counts never fall
same-pick : {A : Type 0} (t : Bool) (a : A) → pick t a a ≡ a
same-pick true a = refl
same-pick false a = refl

bump-full : (c : List ℕ) (o : ℕ) → 100000 ≤ get_or c o 0 → bump 129 c o ≡ c
unfolding bump
bump-full c o r = rw (le-ltb (get_or c o 0) 100000 r) (same-pick (ltb o 129) c)

module _ (j : ℕ) (h : j < 129) where
  bump_grows : (c : List ℕ) (o : ℕ) → length c ≡ 129 → get_or c j 0 ≤ get_or (bump 129 c o) j 0
  bump_grows c o e =
      elim (lt-cases (get_or c o 0) 100000) [
        | inl r ↦ omega (arith, bump_get 129 c e o r j h)
        | inr r ↦ rw (bump-full c o r) (omega arith)
      ]

  tally_grows : (l c : List ℕ) → length c ≡ 129 → get_or c j 0 ≤ get_or (tally 129 c l) j 0
  unfolding tally
  tally_grows [] c e = omega arith
  tally_grows (o ∷ l) c e = omega (arith, bump_grows c o e, tally_grows l (bump 129 c o) (length-bump 129 c o ∙ e))

  tally_all_grows : (ls : List (List ℕ)) (c : List ℕ) → length c ≡ 129 → get_or c j 0 ≤ get_or (tally_all 129 c ls) j 0
  unfolding tally_all
  tally_all_grows [] c e = omega arith
  tally_all_grows (l ∷ ls) c e =
      omega (arith, tally_grows l c e, tally_all_grows ls (tally 129 c l) (length-tally 129 c l ∙ e))

-- ---- where no cell is counted twice in the end, none is met again on the way
module _ (nx : List ℕ) (n : length nx ≡ 64) where
  new-walk : (left h : ℕ) (c : List ℕ) → length c ≡ 129 → ends? nx left h ≡ true
      → ((j : ℕ) → 0 < j → j ≤ 64 → get_or (tally 129 c (walk nx left h)) j 0 ≤ 1) → new? c (walk nx left h) ≡ true
  unfolding walk ends? new? tally
  new-walk zero h c e w u = refl
  new-walk (suc f) zero c e w u = refl
  new-walk (suc f) (suc h) c e w u =
      let p = and-true (leb (suc h) (length nx)) (ends? nx f (at nx (suc h))) w in
      let b : suc h ≤ 64 = omega (arith, leb-true (suc h) (length nx) p.0, n) in
      let l : length (bump 129 c (suc h)) ≡ 129 = length-bump 129 c (suc h) ∙ e in
      let k : suc h < 129 = omega arith in
      let g = tally_grows (suc h) k (walk nx f (at nx (suc h))) (bump 129 c (suc h)) l in
      let y : get_or (bump 129 c (suc h)) (suc h) 0 ≤ 1 = omega (arith, u (suc h) (omega arith) b, g) in
      let r : get_or c (suc h) 0 < 100000 = omega (arith, y, bump_grows (suc h) k c (suc h) e) in
      let z : get_or c (suc h) 0 ≡ 0 = omega (arith, y, bump_get 129 c e (suc h) r (suc h) k, ind-same (suc h)) in
      true-and _ _ (eq-eqb (get_or c (suc h) 0) 0 z) (new-walk f (at nx (suc h)) (bump 129 c (suc h)) l p.1 u)

  lone_all : (hs c : List ℕ) → length c ≡ 129 → end_all? nx hs ≡ true
      → ((j : ℕ) → 0 < j → j ≤ 64 → get_or (tally_all 129 c (walk_all nx hs)) j 0 ≤ 1) → lone_all? nx c hs ≡ true
  unfolding end_all? lone_all? tally_all
  lone_all [] c e w u = refl
  lone_all (h ∷ hs) c e w u =
      let p = and-true _ _ w in
      let d = tally 129 c (walk nx 64 h) in
      let l : length d ≡ 129 = length-tally 129 c (walk nx 64 h) ∙ e in
      true-and _ _
      (true-and _ _ p.0
      (new-walk 64 h c e p.0 (λ j a b. omega (arith, u j a b, tally_all_grows j (omega arith) (walk_all nx hs) d l))))
      (lone_all hs d l p.1 u)

  shared_lone : (hs : List ℕ) (free : ℕ) → shared_out? nx hs free ≡ true → lone_all? nx (replicate 129 0) hs ≡ true
  unfolding shared_out? once_all?
  shared_lone hs free w =
      let p = and-true _ _ w in
      let q = and-true _ _ p.1 in
      let c : List ℕ = replicate 129 0 in
      let d = tally_all 129 c (walk_all nx hs) in
      let v = tally 129 d (walk nx 64 free) in
      let l : length d ≡ 129 = length-tally_all 129 c (walk_all nx hs) in
      lone_all hs c refl p.0
      (λ j a b.
      let o = eqb-true (get_or v j 0) 1 (all_to-true 64 (λ i. eqb (get_or v i 0) 1) q.1 j a b) in
      omega (arith, o, tally_grows j (omega arith) (walk nx 64 free) d l))

  pub not_shared : (hs : List ℕ) (free : ℕ) → lone_all? nx (replicate 129 0) hs ≡ false → shared_out? nx hs free ≡ false
  not_shared hs free e = go (shared_out? nx hs free) refl
    where
      go : (b : Bool) → shared_out? nx hs free ≡ b → b ≡ false
      go true w = false-true (sym e ∙ shared_lone hs free w)
      go false w = refl

pub lone_ends : (nx hs c : List ℕ) → lone_all? nx c hs ≡ true → end_all? nx hs ≡ true
unfolding end_all? lone_all?
lone_ends nx [] c e = refl
lone_ends nx (h ∷ hs) c e =
    let p = and-true _ _ e in
    true-and _ _ (and-true _ _ p.0).0 (lone_ends nx hs (tally 129 c (walk nx 64 h)) p.1)
