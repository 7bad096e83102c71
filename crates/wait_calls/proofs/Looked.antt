-- A list of handles looked up as they are. Assumes nothing.
use mathlib.Core.Path.{◌≡◌, refl, sym, ap, ◌∙◌}
use mathlib.Core.Bool.{Bool, true, false}
use mathlib.Core.List.{List, [], ◌∷◌, ◌++◌, map}
use Prim.Native.Nat.{ℕ, ◌+◌, ◌<◌}
use native.Mathlib.Numerals.{add-one}
use native.Mathlib.Omega.{arith}
use lib.Dec.{eqb}
use lib.ListN.{length, take, set, get_or, replicate, length-map, get_or-map}
use lib.Seq.{take-suc, length-take-le}
use Rattle.laws.specs.Logic.{◌or◌, or-end}
use Rattle.units.specs.declared.ObjectId.{ObjectId}
use Rattle.types.specs.declared.kernel.Kernel.{Kernel}
use Rattle.types.specs.Thread.{wait_list}
use Rattle.kernel.specs.NextEvent.{contains}
use Rattle.pass.specs.Asks.{padded, open_object}
use Rattle.pass.specs.Padded.{padded-more}

contains-more : (l : List ℕ) (x n : ℕ) → contains (l ++ (x ∷ [])) n ≡ contains l n or eqb x n
unfolding contains ◌or◌
contains-more [] x n = or-end (eqb x n)
contains-more (y ∷ ys) x n = go (eqb y n) (contains-more ys x n)
  where
    go : (t : Bool) → contains (ys ++ (x ∷ [])) n ≡ contains ys n or eqb x n → t or contains (ys ++ (x ∷ [])) n ≡ (t or contains ys n) or eqb x n
    go true e = refl
    go false e = e

module _ (k : Kernel) (hs : List ℕ) where
  abbrev pub found : List ℕ
  found = map (open_object k) hs

  -- after i handles
  abbrev pub Looking : List ObjectId → Bool → ℕ → Type 0
  Looking l unknown i = (l ≡ padded wait_list (take i found)) × (unknown ≡ contains (take i found) 0)

  size : length found ≡ length hs
  size = length-map hs (open_object k)

  pub looked-more : (l : List ObjectId) (unknown : Bool) (i : ℕ) → Looking l unknown i → i < length hs → i < wait_list → (o : ObjectId) → o.0 ≡ open_object k (get_or hs i 0) → Looking (set l i o) (unknown or eqb o.0 0) (i + 1)
  looked-more l unknown i v j m o e =
      let b : i < length found = omega (arith, size) in
      let d : get_or found i (open_object k 0) ≡ o.0 = get_or-map (open_object k) hs i 0 ∙ sym e in
      let q : take (i + 1) found ≡ take i found ++ (o.0 ∷ []) = rw add-one (take-suc found i (open_object k 0) b ∙ ap (λ (x : ℕ). take i found ++ (x ∷ [])) d) in
      let r : length (take i found) ≡ i = length-take-le i found (omega arith) in
      let w : set (padded wait_list (take i found)) (length (take i found)) (record { 0 = o.0 }) ≡ padded wait_list (take i found ++ (o.0 ∷ [])) = padded-more wait_list (take i found) o.0 (omega arith) in
      (rw (v.0, q) (rw r at w), ap (λ (t : Bool). t or eqb o.0 0) v.1 ∙ sym (ap (λ (x : List ℕ). contains x 0) q ∙ contains-more (take i found) o.0 0))

pub looked-none : (k : Kernel) (hs : List ℕ) → Looking k hs (replicate wait_list (record { 0 = 0 })) false 0
unfolding padded contains
looked-none k hs = (refl, refl)
