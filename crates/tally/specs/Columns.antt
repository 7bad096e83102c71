-- A column of a table, made from left to right.
use Rattle.std.specs.Prelude.{◌≡◌, refl, List, [], ◌∷◌, map, ℕ, zero, suc, ◌+◌, ◌≤◌, ◌<◌, length, get_or, set, take}
use Rattle.std.proofs.Common.{sym, ◌∙◌, add-one, arith, take_all}
use Rattle.types.specs.declared.object.Waiter.{Waiter}

-- what lies past the end of the table of records
abbrev pub no_waiter : Waiter
no_waiter = record { thread = 0; address = 0; next = 0 }

-- from left to right
module _ {A B : Type 0} (f : A → B) where
  pub map_more : (l : List A) (d : A) (r : List B) (i : ℕ) → i < length l → i < length r → take i r ≡ map f (take i l)
      → take (i + 1) (set r i (f (get_or l i d))) ≡ map f (take (i + 1) l)
  map_more l d r i h k e = rw add-one (go l r i h k e)
    where
      go : (l : List A) (r : List B) (i : ℕ) → i < length l → i < length r → take i r ≡ map f (take i l)
          → take (suc i) (set r i (f (get_or l i d))) ≡ map f (take (suc i) l)
      go [] r i h k e = absurd (omega arith)
      go (x ∷ l) [] i h k e = absurd (omega arith)
      go (x ∷ l) (y ∷ r) zero h k e = refl
      go (x ∷ l) (y ∷ r) (suc i) h k e =
          let a : y ≡ f x = cc in
          let b : take i r ≡ map f (take i l) = cc in
          rw (a, go l r i (omega arith) (omega arith) b)

  pub map-done : (l : List A) (r : List B) (i : ℕ) → length l ≤ i → length r ≤ i → take i r ≡ map f (take i l)
      → r ≡ map f l
  map-done l r i h k e = sym (take_all i r k) ∙ e ∙ rw (take_all i l h)
