-- One turn of a loop over a list. Assumes nothing.
use mathlib.Core.Path.{◌≡◌, refl}
use mathlib.Core.Bool.{Bool, true, false}
use mathlib.Core.List.{List, [], ◌∷◌}
use Prim.Native.Nat.{ℕ, suc, ◌+◌, ◌≤◌, ◌<◌}
use native.Mathlib.Numerals.{add-one}
use Rattle.std.specs.Prelude.{◌||◌}
use Rattle.std.specs.List.{list_any}
use lib.Dec.{eqb}
use lib.ListN.{length, get_or, drop, drop_of_length-le}
use lib.Seq.{drop-cons}
use Rattle.laws.specs.Logic.{◌or◌}
use Rattle.units.specs.declared.ObjectId.{ObjectId}
use Rattle.sound.specs.View.{ids}
use Rattle.kernel.specs.NextEvent.{contains}

-- ---- whether f holds of any element of a list
module _ {A : Type 0} (d : A) (f : A → Bool) (any : List A → Bool) (none : any [] ≡ false) (more : (x : A) (xs : List A) → any (x ∷ xs) ≡ f x or any xs) where
  pub any_step : (l : List A) (i : ℕ) → i < length l → any (drop i l) ≡ f (get_or l i d) or any (drop (i + 1) l)
  any_step l i h = rw (drop-cons l i d h, add-one) (more (get_or l i d) (drop (suc i) l))

  pub any_end : (l : List A) (i : ℕ) → length l ≤ i → any (drop i l) ≡ false
  any_end l i h = rw (drop_of_length-le l h) none
