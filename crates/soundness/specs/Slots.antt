-- The slots of objects: what one slot anew does to every column, and to every object.
use Rattle.std.specs.Prelude.{◌≡◌, refl, Bool, true, false, ◌≢◌, ◌⊎◌, List, [], ◌∷◌, map, ℕ, zero, suc, ◌≤◌, ◌<◌, length, set}
use Rattle.std.proofs.Common.{ap, sym, ◌∙◌, inl, inr, arith, get_or-set_same, get_or-set_other}
use Rattle.std.proofs.Math.Seq.{set_out, map-set_same}
use Rattle.laws.specs.Logic.{lt-cases, pick}
use Rattle.laws.specs.Count.{ind-cases, put}
use Rattle.laws.specs.All.{All, all_set}
use Rattle.types.specs.declared.object.KObject.{KObject}
use Rattle.types.specs.declared.object.Slot.{Slot}
use Rattle.types.specs.Object.{kind_number, next_of, head_of}
use Rattle.sound.specs.View.{no_slot, slot_at}
use Rattle.sound.specs.Objects.{Ref, ref_of}
use Rattle.object.specs.Slots.{slot_put}

-- what holds of both ends of a choice
pub pick-both : {A : Type 0} (P : A → Type 0) (q : Bool) (a b : A) → P a → P b → P (pick q a b)
pick-both P true a b x y = x
pick-both P false a b x y = y

-- the same, each end with what the test said
pub pick_if : {A : Type 0} (P : A → Type 0) (q : Bool) (a b : A) → (q ≡ true → P a) → (q ≡ false → P b) → P (pick q a b)
pick_if P true a b f g = f refl
pick_if P false a b f g = g refl

-- ---- columns
abbrev pub kind_at : Slot → ℕ
kind_at s = kind_number s.object

abbrev pub head_at : Slot → ℕ
head_at s = head_of s.object

abbrev pub next_at : Slot → ℕ
next_at s = next_of s.object

abbrev pub ref_at : Slot → Ref
ref_at s = ref_of s.object

pub map-set : {A B : Type 0} (f : A → B) (l : List A) (i : ℕ) (v : A) → map f (set l i v) ≡ set (map f l) i (f v)
map-set f [] i v = refl
map-set f (x ∷ xs) zero v = refl
map-set f (x ∷ xs) (suc i) v = rw (map-set f xs i v)

pub map-slot_put : (f : Slot → ℕ) (l : List Slot) (r : ℕ) (v : Slot) → map f (slot_put l r v) ≡ put (map f l) r (f v)
unfolding slot_put put
map-slot_put f l zero v = refl
map-slot_put f l (suc i) v = map-set f l i v

pub map-slot_put-same : (f : Slot → ℕ) (l : List Slot) (r : ℕ) (v : Slot) → f v ≡ f (slot_at l r) → map f (slot_put l r v) ≡ map f l
unfolding slot_put slot_at
map-slot_put-same f l zero v e = refl
map-slot_put-same f l (suc i) v e = map-set_same f l i v no_slot e

-- ---- one slot
pub slot_cases : (l : List Slot) (r : ℕ) (v : Slot) (o : ℕ) → ((o ≡ r) × (slot_at (slot_put l r v) o ≡ v)) ⊎ (slot_at (slot_put l r v) o ≡ slot_at l o)
unfolding slot_at slot_put
slot_cases l zero v o = inr refl
slot_cases l (suc r) v zero = inr refl
slot_cases l (suc r) v (suc o) =
    elim (ind-cases o r) [
      | inl e ↦ elim (lt-cases r (length l)) [
        | inl h ↦ inl (ap suc e.0, rw e.0 (get_or-set_same l r v no_slot h))
        | inr h ↦ inr (rw (set_out l r v h))
      ]
      | inr e ↦ inr (get_or-set_other l r o v no_slot e.0)
    ]

-- what f reads of a slot is left everywhere, if the change leaves it
pub slot-f : {A : Type 0} (f : Slot → A) (l : List Slot) (r : ℕ) (v : Slot) (o : ℕ) → f v ≡ f (slot_at l r) → f (slot_at (slot_put l r v) o) ≡ f (slot_at l o)
slot-f f l r v o e = elim (slot_cases l r v o) [ inl h ↦ ap f h.1 ∙ e ∙ ap (λ k. f (slot_at l k)) (sym h.0) | inr h ↦ ap f h ]

pub slot-other : (l : List Slot) (r : ℕ) (v : Slot) (o : ℕ) → o ≢ r → slot_at (slot_put l r v) o ≡ slot_at l o
slot-other l r v o n = elim (slot_cases l r v o) [ inl h ↦ absurd (n h.0) | inr h ↦ h ]

pub slot_same : (l : List Slot) (o : ℕ) (v : Slot) → 0 < o → o ≤ length l → slot_at (slot_put l o v) o ≡ v
unfolding slot_at slot_put
slot_same l zero v z k = absurd (omega arith)
slot_same l (suc i) v z k = get_or-set_same l i v no_slot k

-- something of every object
pub each-slot : (P : KObject → Type 0) (l : List Slot) (r : ℕ) (v : Slot) → P v.object → ((i : ℕ) → P (slot_at l i).object) → (i : ℕ) → P (slot_at (slot_put l r v) i).object
each-slot P l r v p h i = elim (slot_cases l r v i) [ inl e ↦ rw e.1 p | inr e ↦ rw e (h i) ]

-- something of every slot of the table
pub all-slot_put : (P : Slot → Type 0) (l : List Slot) (r : ℕ) (v : Slot) → P v → All P l → All P (slot_put l r v)
unfolding slot_put
all-slot_put P l zero v p a = a
all-slot_put P l (suc i) v p a = all_set P l i p a
