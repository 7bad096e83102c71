-- Which slot of a store a number names, as code looks it up. Assumes nothing.
use Rattle.std.specs.Prelude.{◌≡◌, refl, zero, suc, Bool, true, false, ℕ, ◌-◌, ◌<◌, eqb, leb, ltb}
use Rattle.std.proofs.Common.{sym, ◌∙◌, inl, inr, arith, ltb-true, lt-ltb, le-ltb, le-leb, ne_eqb}
use Rattle.std.proofs.lemmas.Bool.{lt-leb}
use Rattle.laws.specs.Logic.{pick, ◌and◌, and-true, true-and, false-true, lt-cases}

-- a number that some slot has
abbrev pub is_slot : ℕ → Bool
is_slot k = ltb 0 k and ltb k 129

pub slot-some : (k : ℕ) → is_slot k ≡ true → (0 < k) × (k < 129)
slot-some k e = let p = and-true (ltb 0 k) (ltb k 129) e in (ltb-true 0 k p.0, ltb-true k 129 p.1)

-- 0, or a number past the last
pub slot-past : (k : ℕ) → is_slot k ≡ false → 0 < k → 128 < k
slot-past k e h = elim (lt-cases k 129) [
  | inl g ↦ false-true (sym e ∙ true-and (ltb 0 k) (ltb k 129) (lt-ltb 0 k h) (lt-ltb k 129 g))
  | inr g ↦ omega arith
]

-- the index to look at; the first one for a number that no slot has
unfoldable pub slot_index : ℕ → ℕ
slot_index x = pick (eqb x 0) 0 (pick (ltb 128 x) 0 (x - 1))

-- a slot's number has the place before it
pub index-slot : (k : ℕ) → is_slot k ≡ true → slot_index k ≡ k - 1
unfolding slot_index
index-slot k e =
    let h = slot-some k e in
    rw (ne_eqb k 0 (λ z. omega (arith, h)), le-ltb 128 k (omega (arith, h)))

-- any other number has the first place
pub index-none : (k : ℕ) → is_slot k ≡ false → slot_index k ≡ 0
unfolding slot_index
index-none zero e = refl
index-none (suc k) e = rw (ne_eqb (suc k) 0 (λ z. omega arith), lt-ltb 128 (suc k) (slot-past (suc k) e (omega arith)))

-- as it is said of an object number
pub slot-leb : (k : ℕ) → is_slot k ≡ ltb 0 k and leb k 128
slot-leb k =
    elim (lt-cases k 129) [
      | inl h ↦ rw (lt-ltb k 129 h, le-leb k 128 (omega arith))
      | inr h ↦ rw (le-ltb k 129 h, lt-leb k 128 (omega arith))
    ]
