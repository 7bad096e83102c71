-- An object's words as those of the object that they say: which of them are looked at. Assumes nothing.
use Rattle.std.specs.Prelude.{◌≡◌, refl, Bool, List, [], ◌∷◌, ℕ, zero, suc, ◌≤◌, eqb, leb, ltb}
use Rattle.std.proofs.Common.{ap, sym, ◌∙◌, arith}
use mir.Val.{bool_byte}
use Rattle.laws.specs.Logic.{◌and◌, and-end, and_assoc}
use Rattle.laws.specs.Test.{t_same, t_as, t-eq, t-le}
use Rattle.codec.specs.Bytes.{same}
use Rattle.codec.proofs.Same.{same_refl, same_append}
use Rattle.types.specs.declared.sync.ResetType.{ResetType}
use Rattle.types.specs.declared.sync.ResetType.TheVariants.{OneShot, Sticky, Pulse}
use Rattle.types.specs.Sync.{reset_number, reset_from_raw}
use Rattle.types.specs.Thread.{option_flag, tick_value, tick_option}
use Rattle.block.specs.declared.slot.ObjectWords.{ObjectWords}
use Rattle.block.specs.Slot.{words, object_words, object_of}
use Rattle.canonical.specs.Parts.{object_list, same-on, flag-test}

-- the number of a reset type, and a mark
abbrev pub reset? : ℕ → ℕ → Bool
reset? a b = leb a 2 and ltb b 2

-- a flag and a tick, as those of the option that they say
abbrev pub tick? : ℕ → ℕ → Bool
tick? f v = same (f ∷ v ∷ []) (option_flag (tick_option f v) ∷ tick_value (tick_option f v) ∷ [])

reset_small : (r : ResetType) → reset_number r ≤ 2
reset_small OneShot = omega arith
reset_small Sticky = omega arith
reset_small Pulse = omega arith

reset_near : (n : ℕ) → n ≤ 2 → n ≡ reset_number (reset_from_raw n)
reset_near zero h = refl
reset_near (suc zero) h = refl
reset_near (suc (suc zero)) h = refl
reset_near (suc (suc (suc n))) h = absurd (omega arith)

reset_test : (n : ℕ) → eqb n (reset_number (reset_from_raw n)) ≡ leb n 2
reset_test n =
    t_same _ _ (t_as {P = n ≡ reset_number (reset_from_raw n)} {Q = n ≤ 2} (λ e. let h = reset_small (reset_from_raw n) in omega arith) (reset_near n) (t-eq n (reset_number (reset_from_raw n)))) (t-le n 2)

-- two words, then the rest
two_tests : (a b c d : ℕ) (xs ys : List ℕ) → same (a ∷ b ∷ xs) (c ∷ d ∷ ys) ≡ (eqb a c and eqb b d) and same xs ys
unfolding same
two_tests a b c d xs ys = and_assoc (eqb a c) (eqb b d) (same xs ys)

two-words : (a b c d : ℕ) (xs ys : List ℕ) → same (a ∷ b ∷ xs) (c ∷ d ∷ ys) ≡ same (a ∷ b ∷ []) (c ∷ d ∷ []) and same xs ys
two-words a b c d xs ys = same_append (a ∷ b ∷ []) (c ∷ d ∷ []) xs ys refl

resets : (a b : ℕ) (xs ys : List ℕ) → same (a ∷ b ∷ xs) (reset_number (reset_from_raw a) ∷ bool_byte (eqb b 1) ∷ ys) ≡ reset? a b and same xs ys
resets a b xs ys = two_tests a b (reset_number (reset_from_raw a)) (bool_byte (eqb b 1)) xs ys ∙ (λ i. (reset_test a i and flag-test b i) and same xs ys)

-- ---- the kinds that need a law of their own
module _ (w : ObjectWords) where
  abbrev pub whole : Bool
  whole = same (object_list w) (object_list (object_words (object_of w)))

  abbrev kinded : ℕ → Bool
  kinded k = same (object_list (words k w.a w.b w.c w.x w.y)) (object_list (object_words (object_of (words k w.a w.b w.c w.x w.y))))

  pub as_event : w.kind ≡ 2 → reset? w.a w.b and same (w.c ∷ w.x ∷ w.y ∷ []) (0 ∷ 0 ∷ 0 ∷ []) ≡ whole
  as_event e = sym (ap kinded e ∙ same-on 2 2 _ _ refl ∙ resets w.a w.b (w.c ∷ w.x ∷ w.y ∷ []) (0 ∷ 0 ∷ 0 ∷ []))

  pub as_timer : w.kind ≡ 5 → reset? w.a w.b and tick? w.c w.x ≡ whole
  as_timer e =
      let o = tick_option w.c w.x in
      let t : same (w.c ∷ w.x ∷ w.y ∷ []) (option_flag o ∷ tick_value o ∷ w.y ∷ []) ≡ tick? w.c w.x =
      two-words w.c w.x (option_flag o) (tick_value o) (w.y ∷ []) (w.y ∷ []) ∙ ap (λ (b : Bool). tick? w.c w.x and b)
      (same_refl (w.y ∷ [])) ∙ and-end (tick? w.c w.x) in
      sym (ap kinded e ∙ same-on 5 5 _ _ refl
      ∙ resets w.a w.b (w.c ∷ w.x ∷ w.y ∷ []) (option_flag o ∷ tick_value o ∷ w.y ∷ [])
      ∙ ap (λ (b : Bool). reset? w.a w.b and b) t)
