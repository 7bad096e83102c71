-- The rule of the call table, over the whole table: a call reads no register outside its row's read mask, and no register outside
-- its written mask changes. Assumes nothing.
use Rattle.std.specs.Prelude.{◌≡◌, Bool, true, false, List, ◌++◌, ℕ, ◌+◌, ◌≤◌, eqb, length, take, drop, Option, Some}
use Rattle.std.specs.Prelude.{None}
use Rattle.std.proofs.Math.Path.{refl, subst}
use Rattle.std.proofs.Common.{ap, ◌∙◌, arith, length-drop, drop-drop, length-take-le}
use Rattle.laws.specs.Logic.{pick, ◌and◌}
use Rattle.codec.specs.Bytes.{bytes, le}
use Rattle.codec.proofs.Laws.{bytes-num}
use Rattle.codec.proofs.Back.{Bytes, bytes_part}
use Rattle.types.specs.declared.kernel.Kernel.{Kernel}
use Rattle.svc.specs.declared.Registers.{Registers}
use Rattle.svc.specs.declared.Served.{Served}
use Rattle.svc.specs.Table.{row_of, bit, written_as, written}
use Rattle.block.specs.Block.{enc_block, dec_block}
use Rattle.sound.specs.Question.{sound?}
use Rattle.svc.specs.Dispatch.{given, refusal, call}
use Rattle.lent.specs.Lent.{Lent, lent, Back, back}
use Rattle.lent.specs.Operations.{finding, change}
use Rattle.lent.specs.Guest.{registers, window_ok, words_in, served, processor_after, window_after, bank_after, dispatch}

-- ---- what a call reads
-- two processors that agree on the registers of a mask
abbrev pub Agree : ℕ → Registers → Registers → Type 0
Agree mask a b =
    (bit mask 1 ≡ true → a.r0 ≡ b.r0) × (bit mask 2 ≡ true → a.r1 ≡ b.r1) × (bit mask 4 ≡ true → a.r2 ≡ b.r2)
    × (bit mask 8 ≡ true → a.r3 ≡ b.r3) × (bit mask 16 ≡ true → a.r4 ≡ b.r4) × (bit mask 32 ≡ true → a.r5 ≡ b.r5)

masked_same : (t : Bool) (v w : ℕ) → (t ≡ true → v ≡ w) → pick t v 0 ≡ pick t w 0
masked_same true v w h = h refl
masked_same false v w h = refl

given-same : (number : ℕ) (a b : Registers) → Agree (row_of number).reads a b → given number a ≡ given number b
given-same number a b (h0, h1, h2, h3, h4, h5) =
    let m : ℕ = (row_of number).reads in
    rw (masked_same (bit m 1) _ _ h0, masked_same (bit m 2) _ _ h1, masked_same (bit m 4) _ _ h2, masked_same (bit m 8) _ _ h3, masked_same (bit m 16) _ _ h4, masked_same (bit m 32) _ _ h5)

-- what the call does is the same
pub reads_only : (base number tick : ℕ) (l m : Lent) (k : Kernel) → l.window ≡ m.window
    → Agree (row_of number).reads (registers l.processor) (registers m.processor) → served base number tick l k ≡ served base number tick m k
reads_only base number tick l m k w h =
    let g : Registers = given number (registers m.processor) in
    ap (λ (x : Registers). call number k x (words_in base l.window number x) tick) (given-same number (registers l.processor) (registers m.processor) h)
    ∙ ap (λ (x : List ℕ). call number k g (words_in base x number g) tick) w

-- the same number, and all that is lent but the processor is the same afterwards
abbrev pub Alike : Back → Back → Type 0
Alike a b = (a.number ≡ b.number) × (a.after.block ≡ b.after.block) × (a.after.bank ≡ b.after.bank) × (a.after.window ≡ b.after.window)

pick_alike : (t : Bool) (x y u v : Back) → Alike x u → Alike y v → Alike (pick t x y) (pick t u v)
pick_alike true x y u v h g = h
pick_alike false x y u v h g = g

-- `dispatch` by the answer to question 1 and the registers that the call is given
abbrev guest_call : ℕ → ℕ → ℕ → Bool → Registers → Lent → Back
guest_call base number tick lengths r l =
    let does : Kernel → Served = λ k. call number k r (words_in base l.window number r) tick in
    change lengths (refusal base (length l.window) number r) (λ k. (does k).kernel)
    (λ k. back (does k).answer (lent (enc_block (does k).kernel) (bank_after number l.bank k r) (processor_after number l.processor (does k)) (window_after base l.window r (does k).word) l.answer)) l

module _ (base number tick : ℕ) (b k p q w a : List ℕ) where
  by_given : (lengths : Bool) (r : Registers) → Alike (guest_call base number tick lengths r (lent b k p w a)) (guest_call base number tick lengths r (lent b k q w a))
  unfolding change
  by_given lengths r =
      pick_alike lengths _ _ _ _
      (pick_alike (sound? b) _ _ _ _
      (pick_alike (eqb (refusal base (length w) number r (dec_block b)) 0) _ _ _ _
      (pick_alike (eqb (finding (call number (dec_block b) r (words_in base w number r) tick).kernel) 0) _ _ _ _ (refl, refl, refl, refl) (refl, refl, refl, refl))
      (refl, refl, refl, refl))
      (refl, refl, refl, refl))
      (refl, refl, refl, refl)

  -- two processors that agree on the registers that the call reads
  pub processors_alike : length p ≡ length q → Agree (row_of number).reads (registers p) (registers q)
      → Alike (dispatch base number tick (lent b k p w a)) (dispatch base number tick (lent b k q w a))
  unfolding dispatch
  processors_alike e h =
      subst (λ (n : ℕ). Alike (dispatch base number tick (lent b k p w a))
      (guest_call base number tick (eqb (length b) 16384 and (eqb (length k) 6656 and (eqb n 208 and window_ok base w))) (given number (registers q)) (lent b k q w a))) e
      (subst (λ (r : Registers). Alike (dispatch base number tick (lent b k p w a))
      (guest_call base number tick (eqb (length b) 16384 and (eqb (length k) 6656 and (eqb (length p) 208 and window_ok base w))) r (lent b k q w a)))
      (given-same number (registers p) (registers q) h)
      (by_given (eqb (length b) 16384 and (eqb (length k) 6656 and (eqb (length p) 208 and window_ok base w))) (given number (registers p))))

-- ---- what a call writes
kept : (t : Bool) (w : Option ℕ) (old : ℕ) → t ≡ false → written_as t w old ≡ old
kept t None old e = refl
kept t (Some v) old e = rw e

-- the two words that may change, then the rest as before
after_is : (number : ℕ) (p : List ℕ) (s : Served)
    → processor_after number p s ≡ bytes 4 (written (row_of number).writes 1 s.r0 (le 4 p 0)) ++ (bytes 4 (written (row_of number).writes 2 s.r1 (le 4 p 4)) ++ drop 8 p)
unfolding bytes
after_is number p s = rw (drop-drop 4 4 p)

first : (v : ℕ) (t : List ℕ) → take 4 (bytes 4 v ++ t) ≡ bytes 4 v
unfolding bytes
first v t = refl

second : (u v : ℕ) (t : List ℕ) → take 4 (drop 4 (bytes 4 u ++ (bytes 4 v ++ t))) ≡ bytes 4 v
unfolding bytes
second u v t = refl

third : (u v : ℕ) (t : List ℕ) → drop 8 (bytes 4 u ++ (bytes 4 v ++ t)) ≡ t
unfolding bytes
third u v t = refl

word_back : (p : List ℕ) (at : ℕ) → Bytes p → at + 4 ≤ length p → bytes 4 (le 4 p at) ≡ take 4 (drop at p)
word_back p at b h =
    let e : length (take 4 (drop at p)) ≡ 4 = length-take-le 4 (drop at p) (simp length-drop (omega arith)) in
    subst (λ (n : ℕ). bytes n (le 4 p at) ≡ take 4 (drop at p)) e (bytes-num (take 4 (drop at p)) (bytes_part p at 4 b))

-- every register outside the written mask is as before: r0, r1, and all from r2 on
pub writes_only : (number : ℕ) (p : List ℕ) (s : Served) → Bytes p → 8 ≤ length p
    → (bit (row_of number).writes 1 ≡ false → take 4 (processor_after number p s) ≡ take 4 p)
    × (bit (row_of number).writes 2 ≡ false → take 4 (drop 4 (processor_after number p s)) ≡ take 4 (drop 4 p))
    × (drop 8 (processor_after number p s) ≡ drop 8 p)
writes_only number p s b h = (r0-kept, r1-kept, rest-kept)
  where
    r0-kept : bit (row_of number).writes 1 ≡ false → take 4 (processor_after number p s) ≡ take 4 p
    r0-kept e = rw (after_is number p s) (first _ _ ∙ (ap (bytes 4) (kept _ s.r0 (le 4 p 0) e) ∙ word_back p 0 b (omega (arith, h))))

    r1-kept : bit (row_of number).writes 2 ≡ false → take 4 (drop 4 (processor_after number p s)) ≡ take 4 (drop 4 p)
    r1-kept e = rw (after_is number p s) (second _ _ _ ∙ (ap (bytes 4) (kept _ s.r1 (le 4 p 4) e) ∙ word_back p 4 b h))

    rest-kept : drop 8 (processor_after number p s) ≡ drop 8 p
    rest-kept = rw (after_is number p s) (third _ _ _)
