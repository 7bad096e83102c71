-- A guest call and collect: an accepted one leaves a block that question 2 accepts, a refused one leaves what was lent.
use Rattle.std.specs.Prelude.{◌≡◌, Bool, List, ℕ, ◌-◌, ◌≤◌, ◌<◌, eqb, leb, ltb, length}
use Rattle.std.proofs.Math.Path.{refl}
use Rattle.std.proofs.Common.{sym, ap, ◌∙◌, inl, inr, arith, le-leb, ltb-false}
use Rattle.std.proofs.Math.Bool.{true, false}
use Rattle.laws.specs.Logic.{pick, pick_yes, ◌and◌, ◌or◌}
use Rattle.codec.specs.Bytes.{num, le}
use Rattle.codec.proofs.Back.{Bytes}
use Rattle.codec.proofs.Fit.{le-lt, length-dec_all}
use Rattle.types.specs.declared.kernel.Kernel.{Kernel}
use Rattle.types.specs.Thread.{wait_list}
use Rattle.block.specs.Block.{enc_block}
use Rattle.soundness.specs.Fits.{Word}
use Rattle.soundness.specs.Slots.{pick-both}
use Rattle.svc.specs.declared.Registers.{Registers}
use Rattle.svc.specs.Table.{row_of, known?, bit, masked}
use Rattle.svc.specs.Dispatch.{words_read, given, runs?, too_many?, outside?, refusal}
use Rattle.svc.specs.Collect as svc
use Rattle.calling.specs.Call.{RegistersFit, Clear, Accepted}
use Rattle.calling.specs.Collect.{collect-sound}
use Rattle.parking.specs.Calls.{call-sound, call-answers}
use Rattle.demand.specs.Words.{calls, collects}
use Rattle.lent.specs.Lent.{Lent, lent, back, accepted?}
use Rattle.lent.specs.Operations.{out_of_handles?, finding}
use Rattle.lent.specs.Guest.{registers, window_ok, words_in, served, served_written, dispatch, collect_bytes, collect}
use Rattle.history.specs.Keeps.{Kept, Refusal, change-keeps}

-- ---- nothing was found
module _ (k : Kernel) where
  clear_as : (a b c d e f g : Bool) → ◌≡◌ {A = ℕ} (pick (a or (b or c)) 7 (pick (d or (e or (f or g))) 8 0)) 0
      → (a ≡ false) × (b ≡ false) × (c ≡ false) × (d ≡ false) × (e ≡ false) × (f ≡ false)
  unfolding ◌or◌
  clear_as true b c d e f g z = absurd (omega arith)
  clear_as false true c d e f g z = absurd (omega arith)
  clear_as false false true d e f g z = absurd (omega arith)
  clear_as false false false true e f g z = absurd (omega arith)
  clear_as false false false false true f g z = absurd (omega arith)
  clear_as false false false false false true g z = absurd (omega arith)
  clear_as false false false false false false g z = (refl, refl, refl, refl, refl, refl)

  pub nothing-found : finding k ≡ 0 → Clear k
  unfolding finding
  nothing-found z =
      let c = clear_as k.full k.objects.full k.handles.full k.overflow k.objects.overflow k.handles.overflow (out_of_handles? k) z in
      record { full = c.0; overflow = c.3; store_full = c.1; store_overflow = c.4; table_full = c.2; table_overflow = c.5 }

-- ---- questions 3 to 6
refusal_as : (a b c d : Bool) → Refusal (pick a (pick b (pick c 5 (pick d 6 0)) 4) 3)
unfolding accepted? ◌or◌ ◌and◌
refusal_as true true true d n = refl
refusal_as true true false true n = refl
refusal_as true true false false n = absurd (n refl)
refusal_as true false c d n = refl
refusal_as false b c d n = refl

refused_none : (a b c d : Bool) → ◌≡◌ {A = ℕ} (pick a (pick b (pick c 5 (pick d 6 0)) 4) 3) 0 → (b ≡ true) × (c ≡ false)
refused_none true true true d z = absurd (omega arith)
refused_none true true false d z = (refl, refl)
refused_none true false c d z = absurd (omega arith)
refused_none false b c d z = absurd (omega arith)

module _ (base len number : ℕ) (r : Registers) (k : Kernel) where
  call-refusal : Refusal (refusal base len number r k)
  unfolding refusal
  call-refusal = refusal_as (known? number) (runs? k) (too_many? number r) (outside? base len number r)

  -- a call that is not refused has a thread that runs, and 0x25 at most 12 handles
  pub call-asked : refusal base len number r k ≡ 0 → (runs? k ≡ true) × (too_many? number r ≡ false)
  unfolding refusal
  call-asked z = refused_none (known? number) (runs? k) (too_many? number r) (outside? base len number r) z

-- ---- what is lent are bytes, so registers are words
word_fits_lem : (p : List ℕ) (at : ℕ) → Bytes p → Word (le 4 p at)
word_fits_lem p at h = le-lt 4 p at h

masked-fits : (mask p v : ℕ) → Word v → Word (masked mask p v)
masked-fits mask p v w = pick-both Word (bit mask p) v 0 w (omega arith)

pub given-fits : (number : ℕ) (p : List ℕ) → Bytes p → RegistersFit (given number (registers p))
given-fits number p h =
    let m : ℕ = (row_of number).reads in
    record {
      r0 = masked-fits m 1 (le 4 p 0) (word_fits_lem p 0 h);
      r1 = masked-fits m 2 (le 4 p 4) (word_fits_lem p 4 h);
      r2 = masked-fits m 4 (le 4 p 8) (word_fits_lem p 8 h);
      r3 = masked-fits m 8 (le 4 p 12) (word_fits_lem p 12 h);
      r4 = masked-fits m 16 (le 4 p 16) (word_fits_lem p 16 h);
      r5 = masked-fits m 32 (le 4 p 20) (word_fits_lem p 20 h);
    }

-- at most 12 handles are read
pub few_words : (base number : ℕ) (w : List ℕ) (r : Registers) → too_many? number r ≡ false → eqb number 0x25 ≡ true → length (words_in base w number r) ≤ wait_list
unfolding too_many? ◌and◌
few_words base number w r t e =
    let n : words_read number r ≡ r.r2 = pick_yes (eqb number 0x25) r.r2 _ e in
    let m : ltb wait_list r.r2 ≡ false = sym (ap (λ (q : Bool). q and ltb wait_list r.r2) e) ∙ t in
    omega (arith, length-dec_all num 4 (words_read number r) w (r.r1 - base), n, ltb-false wait_list r.r2 m)

accepted-is : (n : ℕ) → Accepted n → accepted? n ≡ true
unfolding accepted? ◌or◌ ◌and◌
accepted-is n (inl e) = ap (λ (m : ℕ). eqb m 0 or (leb 16 m and leb m 18)) e
accepted-is n (inr h) = ap (λ (q : Bool). eqb n 0 or q) (rw (le-leb 16 n h.0, le-leb n 18 h.1)) ∙ or_yes (eqb n 0)
  where
    or_yes : (q : Bool) → q or true ≡ true
    or_yes true = refl
    or_yes false = refl

-- ---- a guest call
pub dispatch-keeps : (base number tick : ℕ) → tick < 18446744073709551616 → (l : Lent) → Bytes l.processor
    → Kept (calls number (registers l.processor) (words_in base l.window number (given number (registers l.processor))) tick) l (dispatch base number tick l)
unfolding dispatch
dispatch-keeps base number tick t l p =
    let r : Registers = given number (registers l.processor) in
    let words : List ℕ = words_in base l.window number r in
    change-keeps (calls number (registers l.processor) words tick) (refusal base (length l.window) number r)
    (λ k. back (served base number tick l k).answer (served_written base number l k (served base number tick l k))) l
    (record {
      refuses = λ k. call-refusal base (length l.window) number r k;
      number = λ k. accepted-is (served base number tick l k).answer (call-answers number k r words tick);
      block = λ k. refl;
      asked = λ k s q. let a = call-asked base (length l.window) number r k q in (s, a.0, t, few_words base number l.window r a.1);
      sound = λ k s q f.
          let a = call-asked base (length l.window) number r k q in
          call-sound number k r words tick (few_words base number l.window r a.1) (given-fits number l.processor p) t a.0 s (nothing-found _ f);
    })
    (eqb (length l.block) 16384 and (eqb (length l.bank) 6656 and (eqb (length l.processor) 208 and window_ok base l.window)))

-- ---- collect
runs-refusal : (b : Bool) → Refusal (pick b 0 4)
unfolding accepted? ◌or◌ ◌and◌
runs-refusal true n = absurd (n refl)
runs-refusal false n = refl

pub collect-keeps : (l : Lent) → Kept collects l (collect l)
unfolding collect accepted? ◌or◌ ◌and◌
collect-keeps l =
    change-keeps collects (λ k. pick (runs? k) 0 4) (λ k. back 0 (lent (enc_block (svc.collect k)) l.bank l.processor l.window (collect_bytes k))) l
    (record {
      refuses = λ k. runs-refusal (runs? k);
      number = λ k. refl;
      block = λ k. refl;
      asked = λ k s q. s;
      sound = λ k s q f. collect-sound k s;
    })
    (eqb (length l.block) 16384 and eqb (length l.answer) 12)
