-- An operation by the code's cases, one law a case for every operation of a sort. Assumes nothing.
use mathlib.Core.Path.{◌≡◌, refl, ap}
use mathlib.Core.Bool.{Bool, true, false}
use mathlib.Core.List.{List}
use Prim.Native.Nat.{ℕ, ◌*◌, ◌≤◌, ◌<◌}
use native.Mathlib.Omega.{arith}
use Rattle.std.proofs.lemmas.Grind.{common_steps}
use lib.Dec.{leb, eqb}
use lib.ListN.{length, take, drop, length-drop, get_or-eq_default}
use lib.Seq.{length-take-le}
use borrow.Author.Tests.{eq-eqb, ne_eqb, leb-false}
use Rattle.laws.specs.Logic.{pick, pick_yes, pick_no, ◌and◌, and_no, and_yes, ◌or◌, or-false}
use Rattle.codec.specs.Bytes.{same}
use Rattle.types.specs.declared.thread.Thread.{Thread}
use Rattle.types.specs.declared.kernel.Kernel.{Kernel}
use Rattle.types.specs.Thread.{is_dead}
use Rattle.block.specs.Block.{enc_block, dec_block}
use Rattle.sound.specs.View.{no_thread, thread_at}
use Rattle.sound.specs.Sound.{state?}
use Rattle.sound.specs.Question.{sound?}
use Rattle.thread.specs.Threads.{create_thread, ended_thread}
use Rattle.lent.specs.Lent.{Lent, with_answer, Back, back}
use Rattle.lent.specs.Operations.{out_of_handles?, inspect, finding, change}

module _ (lengths : Bool) (look : Kernel → List ℕ) (l : Lent) where
  pub inspect-1 : lengths ≡ false → back 1 l ≡ inspect lengths look l
  unfolding inspect
  inspect-1 e = rw e

  module _ (e : lengths ≡ true) (k : Kernel) (f : k ≡ dec_block l.block) (r : Bool) (g : r ≡ sound? l.block) where
    module _ (h : r ≡ true) (t : Bool) (q : t ≡ out_of_handles? k) where
      pub inspect-0 : t ≡ false → back 0 (with_answer l (look k)) ≡ inspect lengths look l
      unfolding inspect
      inspect-0 z = rw (e, ← g, h, ← f, ← q, z)

-- what it asks, one question after another
pub inspect-asks : (lengths : Bool) (look : Kernel → List ℕ) (l : Lent)
    → inspect lengths look l
    ≡ pick lengths
    (pick (sound? l.block)
    (pick (out_of_handles? (dec_block l.block)) (back 8 l) (back 0 (with_answer l (look (dec_block l.block)))))
    (back 2 l))
    (back 1 l)
unfolding inspect
inspect-asks lengths look l = refl

-- ---- an operation that changes the block
pub change-asks : (lengths : Bool) (refusal : Kernel → ℕ) (work : Kernel → Kernel) (result : Kernel → Back) (l : Lent)
    → change lengths refusal work result l
    ≡ pick lengths
    (pick (sound? l.block)
    (pick (eqb (refusal (dec_block l.block)) 0)
    (pick (eqb (finding (work (dec_block l.block))) 0) (result (dec_block l.block))
    (back (finding (work (dec_block l.block))) l))
    (back (refusal (dec_block l.block)) l))
    (back 2 l))
    (back 1 l)
unfolding change
change-asks lengths refusal work result l = refl

module _ (lengths : Bool) (refusal : Kernel → ℕ) (work : Kernel → Kernel) (result : Kernel → Back) (l : Lent) where
  pub change-1 : lengths ≡ false → back 1 l ≡ change lengths refusal work result l
  unfolding change
  change-1 e = rw e

  module _ (e : lengths ≡ true) (k : Kernel) (f : k ≡ dec_block l.block) (r : Bool) (g : r ≡ sound? l.block) where
    module _ (h : r ≡ true) (n : ℕ) (q : n ≡ refusal k) where
      pub change-own : (n ≡ 0 → ⊥) → back n l ≡ change lengths refusal work result l
      unfolding change
      change-own z = rw (e, ← g, h, ← f, ← q, ne_eqb n 0 z)

      module _ (z : n ≡ 0) (m : ℕ) (v : m ≡ finding (work k)) where
        pub change-found : (m ≡ 0 → ⊥) → back m l ≡ change lengths refusal work result l
        unfolding change
        change-found w = rw (e, ← g, h, ← f, ← q, eq-eqb n 0 z, ← v, ne_eqb m 0 w)

        pub change-0 : m ≡ 0 → result k ≡ change lengths refusal work result l
        unfolding change
        change-0 w = rw (e, ← g, h, ← f, ← q, eq-eqb n 0 z, ← v, eq-eqb m 0 w)

-- a number past the places reads as a Dead thread
pub dead-far : (ts : List Thread) (t : ℕ) → length ts ≤ t → is_dead (thread_at ts t).status ≡ true
dead-far ts t h = ap (λ (x : Thread). is_dead x.status) (get_or-eq_default ts no_thread h)

-- ---- no finding: nothing was too full, and nothing too large
pub nothing-full : (k : Kernel) → finding k ≡ 0 → k.full ≡ false
unfolding finding ◌or◌
nothing-full k e = go k.full e
  where
    go : (f : Bool) → ◌≡◌ {A = ℕ} (pick (f or (k.objects.full or k.handles.full)) 7 (pick (k.overflow or (k.objects.overflow or (k.handles.overflow or out_of_handles? k))) 8 0)) 0 → f ≡ false
    go true z = absurd (omega arith)
    go false z = refl

pub nothing-over : (k : Kernel) → finding k ≡ 0 → k.overflow ≡ false
unfolding finding ◌or◌
nothing-over k e = go (k.full or (k.objects.full or k.handles.full)) k.overflow e
  where
    go : (f v : Bool) → ◌≡◌ {A = ℕ} (pick f 7 (pick (v or (k.objects.overflow or (k.handles.overflow or out_of_handles? k))) 8 0)) 0 → v ≡ false
    go true v z = absurd (omega arith)
    go false true z = absurd (omega arith)
    go false false z = refl

pub nothing-over-objects : (k : Kernel) → finding k ≡ 0 → k.objects.overflow ≡ false
unfolding finding ◌or◌
nothing-over-objects k e = go (k.full or (k.objects.full or k.handles.full)) k.overflow k.objects.overflow e
  where
    go : (f v o : Bool) → ◌≡◌ {A = ℕ} (pick f 7 (pick (v or (o or (k.handles.overflow or out_of_handles? k))) 8 0)) 0 → o ≡ false
    go true v o z = absurd (omega arith)
    go false true o z = absurd (omega arith)
    go false false true z = absurd (omega arith)
    go false false false z = refl

-- a thread that fits has a place
pub made-place : (k : Kernel) (entry stack priority processor : ℕ) → finding (create_thread k entry stack priority processor) ≡ 0 → ended_thread k < 32
unfolding create_thread
made-place k entry stack priority processor e =
    leb-false 32 (ended_thread k) (or-false k.full (leb 32 (ended_thread k)) (nothing-full (create_thread k entry stack priority processor) e)).1

-- a row of the bank is whole
pub row-length : (s : List ℕ) (t : ℕ) → length s ≡ 6656 → t < 32 → length (take 208 (drop (t * 208) s)) ≡ 208
row-length s t e h = length-take-le 208 (drop (t * 208) s) (simp length-drop (omega arith))

-- what question 2 asks
pub sound-asks : (b : List ℕ) → sound? b ≡ same b (enc_block (dec_block b)) and state? (dec_block b)
unfolding sound?
sound-asks b = refl

pub ruleset cases = (common_steps, and_no, and_yes, pick_yes, pick_no, inspect-asks, change-asks)

pub ruleset questions = (common_steps, and_no, and_yes, sound-asks)
