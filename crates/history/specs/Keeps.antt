-- An accepted operation leaves a block that question 2 accepts; a refused one leaves the block.
use Rattle.std.specs.Prelude.{◌≡◌, Bool, not, List, ℕ, ◌%◌, ◌<◌, eqb, ltb, length, replicate}
use Rattle.std.proofs.Math.Path.{refl}
use Rattle.std.proofs.Common.{ap, sym, subst, ◌∙◌, arith, eqb-true, ltb-true}
use Rattle.std.proofs.Math.Bool.{true, false}
use Rattle.std.proofs.lemmas.Bool.{eqb-false}
use Rattle.codec.specs.Bytes.{bytes}
use Rattle.laws.specs.Logic.{pick, ◌and◌, ◌or◌, false-true}
use Rattle.types.specs.declared.kernel.Kernel.{Kernel}
use Rattle.types.specs.Thread.{is_dead}
use Rattle.block.specs.Block.{enc_block, dec_block}
use Rattle.sound.specs.View.{thread_at}
use Rattle.block.proofs.Fits.{block_back}
use Rattle.sound.specs.Sound.{Sound}
use Rattle.sound.specs.Question.{sound?}
use Rattle.sound.proofs.Question.{t_block, encoded-sound}
use Rattle.kernel.specs.Fresh.{fresh}
use Rattle.kernel.specs.NextEvent as kernel
use Rattle.kernel.proofs.FreshSound.{fresh-sound}
use Rattle.thread.specs.Threads as thread
use Rattle.soundness.specs.Creates.{create_thread-sound}
use Rattle.soundness.proofs.Ends.{end_thread-sound}
use Rattle.pass.specs.Schedule as pass
use Rattle.pass.specs.Asks as asks
use Rattle.passing.specs.Pass.{schedule-sound}
use Rattle.demand.specs.Words.{Doing, starts, creates, passes, looks, ends}
use Rattle.course.specs.Course.{effect}
use Rattle.course.specs.Course.{Asked}
use Rattle.lent.specs.Lent.{Lent, lent, with_answer, with_block, Back, back, accepted?}
use Rattle.lent.specs.Operations.{out_of_handles?, inspect, fresh_start, tick_bytes, next_event, finding, change, row_made, create_thread, pass_written, schedule, words, satisfied_bytes, satisfied_now, release_bytes, quiet_release, end_refusal, end_thread}
use Rattle.lent.proofs.Cases.{nothing-full, nothing-over, nothing-over-objects}

-- what holds of an operation on what was lent, which does d to the state
pub record Kept (d : Doing) (l : Lent) (r : Back) : Type 0 where
  pub sound : accepted? r.number ≡ true → sound? r.after.block ≡ true
  pub same : accepted? r.number ≡ false → r.after ≡ l
  pub asked : accepted? r.number ≡ true → Asked d (dec_block l.block)
  pub did : accepted? r.number ≡ true → dec_block r.after.block ≡ effect d (dec_block l.block)

-- a refusal
refused : (d : Doing) (l : Lent) (n : ℕ) → accepted? n ≡ false → Kept d l (back n l)
refused d l n e = record { sound = λ h. false-true (sym e ∙ h); same = λ h. refl; asked = λ h. false-true (sym e ∙ h); did = λ h. false-true (sym e ∙ h) }

-- ---- an operation that only looks
module _ (look : Kernel → List ℕ) (l : Lent) where
  looked_as : (t s q : Bool) → sound? l.block ≡ s
      → Kept looks l (pick t (pick s (pick q (back 8 l) (back 0 (with_answer l (look (dec_block l.block))))) (back 2 l)) (back 1 l))
  unfolding accepted? ◌or◌ ◌and◌
  looked_as true true true e = refused looks l 8 refl
  looked_as true true false e = record { sound = λ h. e; same = λ h. false-true (sym h); asked = λ h. ((t_block l.block).yes e).state; did = λ h. refl }
  looked_as true false q e = refused looks l 2 refl
  looked_as false s q e = refused looks l 1 refl

  pub inspect-keeps : (t : Bool) → Kept looks l (inspect t look l)
  unfolding inspect
  inspect-keeps t = looked_as t (sound? l.block) (out_of_handles? (dec_block l.block)) refl

-- ---- a fresh start
fresh_as : (w : ℕ) → w < 4294967296 → (l : Lent) (t : Bool)
    → Kept (starts w) l (pick t (back 0 (lent (enc_block (fresh w)) (replicate 6656 0) l.processor l.window l.answer)) (back 1 l))
unfolding accepted? ◌or◌ ◌and◌
fresh_as w h l true = record {
  sound = λ q. encoded-sound (fresh w) (fresh-sound w h);
  same = λ q. false-true (sym q);
  asked = λ q. tt;
  did = λ q. block_back (fresh w) (fresh-sound w h).fits;
}
fresh_as w h l false = refused (starts w) l 1 refl

pub fresh_keeps : (w : ℕ) → w < 4294967296 → (l : Lent) → Kept (starts w) l (fresh_start w l)
unfolding fresh_start
fresh_keeps w h l = fresh_as w h l (eqb (length l.block) 16384 and eqb (length l.bank) 6656)

pub next_event-keeps : (l : Lent) → Kept looks l (next_event l)
unfolding next_event
next_event-keeps l = inspect-keeps (λ k. tick_bytes (kernel.next_event k)) l (eqb (length l.block) 16384 and eqb (length l.answer) 16)

pub satisfied_now-keeps : (handles : List ℕ) (all tick : ℕ) (l : Lent) → Kept looks l (satisfied_now handles all tick l)
unfolding satisfied_now
satisfied_now-keeps handles all tick l =
    inspect-keeps (λ k. satisfied_bytes (asks.satisfied_now k (words handles) (not (eqb all 0)) tick)) l
    (eqb (length l.block) 16384 and (eqb (length handles % 4) 0 and eqb (length l.answer) 40))

pub quiet_release-keeps : (handle tick : ℕ) (l : Lent) → Kept looks l (quiet_release handle tick l)
unfolding quiet_release
quiet_release-keeps handle tick l = inspect-keeps (λ k. release_bytes (asks.quiet_release k handle tick)) l (eqb (length l.block) 16384 and eqb (length l.answer) 12)

-- ---- an operation that changes the block
-- a refusal of its own is none of the accepted numbers
abbrev pub Refusal : ℕ → Type 0
Refusal n = (n ≡ 0 → ⊥) → accepted? n ≡ false

finding-refusal : (k : Kernel) → Refusal (finding k)
unfolding finding accepted? ◌or◌ ◌and◌
finding-refusal k = go (k.full or (k.objects.full or k.handles.full)) (k.overflow or (k.objects.overflow or (k.handles.overflow or out_of_handles? k)))
  where
    go : (a b : Bool) → Refusal (pick a 7 (pick b 8 0))
    go true b n = refl
    go false true n = refl
    go false false n = absurd (n refl)

-- what such an operation must show: what it gives has an accepted number and the state's block, and from a sound state that it is not
-- refused in and in which it finds nothing it leaves a sound one
pub record Works (d : Doing) (refusal : Kernel → ℕ) (result : Kernel → Back) : Type 0 where
  pub refuses : (k : Kernel) → Refusal (refusal k)
  pub number : (k : Kernel) → accepted? (result k).number ≡ true
  pub block : (k : Kernel) → (result k).after.block ≡ enc_block (effect d k)
  pub asked : (k : Kernel) → Sound k → refusal k ≡ 0 → Asked d k
  pub sound : (k : Kernel) → Sound k → refusal k ≡ 0 → finding (effect d k) ≡ 0 → Sound (effect d k)

module _ (d : Doing) (refusal : Kernel → ℕ) (result : Kernel → Back) (l : Lent) (w : Works d refusal result) where
  abbrev k : Kernel
  k = dec_block l.block

  done : sound? l.block ≡ true → refusal k ≡ 0 → finding (effect d k) ≡ 0 → Kept d l (result k)
  done s q f =
      let before : Sound k = ((t_block l.block).yes s).state in
      let after : Sound (effect d k) = w.sound k before q f in
      record {
        sound = λ h. subst (λ (b : List ℕ). sound? b ≡ true) (sym (w.block k)) (encoded-sound (effect d k) after);
        same = λ h. false-true (sym h ∙ w.number k);
        asked = λ h. w.asked k before q;
        did = λ h. ap dec_block (w.block k) ∙ block_back (effect d k) after.fits;
      }

  changed-as : (t s q r : Bool) → sound? l.block ≡ s → eqb (refusal k) 0 ≡ q → eqb (finding (effect d k)) 0 ≡ r
      → Kept d l (pick t (pick s (pick q (pick r (result k) (back (finding (effect d k)) l)) (back (refusal k) l)) (back 2 l)) (back 1 l))
  unfolding accepted? ◌or◌ ◌and◌
  changed-as true true true true e f g = done e (eqb-true (refusal k) 0 f) (eqb-true (finding (effect d k)) 0 g)
  changed-as true true true false e f g = refused d l (finding (effect d k)) (finding-refusal (effect d k) (eqb-false (finding (effect d k)) 0 g))
  changed-as true true false r e f g = refused d l (refusal k) (w.refuses k (eqb-false (refusal k) 0 f))
  changed-as true false q r e f g = refused d l 2 refl
  changed-as false s q r e f g = refused d l 1 refl

  pub change-keeps : (t : Bool) → Kept d l (change t refusal (λ k. effect d k) result l)
  unfolding change
  change-keeps t = changed-as t (sound? l.block) (eqb (refusal k) 0) (eqb (finding (effect d k)) 0) refl refl refl

-- ---- a thread is made
pub create_thread-keeps : (entry stack arg priority processor : ℕ) → entry < 4294967296 → stack < 4294967296 → processor < 4294967296
    → (l : Lent) → Kept (creates entry stack priority processor) l (create_thread entry stack arg priority processor l)
unfolding create_thread accepted? ◌or◌ ◌and◌
create_thread-keeps entry stack arg priority processor we ws wp l =
    change-keeps (creates entry stack priority processor) (λ k. 0)
    (λ k. back 0 (lent (enc_block (thread.create_thread k entry stack priority processor)) (row_made l.bank k entry stack arg) l.processor l.window (bytes 4 (thread.ended_thread k)))) l
    (record {
      refuses = λ k n. absurd (n refl);
      number = λ k. refl;
      block = λ k. refl;
      asked = λ k s q. s;
      sound = λ k s q f. let m : Kernel = thread.create_thread k entry stack priority processor in create_thread-sound k entry stack priority processor s we ws wp (nothing-full m f) (nothing-over m f);
    })
    (eqb (length l.block) 16384 and (eqb (length l.bank) 6656 and eqb (length l.answer) 4))

-- ---- a pass
pub schedule-keeps : (tick : ℕ) → tick < 18446744073709551616 → (l : Lent) → Kept (passes tick) l (schedule tick l)
unfolding schedule accepted? ◌or◌ ◌and◌
schedule-keeps tick h l =
    change-keeps (passes tick) (λ k. 0) (λ k. back 0 (pass_written l (pass.schedule k tick))) l
    (record {
      refuses = λ k n. absurd (n refl);
      number = λ k. refl;
      block = λ k. refl;
      asked = λ k s q. (s, h);
      sound = λ k s q f. schedule-sound k tick h s (nothing-over-objects (pass.schedule k tick).kernel f);
    })
    (eqb (length l.block) 16384 and (eqb (length l.bank) 6656 and (eqb (length l.processor) 208 and eqb (length l.answer) 4)))

-- ---- a thread ends
end-refusal : (t : ℕ) (k : Kernel) → Refusal (end_refusal t k)
unfolding end_refusal accepted? ◌or◌ ◌and◌
end-refusal t k = go (ltb t k.thread_count) (is_dead (thread_at k.threads t).status)
  where
    go : (a b : Bool) → Refusal (pick a (pick b 4 0) 4)
    go true true n = refl
    go true false n = absurd (n refl)
    go false b n = refl

end_exists : (t : ℕ) (k : Kernel) → end_refusal t k ≡ 0 → t < k.thread_count
unfolding end_refusal
end_exists t k e = go (ltb t k.thread_count) refl e
  where
    go : (a : Bool) → ltb t k.thread_count ≡ a → ◌≡◌ {A = ℕ} (pick a (pick (is_dead (thread_at k.threads t).status) 4 0) 4) 0 → t < k.thread_count
    go true f z = ltb-true t k.thread_count f
    go false f z = absurd (omega arith)

pub end_thread-keeps : (t : ℕ) (l : Lent) → Kept (ends t) l (end_thread t l)
unfolding end_thread accepted? ◌or◌ ◌and◌
end_thread-keeps t l =
    change-keeps (ends t) (end_refusal t) (λ k. back 0 (with_block l (enc_block (thread.end_thread k t)))) l
    (record {
      refuses = end-refusal t;
      number = λ k. refl;
      block = λ k. refl;
      asked = λ k s q. s;
      sound = λ k s q f. end_thread-sound k t (end_exists t k q) s;
    })
    (eqb (length l.block) 16384)
