-- Threads woken one by one in a block, and a signal at an address there. Assumes nothing.
use mathlib.Core.Path.{◌≡◌, refl, sym, ap, subst, ◌∙◌}
use mathlib.Core.Bool.{Bool, true, false}
use mathlib.Core.List.{List, [], ◌∷◌}
use Prim.Native.Nat.{ℕ, zero, suc, ◌+◌, ◌*◌, ◌≤◌, ◌<◌}
use native.Mathlib.Numerals.{add-one}
use native.Mathlib.Omega.{arith}
use lib.Dec.{eqb}
use lib.ListN.{length, get_or, set, take, drop}
use lib.Seq.{drop-drop}
use borrow.Author.Tests.{lt-ltb}
use Rattle.laws.specs.Logic.{pick}
use Rattle.codec.specs.Bytes.{over}
use Rattle.codec.specs.Layout.{enc_all}
use Rattle.codec.proofs.Laws.{length_over, drop-over}
use Rattle.types.specs.declared.thread.Thread.{Thread}
use Rattle.types.specs.declared.object.Slot.{Slot}
use Rattle.types.specs.declared.object.ObjectStore.{ObjectStore}
use Rattle.types.specs.declared.kernel.Kernel.{Kernel}
use Rattle.types.specs.Object.{head_of}
use Rattle.block.specs.declared.Head.{Head}
use Rattle.block.specs.Table.{enc_waiter}
use Rattle.block.specs.Thread.{enc_thread, dec_thread}
use Rattle.block.specs.Block.{head_words, dec_block}
use Rattle.block.proofs.Sizes.{length-enc_thread}
use Rattle.sound.specs.View.{thread_at, no_thread, slot_at, object_at}
use Rattle.sound.specs.Records.{chain_of}
use Rattle.sound.specs.Question.{sound?}
use Rattle.object.specs.declared.waiters.Links.{Links}
use Rattle.object.specs.Slots.{with_object}
use Rattle.object.specs.Waiters.{with_head, relinked}
use Rattle.thread.specs.Threads.{with_threads}
use Rattle.svc.specs.Arbiter.{woken_up, signal_address}
use Rattle.rows.specs.Rows.{thread_put, slot_put, head_put}
use Rattle.rows.specs.Holds.{Holds, holds, put-thread, put-slot, put-waiters, put-head}
use Rattle.rows.specs.Sizes.{size-threads}
use Rattle.due.proofs.Looked.{thread-is}
use Rattle.arbiter.specs.Marks.{parked_marks, marks_after, unlink_marked, wake_marked}
use Rattle.arbiter.proofs.Wakes.{signal-is, signal-none}

-- ---- the first i threads done; n is the number of the first
module _ (p : List ℕ) where
  abbrev wakes : ℕ → Bool
  wakes n = eqb (get_or p n 0) 2

  abbrev woken_one : ℕ → Thread → Thread
  woken_one n t = pick (wakes n) (woken_up t) t

  unfoldable pub woken_to : ℕ → ℕ → List Thread → List Thread
  woken_to zero n l = l
  woken_to (suc i) n [] = []
  woken_to (suc i) n (t ∷ ts) = woken_one n t ∷ woken_to i (suc n) ts

  woken-set : (i n : ℕ) (l : List Thread) → i < length l → wakes (i + n) ≡ true
      → set (woken_to i n l) i (woken_up (get_or l i no_thread)) ≡ woken_to (suc i) n l
  unfolding woken_to
  woken-set i n [] h e = absurd (omega arith)
  woken-set zero n (t ∷ ts) h e = let z : 0 + n ≡ n = omega arith in let f = rw z at e in rw f
  woken-set (suc i) n (t ∷ ts) h e =
      let z : suc i + n ≡ i + suc n = omega arith in
      ap (λ x. woken_one n t ∷ x) (woken-set i (suc n) ts (omega arith) (rw z at e))

  -- a thread that stays as it is needs no write
  woken_skip : (i n : ℕ) (l : List Thread) → i < length l → wakes (i + n) ≡ false
      → woken_to i n l ≡ woken_to (suc i) n l
  unfolding woken_to
  woken_skip i n [] h e = absurd (omega arith)
  woken_skip zero n (t ∷ ts) h e = let z : 0 + n ≡ n = omega arith in let f = rw z at e in rw f
  woken_skip (suc i) n (t ∷ ts) h e =
      let z : suc i + n ≡ i + suc n = omega arith in
      ap (λ x. woken_one n t ∷ x) (woken_skip i (suc n) ts (omega arith) (rw z at e))

  woken-full : (i n : ℕ) (l : List Thread) → length l ≤ i → woken_to i n l ≡ wake_marked p n l
  unfolding woken_to wake_marked
  woken-full zero n [] h = refl
  woken-full zero n (t ∷ ts) h = absurd (omega arith)
  woken-full (suc i) n [] h = refl
  woken-full (suc i) n (t ∷ ts) h = ap (λ x. woken_one n t ∷ x) (woken-full i (suc n) ts (omega arith))

-- ---- one turn; s is the block before the first
module _ (p : List ℕ) (s : List ℕ) where
  abbrev before : List Thread
  before = (dec_block s).threads

  abbrev woken_state : List Thread → Kernel
  woken_state l = with_threads (dec_block s) l (dec_block s).objects

  -- the first i threads are done, the others as they were
  pub record WokenTo (i : ℕ) (b : List ℕ) : Type 0 where
    pub size : length b ≡ 16384
    pub state : Holds b (woken_state (woken_to p i 0 before))
    pub rest : drop (128 + i * 160) b ≡ drop (128 + i * 160) s

  pub woken-none : length s ≡ 16384 → sound? s ≡ true → WokenTo 0 s
  unfolding woken_to
  woken-none n e = record { size = n; state = holds s e; rest = refl }

  module _ (i : ℕ) (b : List ℕ) (h : i < 32) (g : WokenTo i b) where
    old-is : thread_at (dec_block b).threads i ≡ thread_at before i
    old-is = sym (thread-is b i h) ∙ ap (λ x. dec_thread (take 160 x)) g.rest ∙ thread-is s i h

    -- past row i
    next : (x : List ℕ) → drop (128 + (i + 1) * 160) x ≡ drop 160 (drop (128 + i * 160) x)
    next x = let e : 128 + (i + 1) * 160 ≡ 128 + i * 160 + 160 = omega arith in rw (e, drop-drop)

    rest-next : drop (128 + (i + 1) * 160) b ≡ drop (128 + (i + 1) * 160) s
    rest-next = next b ∙ ap (drop 160) g.rest ∙ sym (next s)

    add-zero-i : i + 0 ≡ i
    add-zero-i = omega arith

    pub woken-next : eqb (get_or p i 0) 2 ≡ false → WokenTo (i + 1) b
    woken-next e =
        let z = add-zero-i in
        let r : woken_to p i 0 before ≡ woken_to p (i + 1) 0 before =
        rw (add-one i) (woken_skip p i 0 before (omega (arith, size-threads s)) (rw z e)) in
        record { size = g.size; state = subst (λ l. Holds b (woken_state l)) r g.state; rest = rest-next }

    put_is : (x : Thread) → thread_put b i x ≡ over b (128 + i * 160) (enc_thread x)
    unfolding thread_put
    put_is x = rw (lt-ltb i 32 h)

    pub woken-more : eqb (get_or p i 0) 2 ≡ true → (t x : Thread) → t ≡ thread_at (dec_block b).threads i
        → x ≡ woken_up t → WokenTo (i + 1) (thread_put b i x)
    woken-more e t x et ex =
        let z = add-zero-i in
        let l = length-enc_thread x in
        let n : 128 + i * 160 + length (enc_thread x) ≤ length b = omega (arith, l, g.size) in
        let f : x ≡ woken_up (get_or before i no_thread) = ex ∙ ap woken_up (et ∙ old-is) in
        let w : set (woken_to p i 0 before) i x ≡ woken_to p (i + 1) 0 before =
        rw (add-one i, f) (woken-set p i 0 before (omega (arith, size-threads s)) (rw z e)) in
        let q : 128 + i * 160 + length (enc_thread x) + 0 ≡ 128 + (i + 1) * 160 = omega (arith, l) in
        let v = put_is x in
        record {
          size = ap length v ∙ length_over b (128 + i * 160) (enc_thread x) n ∙ g.size;
          state = subst (λ y. Holds (thread_put b i x) (woken_state y)) w (put-thread g.state i x);
          rest = ap (drop (128 + (i + 1) * 160)) v ∙ subst (λ n. drop n (over b (128 + i * 160) (enc_thread x)) ≡ drop n b) q (drop-over b (128 + i * 160) (enc_thread x) 0 (omega (arith, g.size))) ∙ rest-next;
        }

  pub woken-all : (b : List ℕ) → WokenTo 32 b → Holds b (woken_state (wake_marked p 0 before))
  woken-all b g = subst (λ l. Holds b (woken_state l)) (woken-full p 32 0 before (omega (arith, size-threads s))) g.state

-- ---- the whole; e is the block after the threads woke
module _ (b e : List ℕ) (o a value : ℕ) where
  abbrev k : Kernel
  k = dec_block b

  abbrev s : ObjectStore
  s = k.objects

  abbrev pub marks : List ℕ
  marks = marks_after s.waiters a value (parked_marks k.threads a) 0 (chain_of s o)

  abbrev pub unlinked : Links
  unlinked = unlink_marked s.waiters a value (parked_marks k.threads a) 0 s.free_waiter (chain_of s o)

  pub unsignaled : sound? b ≡ true → head_of (object_at s o) ≡ 0 → Holds b (signal_address k o a value)
  unsignaled f n = subst (Holds b) (signal-none k o a value n) (holds b f)

  pub signaled : (h : Head) → h ≡ head_words k → (x : Slot) → x ≡ slot_at s.slots o → (u : Links) → u ≡ unlinked
      → length u.waiters ≡ 64
      → Holds e (with_threads k (wake_marked marks 0 k.threads) s)
      → Holds (head_put (slot_put (over e 12416 (enc_all enc_waiter u.waiters)) o (with_object x (with_head x.object u.head))) (record h { free_waiter = u.free })) (signal_address k o a value)
  signaled h eh x ex u eu n g =
      let m : length unlinked.waiters ≡ 64 = ap (λ (z : Links). length z.waiters) (sym eu) ∙ n in
      subst (Holds _) (signal-is k o a value)
      (rw (eh, ex, eu)
      (put-head (put-slot (put-waiters g unlinked.waiters m) o _)
      (with_threads k (wake_marked marks 0 k.threads) (relinked s o unlinked)) refl refl refl refl refl))
