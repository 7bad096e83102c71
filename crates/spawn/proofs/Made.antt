-- A block that holds a state, with a new thread written into it; what is found of a new thread. Assumes nothing.
use Rattle.std.proofs.lemmas.Grind.{common_steps}
use mathlib.Core.Path.{◌≡◌, refl, ap, subst, ◌∙◌}
use mathlib.Core.Bool.{Bool, true, false}
use mathlib.Core.List.{List}
use Prim.Native.Nat.{ℕ, ◌+◌, ◌<◌, min, max}
use Rattle.std.proofs.Common.{inl, inr, arith, lt-ltb, le-ltb}
use lib.Dec.{eqb, leb, ltb}
use Rattle.laws.specs.Logic.{pick, ◌or◌, lt-cases}
use Rattle.codec.specs.Bytes.{le}
use Rattle.codec.specs.Layout.{dec_as}
use Rattle.types.specs.declared.thread.Thread.{Thread}
use Rattle.types.specs.declared.object.ObjectStore.{ObjectStore}
use Rattle.types.specs.declared.kernel.Kernel.{Kernel}
use Rattle.block.specs.declared.Head.{Head}
use Rattle.block.specs.Block.{head_at, head_words, dec_block}
use Rattle.sound.specs.Objects.{kept_at}
use Rattle.object.specs.Store.{release}
use Rattle.soundness.specs.Objects.{release-full, release-overflow}
use Rattle.soundness.specs.Records.{drop_thread-full}
use Rattle.soundness.specs.Creates.{drop_thread-overflow}
use Rattle.soundness.specs.Kept.{unkept}
use Rattle.thread.specs.Thread.{new_thread}
use Rattle.thread.specs.Threads.{with_threads, least, tls_slot, ended_thread, let_go, forget_thread, create_thread}
use Rattle.lent.specs.Operations.{finding, out_of_handles?}
use Rattle.outcome.specs.Findings.{found_of}
use Rattle.rows.specs.Rows.{thread_put, head_put}
use Rattle.rows.specs.Holds.{Holds, put-thread, put-head}
use Rattle.release.specs.Encoded.{Encoded, encoded-holds, encoded-head}
use Rattle.spawn.specs.Made.{head_made}

-- how many threads there are, as it is read
pub count-is : (b : List ℕ) → le 4 b 4 ≡ (dec_block b).thread_count
unfolding dec_block dec_as
count-is b = refl

-- ---- the record and the head; e is the block with the thread before forgotten
module _ (e : List ℕ) (k : Kernel) (entry stack priority processor : ℕ) where
  abbrev reused : Bool
  reused = ltb (ended_thread k) k.thread_count

  abbrev store : ObjectStore
  store = pick reused (forget_thread k.objects (ended_thread k)) k.objects

  abbrev new : Thread
  new = new_thread entry stack (least priority 63) processor (tls_slot k) k.next_guest_id

  unfolded : Holds e (with_threads k k.threads store) → Holds (head_put (thread_put e (ended_thread k) new) (head_made (head_words (with_threads k k.threads store)) reused (tls_slot k))) (create_thread k entry stack priority processor)
  unfolding create_thread
  unfolded g = put-head (put-thread g (ended_thread k) new) (create_thread k entry stack priority processor) refl refl refl refl refl

  -- with the head h, the number id, the slot tls, n the threads there were
  pub made : Encoded e → (id : ℕ) → id ≡ ended_thread k → (tls : ℕ) → tls ≡ tls_slot k → (n : ℕ) → n ≡ k.thread_count
      → dec_block e ≡ with_threads k k.threads (pick (ltb id n) (forget_thread k.objects id) k.objects) → (h : Head) → h ≡ head_at e
      → Holds (head_put (thread_put e id (new_thread entry stack (least priority 63) processor tls h.next_guest_id)) (head_made h (ltb id n) tls)) (create_thread k entry stack priority processor)
  made en id ei tls et n en' d h eh =
      let q : dec_block e ≡ with_threads k k.threads store = rw (ei, en') at d in
      let w : h ≡ head_words (with_threads k k.threads store) = eh ∙ encoded-head e en ∙ ap head_words q in
      rw (w, ei, et, en') (unfolded (subst (Holds e) q (encoded-holds e en)))

-- ---- the next TLS slot to be given out, and the next guest id
pub next-slot : (tls n : ℕ) → max n (tls + 1) ≡ pick (ltb tls n) n (tls + 1)
next-slot tls n = elim (lt-cases tls n) [
  | inl h ↦ rw (lt-ltb tls n h) (omega arith)
  | inr h ↦ rw (le-ltb tls n h) (omega arith)
]

pub next-id : (n : ℕ) → n < 4294967296 → min (n + 1) 4294967295 ≡ pick (ltb n 4294967295) (n + 1) n
next-id n w = elim (lt-cases n 4294967295) [
  | inl h ↦ rw (lt-ltb n 4294967295 h) (omega arith)
  | inr h ↦ rw (le-ltb n 4294967295 h) (omega arith)
]

-- ---- what is found
let_go-full : (q : Bool) (s : ObjectStore) (t o : ℕ) → (pick q s (release (unkept s t) o)).full ≡ s.full
let_go-full true s t o = refl
let_go-full false s t o = release-full (unkept s t) o

let_go-overflow : (q : Bool) (s : ObjectStore) (t o : ℕ) → (pick q s (release (unkept s t) o)).overflow ≡ s.overflow
let_go-overflow true s t o = refl
let_go-overflow false s t o = release-overflow (unkept s t) o

pub forget_full : (r : Bool) (s : ObjectStore) (t : ℕ) → (pick r (forget_thread s t) s).full ≡ s.full
unfolding forget_thread
forget_full true s t = drop_thread-full 128 1 t (let_go s t) ∙ let_go-full (eqb (kept_at s t) 0) s t (kept_at s t)
forget_full false s t = refl

pub forget_overflow : (r : Bool) (s : ObjectStore) (t : ℕ) → (pick r (forget_thread s t) s).overflow ≡ s.overflow
unfolding forget_thread
forget_overflow true s t = drop_thread-overflow 128 1 t (let_go s t) ∙ let_go-overflow (eqb (kept_at s t) 0) s t (kept_at s t)
forget_overflow false s t = refl

found_none : (f v o : Bool) → ◌≡◌ {A = ℕ} (pick ((false or f) or (false or false)) 7 (pick ((false or v) or (false or (false or o))) 8 0)) (found_of f (v or o))
unfolding ◌or◌
found_none true v o = refl
found_none false true o = refl
found_none false false o = refl

found-parts : (f v g w o : Bool) → g ≡ false → w ≡ false → ◌≡◌ {A = ℕ} (pick ((false or f) or (g or false)) 7 (pick ((false or v) or (w or (false or o))) 8 0)) (found_of f (v or o))
found-parts f v g w o e h = (λ i. pick ((false or f) or (e i or false)) 7 (pick ((false or v) or (h i or (false or o))) 8 0)) ∙ found_none f v o

pub create-finding : (b : List ℕ) (entry stack priority processor : ℕ)
    → finding (create_thread (dec_block b) entry stack priority processor) ≡ found_of (leb 32 (ended_thread (dec_block b))) (leb 4294967295 (dec_block b).next_guest_id or out_of_handles? (dec_block b))
unfolding finding create_thread dec_block out_of_handles?
create-finding b entry stack priority processor =
    let k = dec_block b in
    let r = ltb (ended_thread k) k.thread_count in
    found-parts (leb 32 (ended_thread k)) (leb 4294967295 k.next_guest_id) _ _ (out_of_handles? k) (forget_full r k.objects (ended_thread k)) (forget_overflow r k.objects (ended_thread k))

pub ruleset heads = (common_steps, next-slot, next-id)
