-- What forgetting an ended thread leaves of the free slots and of the kept objects. Assumes nothing.
use Rattle.std.proofs.lemmas.Grind.{common_steps}
use Rattle.codec.specs.Bytes.{le}
use Rattle.codec.specs.Layout.{dec_as}
use Rattle.block.specs.Block.{dec_block}
use Rattle.sound.specs.Question.{sound?}
use Rattle.sound.proofs.Question.{t_block}
use mathlib.Core.Path.{◌≡◌, refl, sym, ap, ◌∙◌}
use mathlib.Core.Bool.{Bool, true, false}
use mathlib.Core.List.{List, [], ◌∷◌}
use mathlib.Core.Logic.{inl, inr}
use Prim.Native.Nat.{ℕ, zero, suc, ◌<◌}
use native.Mathlib.Omega.{arith}
use lib.Dec.{eqb, leb, ltb}
use lib.ListN.{get_or, set}
use borrow.Author.Tests.{eqb-true, eqb-false, leb-true, lt-leb, ltb-false}
use Rattle.laws.specs.Logic.{pick, pick_yes, pick_no, lt-cases, or_no}
use Rattle.units.specs.declared.ObjectId.{ObjectId}
use Rattle.types.specs.declared.thread.Thread as th
use Rattle.types.specs.declared.object.KObject.{KObject}
use Rattle.types.specs.declared.object.KObject.TheVariants.{Free, Thread, Event, Mutex, Semaphore, Timer, AddressArbiter, Process, ResourceLimit}
use Rattle.types.specs.declared.object.ObjectStore.{ObjectStore}
use Rattle.types.specs.declared.kernel.Kernel.{Kernel}
use Rattle.sound.specs.View.{ids, slot_at, object_at}
use Rattle.sound.specs.Objects.{of_thread, ref_of, kept_at, ContentOk}
use Rattle.sound.specs.Sound.{Sound}
use Rattle.object.specs.Store.{is_free, refcount, release, release_if}
use Rattle.object.specs.Waiters.{of_others, retain, drop_thread}
use Rattle.soundness.specs.Slots.{pick-both}
use Rattle.soundness.specs.Objects.{release-rest}
use Rattle.soundness.specs.Kept.{unkept}
use Rattle.soundness.specs.Creates.{ended-thread}
use Rattle.thread.specs.Threads.{ended_thread, let_go, forget_thread}
use Rattle.threads.specs.Made.{made_store}

-- ---- a thread's object names a thread that is there
thread-below : (n : ℕ) (ts : List th.Thread) (x : KObject) (t : ℕ) → ref_of x ≡ of_thread t → ContentOk n ts x → t < n
thread-below n ts (Free m) t e c = absurd (let z : ◌≡◌ {A = ℕ} 0 1 = cc in omega arith)
thread-below n ts (Thread u) t e c = let z : u ≡ t = cc in omega arith
thread-below n ts (Event v) t e c = absurd (let z : ◌≡◌ {A = ℕ} 0 1 = cc in omega arith)
thread-below n ts (Mutex m) t e c = absurd (let z : ◌≡◌ {A = ℕ} 0 1 = cc in omega arith)
thread-below n ts (Semaphore m) t e c = absurd (let z : ◌≡◌ {A = ℕ} 0 1 = cc in omega arith)
thread-below n ts (Timer m) t e c = absurd (let z : ◌≡◌ {A = ℕ} 0 1 = cc in omega arith)
thread-below n ts (AddressArbiter m) t e c = absurd (let z : ◌≡◌ {A = ℕ} 0 1 = cc in omega arith)
thread-below n ts Process t e c = absurd (let z : ◌≡◌ {A = ℕ} 0 1 = cc in omega arith)
thread-below n ts ResourceLimit t e c = absurd (let z : ◌≡◌ {A = ℕ} 0 1 = cc in omega arith)

thread-used : (x : KObject) (t : ℕ) → ref_of x ≡ of_thread t → is_free x ≡ false
thread-used (Free m) t e = absurd (let z : ◌≡◌ {A = ℕ} 0 1 = cc in omega arith)
thread-used (Thread u) t e = refl
thread-used (Event v) t e = refl
thread-used (Mutex m) t e = refl
thread-used (Semaphore m) t e = refl
thread-used (Timer m) t e = refl
thread-used (AddressArbiter m) t e = refl
thread-used Process t e = refl
thread-used ResourceLimit t e = refl

-- ---- dropping records leaves both alone
retain-rest : (keep : ℕ → Bool) (s : ObjectStore) (o : ℕ) → ((retain keep s o).free ≡ s.free) × ((retain keep s o).thread_objects ≡ s.thread_objects)
unfolding retain
retain-rest keep s o = (refl, refl)

drop-rest : (n o t : ℕ) (s : ObjectStore) → ((drop_thread n o t s).free ≡ s.free) × ((drop_thread n o t s).thread_objects ≡ s.thread_objects)
unfolding drop_thread
drop-rest zero o t s = (refl, refl)
drop-rest (suc n) o t s =
    let r = drop-rest n (suc o) t (retain (of_others s t) s o) in
    let q = retain-rest (of_others s t) s o in
    (r.0 ∙ q.0, r.1 ∙ q.1)

-- ---- the kept object let go
release-ids : (s : ObjectStore) (o : ℕ) → (release s o).thread_objects ≡ s.thread_objects
unfolding release
release-ids s o = pick-both (λ (y : ObjectStore). y.thread_objects ≡ s.thread_objects) (is_free (object_at s o)) s _ refl (release-rest (leb 2 (slot_at s.slots o).refcount) s o).0

none-at : (l : List ObjectId) (t : ℕ) → get_or (ids (set l t (record { 0 = 0 }))) t 0 ≡ 0
none-at [] t = refl
none-at (x ∷ xs) zero = refl
none-at (x ∷ xs) (suc t) = none-at xs t

let_go-kept : (q : Bool) (s : ObjectStore) (t : ℕ) → eqb (kept_at s t) 0 ≡ q → kept_at (pick q s (release (unkept s t) (kept_at s t))) t ≡ 0
let_go-kept true s t e = eqb-true (kept_at s t) 0 e
let_go-kept false s t e = ap (λ (l : List ObjectId). get_or (ids l) t 0) (release-ids (unkept s t) (kept_at s t)) ∙ none-at s.thread_objects t

release-free : (s : ObjectStore) (t o : ℕ) → is_free (object_at s o) ≡ false → leb 2 (refcount s o) ≡ false → (release (unkept s t) o).free ≡ o
unfolding release release_if
release-free s t o e f = rw (e, f)

module _ (k : Kernel) (h : Sound k) where
  abbrev s : ObjectStore
  s = k.objects

  abbrev t : ℕ
  t = ended_thread k

  kept_of_lem : 0 < kept_at s t → ref_of (object_at s (kept_at s t)) ≡ of_thread t
  kept_of_lem z = h.kept.thread t z

  -- a place that is not in use keeps no object
  used : 0 < kept_at s t → t < k.thread_count
  used z = thread-below k.thread_count k.threads (object_at s (kept_at s t)) t (kept_of_lem z) (h.contents (kept_at s t))

  kept_if : (r : Bool) → ltb t k.thread_count ≡ r → kept_at (pick r (forget_thread s t) s) t ≡ 0
  unfolding forget_thread
  kept_if true e = ap (λ (l : List ObjectId). get_or (ids l) t 0) (drop-rest 128 1 t (let_go s t)).1 ∙ let_go-kept (eqb (kept_at s t) 0) s t refl
  kept_if false e = elim (lt-cases 0 (kept_at s t)) [ inl z ↦ absurd (omega (arith, used z, ltb-false t k.thread_count e)) | inr z ↦ omega (arith, z) ]

  pub made_kept : kept_at (made_store k) t ≡ 0
  made_kept = kept_if (ltb t k.thread_count) refl

  -- ---- the first free slot
  let_go-free : eqb (kept_at s t) 0 ≡ false → (let_go s t).free ≡ kept_at s t
  let_go-free e =
      let z : 0 < kept_at s t = let n = eqb-false (kept_at s t) 0 e in omega arith in
      let u = sym (or_no _ _ e) ∙ (ended-thread k h.threads.many).unnamed (omega (arith, used z)) in
      rw e (release-free s t (kept_at s t) (thread-used (object_at s (kept_at s t)) t (kept_of_lem z)) (lt-leb 2 (refcount s (kept_at s t)) (omega (arith, leb-true (refcount s (kept_at s t)) 1 u))))

  let_go-none : eqb (kept_at s t) 0 ≡ true → (let_go s t).free ≡ s.free
  let_go-none e = rw e

  free_if : (r q : Bool) → ltb t k.thread_count ≡ r → eqb (kept_at s t) 0 ≡ q → eqb (pick r (forget_thread s t) s).free 0 ≡ pick q (eqb s.free 0) false
  unfolding forget_thread
  free_if true true e f = ap (λ n. eqb n 0) ((drop-rest 128 1 t (let_go s t)).0 ∙ let_go-none f)
  free_if true false e f = ap (λ n. eqb n 0) ((drop-rest 128 1 t (let_go s t)).0 ∙ let_go-free f) ∙ f
  free_if false true e f = refl
  free_if false false e f = absurd (omega (arith, eqb-false (kept_at s t) 0 f, kept_if false e))

  pub made-free : eqb (made_store k).free 0 ≡ pick (eqb (kept_at s t) 0) (eqb s.free 0) false
  made-free = free_if (ltb t k.thread_count) (eqb (kept_at s t) 0) refl refl

-- ---- in the block b
pub slot-none : (b : List ℕ) → sound? b ≡ true
    → eqb (made_store (dec_block b)).free 0
    ≡ pick (eqb (kept_at (dec_block b).objects (ended_thread (dec_block b))) 0) (eqb (dec_block b).objects.free 0) false
slot-none b s = made-free (dec_block b) ((t_block b).yes s).state

pub free-is : (b : List ℕ) → le 4 b 32 ≡ (dec_block b).objects.free
unfolding dec_block dec_as
free-is b = refl

pub ruleset slots = (common_steps, pick_yes, pick_no, slot-none, free-is)
