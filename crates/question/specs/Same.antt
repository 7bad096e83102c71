-- The tests of objects and records as they are computed are those of their definitions.
use Rattle.std.specs.Prelude.{◌≡◌, Bool, true, false, not, leb, Option, Some, None}
use Rattle.std.proofs.Math.Path.{refl, ap}
use Rattle.std.proofs.Common.{sym, ◌∙◌}
use Rattle.std.proofs.Math.Logic.{inl, inr}
use mathlib.Core.List.{List, [], ◌∷◌, map}
use Prim.Native.Nat.{ℕ, zero, suc, ◌+◌, ◌-◌, ◌*◌, ◌≤◌, ◌<◌}
use native.Mathlib.Omega.{arith}
use Rattle.std.proofs.Math.Dec.{eqb}
use Rattle.std.proofs.Math.ListN.{length, get_or, replicate, length-map, get_or-map, get_or-eq_default}
use borrow.Author.Tests.{ne_eqb, le-leb, lt-leb, le-ltb}
use Rattle.laws.specs.Logic.{◌and◌, ◌or◌, and_assoc, lt-cases}
use Rattle.laws.specs.All.{All}
use Rattle.laws.specs.Count.{one?, count, count_all, ind, ind-other}
use Rattle.laws.specs.Numbers.{all_to-same}
use Rattle.laws.specs.Walk.{walk, ends?, walk-length}
use Rattle.laws.specs.Tally.{tally, tally_all, bump_get, length-tally, tally_get, tally-le, length-tally_all, tally_all_get, tally_all-le, zero_get, zero-le}
use Rattle.laws.specs.StoreTest as store
use Rattle.laws.specs.PoolTest.{walks, end?, pool?}
use Rattle.units.specs.declared.ObjectId.{ObjectId}
use Rattle.types.specs.declared.thread.Thread as th
use Rattle.types.specs.declared.object.KObject.{KObject}
use Rattle.types.specs.declared.object.KObject.TheVariants.{Free, Thread, Event, Mutex, Semaphore, Timer, AddressArbiter, Process, ResourceLimit}
use Rattle.types.specs.declared.object.Slot.{Slot}
use Rattle.types.specs.declared.object.Waiter.{Waiter}
use Rattle.types.specs.declared.object.HandleEntry.{HandleEntry}
use Rattle.types.specs.declared.object.HandleTable.{HandleTable}
use Rattle.types.specs.declared.object.ObjectStore.{ObjectStore}
use Rattle.types.specs.declared.kernel.Kernel.{Kernel}
use Rattle.types.specs.Thread.{wait_list, is_dead}
use Rattle.types.specs.Object.{kind_number, next_of, head_of}
use Rattle.block.proofs.Fits.{StateFits}
use Rattle.sound.specs.View.{kinds, refs, nexts, ids, lists, heads, waiter_nexts, waiter_threads, waiter_addresses, no_slot, no_thread, slot_at, thread_at, at_slots}
use Rattle.sound.specs.Objects.{names, kept_names, held?, kept_in?, is_thread?, is_process?, kept?, owner?, content?, contents?}
use Rattle.sound.specs.Sound.{state?}
use Rattle.sound.specs.Records.{chain?, blanks?, chained?, free_chain, records?}
use Rattle.tally.specs.Lists as list
use Rattle.tally.specs.Lists.{Listed, name_of, handle_names, list_names}
use Rattle.question.specs.Linear.{slot?, slots?}
use Rattle.tally.specs.Place.{slot_index}
use Rattle.question.specs.LinearObjects.{named_of, named, counts_of, marks_of, kept_thread?, kept_process?, indexed}
use Rattle.question.specs.LinearObjects.{kept_threads?, kept_by?, objects_by?, dead_mark, dead_marks, live?, owner_by?}
use Rattle.question.specs.LinearObjects.{content_by?, contents_by?, end_all?, walk_all, once_all?, shared_out?}
use Rattle.question.specs.LinearObjects.{chains_by?, fine_pool?, records_by?, tables?, store?}

-- ---- a number that names no object is counted nowhere
module _ (o : ℕ) (p : 0 < o) (q : o ≤ 128) where
  name-ind : (x : ℕ) → ind (name_of x) o ≡ ind x o
  name-ind zero = ind-other 129 o (omega arith) ∙ sym (ind-other 0 o (omega arith))
  name-ind (suc x) = rw (ne_eqb (suc x) 0 (omega arith))

  names-count : {A : Type 0} (f : A → ℕ) (l : List A) → count o (map (λ x. name_of (f x)) l) ≡ count o (map f l)
  unfolding count
  names-count f [] = refl
  names-count f (x ∷ l) = rw (name-ind (f x), names-count f l)

  names-count_all : (ts : List th.Thread) → count_all o (list_names ts) ≡ count_all o (lists ts)
  unfolding count_all
  names-count_all [] = refl
  names-count_all (t ∷ ts) = rw (names-count (λ (x : ObjectId). x.0) t.wait_objects, names-count_all ts)

-- ---- counts and the free chain
module _ (s : ObjectStore) (t : HandleTable) (ts : List th.Thread) (ns : length s.slots ≡ 128) (ne : length t.entries ≡ 256)
    (nt : length ts ≡ 32) (a : All Listed ts) (nk : length s.thread_objects ≡ 32) where
  abbrev counts : List ℕ
  counts = counts_of t.entries ts s.thread_objects s.process_object.0

  abbrev marks : List ℕ
  marks = marks_of (nexts s.slots) s.free

  all-lists : (l : List th.Thread) → All Listed l → All (λ (x : List ℕ). length x ≤ wait_list) (list_names l)
  all-lists [] e = tt
  all-lists (x ∷ l) e = (omega (arith, e.0, length-map x.wait_objects (λ (o : ObjectId). name_of o.0)), all-lists l e.1)

  counted : (o : ℕ) → 0 < o → o ≤ 128 → get_or counts o 0 ≡ names t ts o + kept_names s o
  unfolding names kept_names
  counted o p h =
      let os = handle_names t.entries in
      let ls = list_names ts in
      let ks = list.names s.thread_objects in
      let c₀ : List ℕ = replicate 129 0 in
      let c₁ = tally 129 c₀ os in
      let c₂ = tally_all 129 c₁ ls in
      let c₃ = tally 129 c₂ ks in
      let eo : length os ≡ 256 = length-map t.entries (λ (e : HandleEntry). name_of e.object.0) ∙ ne in
      let el : length ls ≡ 32 = length-map ts (λ (x : th.Thread). list.names x.wait_objects) ∙ nt in
      let ek : length ks ≡ 32 = length-map s.thread_objects (λ (o : ObjectId). name_of o.0) ∙ nk in
      let n₁ : length c₁ ≡ 129 = length-tally 129 c₀ os in
      let n₂ : length c₂ ≡ 129 = length-tally_all 129 c₁ ls ∙ n₁ in
      let n₃ : length c₃ ≡ 129 = length-tally 129 c₂ ks ∙ n₂ in
      let w = all-lists ts a in
      let b₁ : (i : ℕ) → get_or c₁ i 0 ≤ 256 = λ i. omega (arith, tally-le 129 os c₀ 0 refl (zero-le 129) (omega arith) i) in
      let r : 256 + length ls * wait_list ≤ 100000 = rw el (omega arith) in
      let b₂ : (i : ℕ) → get_or c₂ i 0 ≤ 256 + 32 * wait_list = λ i. omega (arith, rw el at (tally_all-le 129 wait_list ls c₁ 256 w n₁ b₁ r i)) in
      let b₃ : (i : ℕ) → get_or c₃ i 0 ≤ 288 + 32 * wait_list = λ i. omega (arith, tally-le 129 ks c₂ (256 + 32 * wait_list) n₂ b₂ (omega arith) i) in
      omega (
        arith,
        bump_get 129 c₃ n₃ s.process_object.0 (omega (arith, b₃ s.process_object.0)) o (omega arith),
        tally_get 129 ks c₂ (256 + 32 * wait_list) n₂ b₂ (omega arith) o (omega arith),
        tally_all_get 129 wait_list ls c₁ 256 w n₁ b₁ r o (omega arith),
        tally_get 129 os c₀ 0 refl (zero-le 129) (omega arith) o (omega arith),
        zero_get 129 o,
        names-count o p h (λ (e : HandleEntry). e.object.0) t.entries,
        names-count_all o p h ts,
        names-count o p h (λ (x : ObjectId). x.0) s.thread_objects,
      )

  marked : (o : ℕ) → o ≤ 128 → get_or marks o 0 ≡ count o (walk (nexts s.slots) 128 s.free)
  marked o h =
      let os = walk (nexts s.slots) 128 s.free in
      omega (arith, tally_get 129 os (replicate 129 0) 0 refl (zero-le 129) (omega (arith, walk-length (nexts s.slots) 128 s.free)) o (omega arith), zero_get 129 o)

  held_same : ends? (nexts s.slots) 128 s.free and slots? (kinds s.slots) (refs s.slots) counts marks 128 ≡ held? s (names t ts)
  unfolding held? store.store? store.slot? slots? slot? ◌and◌
  held_same =
      let l = s.slots in
      let lk : length (kinds l) ≡ 128 = length-map l (λ (x : Slot). kind_number x.object) ∙ ns in
      let lr : length (refs l) ≡ 128 = length-map l (λ (x : Slot). x.refcount) ∙ ns in
      let ln : length (nexts l) ≡ 128 = length-map l (λ (x : Slot). next_of x.object) ∙ ns in
      rw (lk, lr, ln)
      (ap (λ (b : Bool). ends? (nexts l) 128 s.free and b) (all_to-same 128 _ _ (λ o p q. rw (counted o p q, marked o q))))

-- ---- kept objects
index_in : (i : ℕ) → suc i ≤ 128 → slot_index (suc i) ≡ i
unfolding slot_index
index_in i h = let e : suc i - 1 ≡ i = omega arith in rw (ne_eqb (suc i) 0 (omega arith), le-ltb 128 (suc i) h, e)

module _ (p : KObject → Bool) (out : p (Free 0) ≡ false) (l : List Slot) (n : length l ≡ 128) where
  kept-one : (x : ℕ) → eqb x 0 or (leb x 128 and p (get_or l (slot_index x) no_slot).object) ≡ eqb x 0 or p (slot_at l x).object
  unfolding ◌or◌ ◌and◌ slot_at
  kept-one zero = refl
  kept-one (suc i) =
      elim (lt-cases 128 (suc i)) [
        | inl h ↦ rw (ne_eqb (suc i) 0 (omega arith), lt-leb (suc i) 128 h, get_or-eq_default l no_slot {n = i} (omega arith)) (sym out)
        | inr h ↦ rw (ne_eqb (suc i) 0 (omega arith), le-leb (suc i) 128 h) (ap (λ (j : ℕ). p (get_or l j no_slot).object) (index_in i h))
      ]

-- what an object is, by its kind and its thread
thread_by : (t : ℕ) (o : KObject) → eqb (kind_number o) 1 and eqb (named_of o) t ≡ is_thread? t o
unfolding ◌and◌
thread_by t (Free x) = refl
thread_by t (Thread u) = refl
thread_by t (Event e) = refl
thread_by t (Mutex m) = refl
thread_by t (Semaphore c) = refl
thread_by t (Timer x) = refl
thread_by t (AddressArbiter a) = refl
thread_by t Process = refl
thread_by t ResourceLimit = refl

process_by : (o : KObject) → eqb (kind_number o) 7 ≡ is_process? o
process_by (Free x) = refl
process_by (Thread u) = refl
process_by (Event e) = refl
process_by (Mutex m) = refl
process_by (Semaphore c) = refl
process_by (Timer x) = refl
process_by (AddressArbiter a) = refl
process_by Process = refl
process_by ResourceLimit = refl

module _ (l : List Slot) (n : length l ≡ 128) where
  thread-one : (x t : ℕ) → kept_thread? x (indexed (kinds l) x) (indexed (named l) x) t ≡ eqb x 0 or is_thread? t (slot_at l x).object
  unfolding kept_thread?
  thread-one x t =
      rw (
        get_or-map (λ (s : Slot). kind_number s.object) l (slot_index x) no_slot,
        get_or-map (λ (s : Slot). named_of s.object) l (slot_index x) no_slot,
        thread_by t (get_or l (slot_index x) no_slot).object,
      )
      (kept-one (is_thread? t) refl l n x)

  process-one : (x : ℕ) → kept_process? x (indexed (kinds l) x) ≡ eqb x 0 or is_process? (slot_at l x).object
  unfolding kept_process?
  process-one x =
      rw (get_or-map (λ (s : Slot). kind_number s.object) l (slot_index x) no_slot, process_by (get_or l (slot_index x) no_slot).object)
      (kept-one is_process? refl l n x)

kept_same : (s : ObjectStore) → length s.slots ≡ 128 → kept_by? (kinds s.slots) (named s.slots) (ids s.thread_objects) s.process_object.0 ≡ kept? s
unfolding kept? kept_by? kept_threads?
kept_same s n =
    rw (
      process-one s.slots n s.process_object.0,
      all_to-same 32 _ _ (λ i a b. thread-one s.slots n (get_or (ids s.thread_objects) (i - 1) 0) (i - 1)),
    )

pub objects-same : (s : ObjectStore) (t : HandleTable) (ts : List th.Thread) → length s.slots ≡ 128 → length t.entries ≡ 256 → length ts ≡ 32 → All Listed ts
    → length s.thread_objects ≡ 32
    → objects_by? (kinds s.slots) (refs s.slots) (nexts s.slots) (named s.slots) s.free
    (counts_of t.entries ts s.thread_objects s.process_object.0) (ids s.thread_objects) s.process_object.0
    ≡ (kept_in? s and held? s (names t ts)) and kept? s
unfolding objects_by? kept_in?
objects-same s t ts ns ne nt a nk = rw (held_same s t ts ns ne nt a nk, kept_same s ns) (and_assoc (kept_in? s) (held? s (names t ts)) (kept? s))

-- ---- contents
not_mark : (b : Bool) → eqb (one? b) 0 ≡ not b
not_mark true = refl
not_mark false = refl

live_same : (ts : List th.Thread) (t : ℕ) → live? (dead_marks ts) t ≡ not (is_dead (thread_at ts t).status)
unfolding live?
live_same ts t =
    ap (λ (k : ℕ). eqb k 0) (get_or-map (λ (x : th.Thread). dead_mark x.status) ts t no_thread)
    ∙ not_mark (is_dead (thread_at ts t).status)

owner-same : (ts : List th.Thread) (w : Option ℕ) → owner_by? (dead_marks ts) w ≡ owner? ts w
owner-same ts None = refl
owner-same ts (Some t) = live_same ts t

content-same : (n : ℕ) (ts : List th.Thread) (o : KObject) → content_by? n (dead_marks ts) o ≡ content? n ts o
content-same n ts (Free x) = refl
content-same n ts (Thread t) = refl
content-same n ts (Event e) = refl
content-same n ts (Mutex m) = owner-same ts m.owner
content-same n ts (Semaphore c) = refl
content-same n ts (Timer t) = refl
content-same n ts (AddressArbiter a) = refl
content-same n ts Process = refl
content-same n ts ResourceLimit = refl

pub contents-same : (n : ℕ) (ts : List th.Thread) (s : ObjectStore) → contents_by? n (dead_marks ts) s.slots 128 ≡ contents? n ts s
unfolding contents_by? contents?
contents-same n ts s = all_to-same 128 _ _ (λ o a b. content-same n ts (slot_at s.slots o).object)

-- ---- records
module _ (nx : List ℕ) (n : length nx ≡ 64) where
  walks_same : (hs : List ℕ) → walks nx hs ≡ walk_all nx hs
  unfolding walks
  walks_same [] = refl
  walks_same (h ∷ hs) = rw (n, walks_same hs)

  ends_same : (hs : List ℕ) → end? nx hs ≡ end_all? nx hs
  unfolding end? end_all?
  ends_same [] = refl
  ends_same (h ∷ hs) = rw (n, ends_same hs)

  all_short : (hs : List ℕ) → All (λ (x : List ℕ). length x ≤ 64) (walk_all nx hs)
  all_short [] = tt
  all_short (h ∷ hs) = (walk-length nx 64 h, all_short hs)

  module _ (hs : List ℕ) (m : length hs ≡ 128) (free : ℕ) where
    once_get : (i : ℕ) → i ≤ 64 → get_or (tally 129 (tally_all 129 (replicate 129 0) (walk_all nx hs)) (walk nx 64 free)) i 0
        ≡ count_all i (walk_all nx hs) + count i (walk nx 64 free)
    once_get i h =
        let ls = walk_all nx hs in
        let os = walk nx 64 free in
        let c₀ : List ℕ = replicate 129 0 in
        let c₁ = tally_all 129 c₀ ls in
        let el : length ls ≡ 128 = length-map hs (walk nx 64) ∙ m in
        let r : 0 + length ls * 64 ≤ 100000 = rw el (omega arith) in
        let n₁ : length c₁ ≡ 129 = length-tally_all 129 c₀ ls in
        let b₁ : (j : ℕ) → get_or c₁ j 0 ≤ 8192 = λ j. omega (arith, rw el at (tally_all-le 129 64 ls c₀ 0 (all_short hs) refl (zero-le 129) r j)) in
        omega (
          arith,
          tally_get 129 os c₁ 8192 n₁ b₁ (omega (arith, walk-length nx 64 free)) i (omega arith),
          tally_all_get 129 64 ls c₀ 0 (all_short hs) refl (zero-le 129) r i (omega arith),
          zero_get 129 i,
        )

    shared_same : shared_out? nx hs free ≡ pool? nx hs free
    unfolding shared_out? pool? once_all?
    shared_same =
        rw (n, walks_same hs, ends_same hs)
        (ap (λ (b : Bool). end_all? nx hs and (ends? nx 64 free and b)) (all_to-same 64 _ _ (λ i a b. ap (λ (k : ℕ). eqb k 1) (once_get i b))))

pub records-same : (n : ℕ) (s : ObjectStore) → length s.slots ≡ 128 → length s.waiters ≡ 64
    → records_by? n (heads s.slots) s.waiters s.free_waiter ≡ records? n s
unfolding records? chained? chains_by? records_by? fine_pool?
records-same n s a b =
    let ln : length (waiter_nexts s.waiters) ≡ 64 = length-map s.waiters (λ (w : Waiter). w.next) ∙ b in
    let lh : length (heads s.slots) ≡ 128 = length-map s.slots (λ (x : Slot). head_of x.object) ∙ a in
    sym (and_assoc _ _ _)
    ∙ rw (shared_same (waiter_nexts s.waiters) ln (heads s.slots) lh s.free_waiter)
    (ap (λ (t : Bool). pool? (waiter_nexts s.waiters) (heads s.slots) s.free_waiter and (t and blanks? (waiter_threads s.waiters) (waiter_addresses s.waiters) (free_chain s)))
    (all_to-same 128 _ _ (λ o p q.
    ap (λ (h : ℕ). chain? (waiter_threads s.waiters) (waiter_addresses s.waiters) n (walk (waiter_nexts s.waiters) 64 h))
    (at_slots (λ (x : Slot). head_of x.object) s.slots o refl))))

-- ---- the whole
and_parts : (a b c d e f g : Bool) → (c and (a and b)) and ((d and e) and (f and g)) ≡ a and (b and (c and (d and (e and (f and g)))))
unfolding ◌and◌
and_parts true true true true e f g = refl
and_parts true true true false e f g = refl
and_parts true true false d e f g = refl
and_parts true false true d e f g = refl
and_parts true false false d e f g = refl
and_parts false b true d e f g = refl
and_parts false b false d e f g = refl

pub state-same : (k : Kernel) → StateFits k → All Listed k.threads
    → tables? k and store? k (counts_of k.handles.entries k.threads k.objects.thread_objects k.objects.process_object.0) ≡ state? k
unfolding tables? store? state?
state-same k f a =
    rw (
      objects-same k.objects k.handles k.threads f.ns f.ne f.nt a f.ni,
      contents-same k.thread_count k.threads k.objects,
      records-same k.thread_count k.objects f.ns f.nw,
    )
    (and_parts _ _ _ _ _ _ _)
