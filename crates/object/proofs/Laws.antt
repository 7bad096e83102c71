-- Cells numbered from 1, by the code's cases, and one turn of each loop. Assumes nothing.
use mathlib.Core.Path.{◌≡◌, refl, ap, sym, ◌∙◌}
use mathlib.Core.Bool.{Bool, true, false, not}
use mathlib.Core.Logic.{◌≢◌, ◌⊎◌, inl, inr}
use mathlib.Core.List.{List, [], ◌∷◌, ◌++◌, map}
use Prim.Native.Nat.{ℕ, zero, suc, ◌+◌, ◌-◌, ◌≤◌, ◌<◌}
use native.Mathlib.Numerals.{add-one}
use native.Mathlib.Omega.{arith}
use lib.Dec.{eqb}
use lib.ListN.{length, get_or, set, take, drop, length-map, get_or-map, get_or-eq_default, drop_of_length-le}
use lib.ListN.{length-set}
use lib.Seq.{drop-cons, set_out, set-get_or}
use borrow.Author.Tests.{eq-eqb, ne_eqb}
use Rattle.std.proofs.lemmas.Grind.{common_steps}
use Rattle.laws.specs.Logic.{pick, pick_yes, pick_no, ◌and◌, ◌or◌, and-false, and_no, and_yes, or_no, or_yes}
use Rattle.laws.specs.Count.{at, put}
use Rattle.laws.specs.Walk.{walk, walk-nil, walk-out, walk-go}
use Rattle.units.specs.declared.ObjectId.{ObjectId}
use Rattle.types.specs.declared.object.Slot.{Slot}
use Rattle.types.specs.declared.object.KObject.{KObject}
use Rattle.types.specs.declared.object.KObject.TheVariants.{Free, Thread, Event, Mutex, Semaphore, Timer, AddressArbiter, Process, ResourceLimit}
use Rattle.types.specs.declared.object.Waiter.{Waiter}
use Rattle.types.specs.declared.object.HandleEntry.{HandleEntry}
use Rattle.types.specs.declared.object.ObjectStore.{ObjectStore}
use Rattle.types.specs.Object.{head_of}
use Rattle.sound.specs.View.{ids, no_slot, slot_at, slot_at-pos, slot_at-out, object_at, waiter_nexts, waiter_threads, waiter_addresses}
use Rattle.sound.specs.Records.{has?}
use Rattle.tally.specs.Place.{is_slot, slot-some, slot-past, slot_index, index-slot}
use Rattle.object.specs.declared.waiters.Links.{Links}
use Rattle.object.specs.Slots.{slot_put, with_slots, with_object}
use Rattle.object.specs.Waiters.{no_waiter, waiter_at, waiter_put, link, unlink, with_head, retain, of_others, drop_thread, last_of, first_of}
use Rattle.object.specs.Store.{is_free, add_ref}
use Rattle.object.specs.Held.{held}
use Rattle.object.specs.Handles.{no_entry, place_of, without}

-- ---- slots

pub length-slot_put : (l : List Slot) (r : ℕ) (v : Slot) → length (slot_put l r v) ≡ length l
unfolding slot_put
length-slot_put l zero v = refl
length-slot_put l (suc i) v = length-set l i v

pub slot_put-same : (l : List Slot) (o : ℕ) → slot_put l o (slot_at l o) ≡ l
unfolding slot_at slot_put
slot_put-same l zero = refl
slot_put-same l (suc i) = set-get_or l i no_slot

-- one holder more, by the slot
pub add-ref-held : (s : ObjectStore) (o : ℕ) → add_ref s o ≡ with_slots s (slot_put s.slots o (held (slot_at s.slots o)))
unfolding add_ref
add-ref-held s o = go (is_free (object_at s o)) _
  where
    go : (f : Bool) (v : Slot) → pick f s (with_slots s (slot_put s.slots o v)) ≡ with_slots s (slot_put s.slots o (pick f (slot_at s.slots o) v))
    go true v = sym (ap (λ (x : List Slot). with_slots s x) (slot_put-same s.slots o))
    go false v = refl

-- a slot by the index where it is looked for
pub slot-in : (l : List Slot) (o : ℕ) → length l ≡ 128 → pick (is_slot o) (get_or l (slot_index o) no_slot) no_slot ≡ slot_at l o
slot-in l o n = go (is_slot o) refl
  where
    go : (b : Bool) → is_slot o ≡ b → pick b (get_or l (slot_index o) no_slot) no_slot ≡ slot_at l o
    go true e = rw (index-slot o e) (sym (slot_at-pos l o (λ z. omega (arith, slot-some o e))))
    go false e = sym (slot_at-out l o (λ h. omega (arith, n, slot-past o e h)))

abbrev no_id : ObjectId
no_id = record { 0 = 0 }

-- ---- handles
module _ (es : List HandleEntry) (h i : ℕ) where
  pub place_hit : i < length es → (get_or es i no_entry).handle.0 ≡ h → place_of (drop i es) h ≡ 0
  unfolding place_of
  place_hit l e = rw (drop-cons es i no_entry l, eq-eqb _ _ e)

  pub place_miss : i < length es → (get_or es i no_entry).handle.0 ≢ h → place_of (drop i es) h ≡ suc (place_of (drop (i + 1) es) h)
  unfolding place_of
  place_miss l e = rw (drop-cons es i no_entry l, add-one, ne_eqb _ _ e)

  pub place_end : length es ≤ i → place_of (drop i es) h ≡ 0
  unfolding place_of
  place_end l = rw (drop_of_length-le es l)

pub without_split : (es : List HandleEntry) (k : ℕ) → take k es ++ without (drop k es) 0 ≡ without es k
unfolding without
without_split [] zero = refl
without_split [] (suc k) = refl
without_split (e ∷ es) zero = refl
without_split (e ∷ es) (suc k) = ap (λ l. e ∷ l) (without_split es k)

pub without_move : (l : List HandleEntry) (i : ℕ) (d : HandleEntry) → suc i < length l
    → take (suc i) (set l i (get_or l (suc i) d)) ++ without (drop (suc i) (set l i (get_or l (suc i) d))) 0 ≡ take i l ++ without (drop i l) 0
unfolding without
without_move [] i d h = absurd (omega arith)
without_move (x ∷ []) i d h = absurd (omega arith)
without_move (x ∷ y ∷ l) zero d h = refl
without_move (x ∷ y ∷ l) (suc i) d h = ap (λ m. x ∷ m) (without_move (y ∷ l) i d (omega arith))

pub without-last : (l : List HandleEntry) (n : ℕ) → length l ≡ suc n → set l n no_entry ≡ take n l ++ without (drop n l) 0
unfolding without
without-last [] n h = absurd (omega arith)
without-last (x ∷ []) zero h = refl
without-last (x ∷ y ∷ l) zero h = absurd (omega arith)
without-last (x ∷ l) (suc n) h = ap (λ m. x ∷ m) (without-last l n (omega arith))

-- ---- kept objects
pub kept-far : (l : List ObjectId) (t : ℕ) → length l ≤ t → 0 ≡ get_or (ids l) t 0
kept-far l t h = let e : length (ids l) ≤ t = simp length-map (omega arith) in sym (get_or-eq_default (ids l) 0 e)

pub kept_in_lem : (l : List ObjectId) (t : ℕ) → (get_or l t no_id).0 ≡ get_or (ids l) t 0
kept_in_lem l t = sym (get_or-map (λ (o : ObjectId). o.0) l t no_id)

-- ---- records
pub waiter_at-out : (l : List Waiter) (n : ℕ) → length l ≡ 64 → (n ≡ 0) ⊎ ((n ≢ 0) × (64 < n)) → no_waiter ≡ waiter_at l n
unfolding waiter_at
waiter_at-out l zero e w = refl
waiter_at-out l (suc n) e (inl z) = absurd (omega arith)
waiter_at-out l (suc n) e (inr w) = sym (get_or-eq_default l no_waiter (omega (arith, w.1)))

pub waiter_at-far : (l : List Waiter) (n : ℕ) → length l < n → no_waiter ≡ waiter_at l n
unfolding waiter_at
waiter_at-far l zero h = refl
waiter_at-far l (suc n) h = sym (get_or-eq_default l no_waiter (omega arith))

pub waiter_at-pos : (l : List Waiter) (n : ℕ) → n ≢ 0 → get_or l (n - 1) no_waiter ≡ waiter_at l n
unfolding waiter_at
waiter_at-pos l zero p = absurd (p refl)
waiter_at-pos l (suc n) p = let e : suc n - 1 ≡ n = omega arith in rw e

pub waiter_put-out : (l : List Waiter) (n : ℕ) (v : Waiter) → length l ≡ 64 → (n ≡ 0) ⊎ ((n ≢ 0) × (64 < n)) → l ≡ waiter_put l n v
unfolding waiter_put
waiter_put-out l zero v e w = refl
waiter_put-out l (suc n) v e (inl z) = absurd (omega arith)
waiter_put-out l (suc n) v e (inr w) = sym (set_out l n v (omega (arith, w.1)))

pub waiter_put-far : (l : List Waiter) (n : ℕ) (v : Waiter) → length l < n → l ≡ waiter_put l n v
unfolding waiter_put
waiter_put-far l zero v h = refl
waiter_put-far l (suc n) v h = sym (set_out l n v (omega arith))

pub waiter_put-pos : (l : List Waiter) (n : ℕ) (v : Waiter) → n ≢ 0 → set l (n - 1) v ≡ waiter_put l n v
unfolding waiter_put
waiter_put-pos l zero v p = absurd (p refl)
waiter_put-pos l (suc n) v p = let e : suc n - 1 ≡ n = omega arith in rw e

pub at-waiters : (f : Waiter → ℕ) (l : List Waiter) (r : ℕ) → f no_waiter ≡ 0 → at (map f l) r ≡ f (waiter_at l r)
unfolding waiter_at at
at-waiters f l zero e = sym e
at-waiters f l (suc i) e = ap (λ d. get_or (map f l) i d) (sym e) ∙ get_or-map f l i no_waiter

pub at_next : (l : List Waiter) (r : ℕ) → at (waiter_nexts l) r ≡ (waiter_at l r).next
at_next l r = at-waiters (λ (w : Waiter). w.next) l r refl

pub at-thread : (l : List Waiter) (r : ℕ) → at (waiter_threads l) r ≡ (waiter_at l r).thread
at-thread l r = at-waiters (λ (w : Waiter). w.thread) l r refl

pub at-address : (l : List Waiter) (r : ℕ) → at (waiter_addresses l) r ≡ (waiter_at l r).address
at-address l r = at-waiters (λ (w : Waiter). w.address) l r refl

-- a cell of a column of numbers is written
pub put-none : (l : List ℕ) (x v : ℕ) → x ≡ 0 → l ≡ put l x v
unfolding put
put-none l x v e = rw e

pub put-pos : (l : List ℕ) (x v : ℕ) → x ≢ 0 → set l (x - 1) v ≡ put l x v
unfolding put
put-pos l zero v p = absurd (p refl)
put-pos l (suc i) v p = let e : suc i - 1 ≡ i = omega arith in rw e

pub put-far : (l : List ℕ) (x v : ℕ) → length l < x → l ≡ put l x v
unfolding put
put-far l zero v h = refl
put-far l (suc i) v h = sym (set_out l i v (omega arith))

-- ---- the walk of a chain, by the code's cases
pub walk-over : (nx : List ℕ) (left h : ℕ) → (h ≡ 0) ⊎ ((h ≢ 0) × (left ≡ 0)) → walk nx left h ≡ []
walk-over nx left h (inl e) = walk-nil nx left h e
walk-over nx left h (inr w) = walk-out nx left h w.1

module _ (ws : List Waiter) (left h : ℕ) (p : left ≢ 0) (q : h ≢ 0) where
  pub walk_record : walk (waiter_nexts ws) left h ≡ h ∷ walk (waiter_nexts ws) (left - 1) (waiter_at ws h).next
  walk_record = walk-go (waiter_nexts ws) left h p q ∙ rw (at_next ws h)

-- nothing in front of a chain
pub last-zero : (xs : List ℕ) → last_of (0 ∷ xs) ≡ last_of xs
unfolding last_of
last-zero [] = refl
last-zero (x ∷ xs) = refl

pub first_walk : (nx : List ℕ) (f h r : ℕ) → first_of (walk nx (suc f) h) r ≡ pick (eqb h 0) r h
unfolding walk
first_walk nx f zero r = refl
first_walk nx f (suc h) r = rw (ne_eqb (suc h) 0 (λ e. omega arith))

-- ---- all records of a thread: one turn
abbrev pub with_records : ObjectStore → List Slot → List Waiter → ℕ → ObjectStore
with_records s l ws free = record { slots = l; free = s.free; waiters = ws; free_waiter = free; thread_objects = s.thread_objects; process_object = s.process_object; full = s.full; overflow = s.overflow }

pub head-same : (x : KObject) → head_of x ≡ 0 → with_head x 0 ≡ x
head-same (Free n) e = refl
head-same (Thread t) e = refl
head-same (Event v) e = refl
head-same (Mutex m) e = refl
head-same (Semaphore s) e = refl
head-same (Timer t) e = refl
head-same (AddressArbiter a) e = ap (λ (h : ℕ). AddressArbiter (record { waiters = h })) (sym e)
head-same Process e = refl
head-same ResourceLimit e = refl

module _ (s : ObjectStore) (t i : ℕ) where
  drop-turn : i < 128 → drop_thread (128 - i) (i + 1) t s ≡ drop_thread (128 - (i + 1)) (i + 1 + 1) t (retain (of_others s t) s (suc i))
  unfolding drop_thread
  drop-turn h =
      let e : 128 - i ≡ suc (128 - (i + 1)) = omega arith in
      let f : i + 1 + 1 ≡ suc (suc i) = omega arith in
      let g : i + 1 ≡ suc i = omega arith in
      rw (e, f, g)

  pub drop-end : 128 ≤ i → drop_thread (128 - i) (i + 1) t s ≡ s
  unfolding drop_thread
  drop-end h = let e : 128 - i ≡ 0 = omega arith in rw e

module _ (s : ObjectStore) (l : List Slot) (ws : List Waiter) (free t i : ℕ) (h : i < 128) where
  pub drop_head : (u : Links) → u ≡ unlink (λ x. not (eqb (waiter_at ws x).thread t)) ws free (walk (waiter_nexts ws) 64 (head_of (get_or l i no_slot).object))
      → drop_thread (128 - (i + 1)) (i + 1 + 1) t (with_records s (set l i (with_object (get_or l i no_slot) (with_head (get_or l i no_slot).object u.head))) u.waiters u.free)
      ≡ drop_thread (128 - i) (i + 1) t (with_records s l ws free)
  unfolding retain slot_at slot_put
  drop_head u e = rw e (sym (drop-turn (with_records s l ws free) t i h))

  pub drop-none : head_of (get_or l i no_slot).object ≡ 0
      → drop_thread (128 - (i + 1)) (i + 1 + 1) t (with_records s l ws free) ≡ drop_thread (128 - i) (i + 1) t (with_records s l ws free)
  unfolding retain slot_at slot_put unlink
  drop-none e =
      sym (drop-turn (with_records s l ws free) t i h
      ∙ rw (walk-nil (waiter_nexts ws) 64 (head_of (get_or l i no_slot).object) e, head-same (get_or l i no_slot).object e, set-get_or l i no_slot))

-- ---- what the search steps by
pub waiter_at_none : (l : List Waiter) (r : ℕ) → r ≡ 0 → waiter_at l r ≡ no_waiter
unfolding waiter_at
waiter_at_none l r e = rw e

pub waiter_put_none : (l : List Waiter) (r : ℕ) (v : Waiter) → r ≡ 0 → waiter_put l r v ≡ l
unfolding waiter_put
waiter_put_none l r v e = rw e

pub has_none : (ts ad : List ℕ) (t a : ℕ) → has? ts ad t a [] ≡ false
unfolding has?
has_none ts ad t a = refl

pub has_more : (ts ad : List ℕ) (t a x : ℕ) (xs : List ℕ)
    → has? ts ad t a (x ∷ xs) ≡ (eqb (at ts x) t and eqb (at ad x) a) or has? ts ad t a xs
unfolding has?
has_more ts ad t a x xs = refl

pub last_one : (x : ℕ) → last_of (x ∷ []) ≡ x
unfolding last_of
last_one x = refl

pub last_more : (x y : ℕ) (ys : List ℕ) → last_of (x ∷ (y ∷ ys)) ≡ last_of (y ∷ ys)
unfolding last_of
last_more x y ys = refl

pub unlink_none : (keep : ℕ → Bool) (ws : List Waiter) (free : ℕ)
    → unlink keep ws free [] ≡ record { waiters = ws; free = free; head = 0 }
unfolding unlink
unlink_none keep ws free = refl

pub unlink_more : (keep : ℕ → Bool) (ws : List Waiter) (free x : ℕ) (xs : List ℕ)
    → unlink keep ws free (x ∷ xs) ≡ link (keep x) x (unlink keep ws free xs)
unfolding unlink
unlink_more keep ws free x xs = refl

pub ruleset steps = (
  common_steps,
  pick_yes,
  pick_no,
  and_no,
  and_yes,
  and-false,
  or_no,
  or_yes,
  waiter_at_none,
  waiter_at-pos,
  waiter_at-out,
  waiter_put-out,
  unlink_none,
  unlink_more,
  waiter_put_none,
  waiter_put-pos,
  walk-nil,
  walk-out,
  walk_record,
  at-thread,
  at-address,
  has_none,
  has_more,
  last_one,
  last_more,
  last-zero,
)

pub ruleset cells = (common_steps, put-none, put-pos, put-far)
