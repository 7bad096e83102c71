-- The object component: counts, kept objects, chains. Every primitive on one object keeps them.
use Rattle.std.specs.Prelude.{◌≡◌, Bool, ◌≢◌, List, [], ◌∷◌, map, ℕ, zero, suc, ◌+◌, ◌-◌, ◌≤◌, ◌<◌, length, get_or, leb, ltb, eqb}
use Rattle.std.proofs.Math.Path.{refl, ap, sym}
use Rattle.std.proofs.Common.{◌∙◌, arith}
use Rattle.std.proofs.Math.Bool.{true, false}
use Rattle.std.proofs.lemmas.List.{length-map}
use borrow.Author.Tests.{leb-true, leb-false, lt-ltb, eqb-false, ne_eqb}
use Rattle.laws.specs.Logic.{pick, or-false}
use Rattle.laws.specs.Count.{count, ind, ind-eq, ind-same, at, Cell}
use Rattle.laws.specs.Chain.{IsChain}
use Rattle.laws.specs.Store.{Store, store-add, store_dec, store-free, store-new}
use Rattle.types.specs.declared.object.KObject.{KObject}
use Rattle.types.specs.declared.object.KObject.TheVariants.{Free, Thread, Event, Mutex, Semaphore, Timer, AddressArbiter, Process, ResourceLimit}
use Rattle.types.specs.declared.object.Slot.{Slot}
use Rattle.types.specs.declared.object.ObjectStore.{ObjectStore}
use Rattle.types.specs.Object.{kind_number, next_of, head_of}
use Rattle.sound.specs.View.{kinds, refs, nexts, heads, ids, waiter_threads, waiter_addresses, slot_at, object_at, at_slots}
use Rattle.sound.specs.Objects.{kept_names, Held, Ref, ref_of, kept_at, KeptOk}
use Rattle.sound.specs.Records.{Chained, free_chain, Blanks}
use Rattle.object.specs.Slots.{with_slots, with_refcount}
use Rattle.object.specs.Store.{is_free, insert, add_ref, add_refs, release_if, release, releases}
use Rattle.soundness.specs.Slots.{pick-both, kind_at, head_at, next_at, ref_at, map-slot_put, map-slot_put-same, slot-f, slot-other, slot_same}
use Rattle.soundness.specs.Chains.{Dropped, dropped, none_left, dropped-blanks}
use Rattle.object.proofs.Laws.{length-slot_put}

-- ---- what of an object the other parts of the block lean on
pub record Shape : Type 0 where
  pub kind : ℕ
  pub head : ℕ
  pub next : ℕ
  pub ref : Ref

abbrev pub shape_of : KObject → Shape
shape_of x = record { kind = kind_number x; head = head_of x; next = next_of x; ref = ref_of x }

-- ---- the invariant: `base` are the names besides those of kept objects
pub record ObOk (s : ObjectStore) (base : ℕ → ℕ) : Type 0 where
  pub counts : Held s base
  pub kept : KeptOk s
  pub chained : Chained s
  pub blanks : Blanks (waiter_threads s.waiters) (waiter_addresses s.waiters) (free_chain s)
  pub ns : length s.slots ≡ 128
  pub nw : length s.waiters ≡ 64
  pub ni : length s.thread_objects ≡ 32

-- sound unless something did not fit
abbrev pub Fine : ObjectStore → (ℕ → ℕ) → Type 0
Fine s base = s.full ≡ false → ObOk s base

-- ---- general laws on stores
-- a cell that holds something is one
pub at-pos : (l : List ℕ) (o : ℕ) → 0 < at l o → Cell l o
unfolding at
at-pos l zero p = absurd (omega arith)
at-pos [] (suc i) p = absurd (omega arith)
at-pos (x ∷ xs) (suc zero) p = (omega arith, omega arith)
at-pos (x ∷ xs) (suc (suc i)) p = let r = at-pos xs (suc i) p in (omega arith, omega arith)

-- the same store with names counted the same
pub store_as : {k r n : List ℕ} {f : ℕ} {g : ℕ → ℕ} (g' : ℕ → ℕ) → ((o : ℕ) → 0 < o → g' o ≡ g o) → Store k r n f g → Store k r n f g'
store_as g' e s = record {
  lr = s.lr;
  ln = s.ln;
  counted = λ o z. s.counted o z ∙ sym (e o z);
  live = s.live;
  fs = s.fs;
  fchain = s.fchain;
  dead = s.dead;
}

pub free-dead : (kinds refs nexts : List ℕ) (free : ℕ) (names : ℕ → ℕ) → Store kinds refs nexts free names → 0 < free → at kinds free ≡ 0
unfolding count
free-dead kinds refs nexts free names s z = go s.fs s.fchain s.dead
  where
    go : (fs : List ℕ) → IsChain nexts free fs → ((o : ℕ) → Cell kinds o → count o fs ≡ 1 - at kinds o) → at kinds free ≡ 0
    go [] f d = absurd (omega arith)
    go (r ∷ fs) f d = omega (arith, d free (rw (f.0, ← s.ln) f.1), ind-eq r free (sym f.0))

-- names counted the same
pub ok_as : {s : ObjectStore} {f : ℕ → ℕ} (g : ℕ → ℕ) → ((i : ℕ) → 0 < i → g i ≡ f i) → ObOk s f → ObOk s g
ok_as g e h = record {
  counts = store_as _ (λ i z. omega (arith, e i z)) h.counts;
  kept = h.kept;
  chained = h.chained;
  blanks = h.blanks;
  ns = h.ns;
  nw = h.nw;
  ni = h.ni;
}

-- ---- slots anew, with the columns and references that they had
pub slots-ok : (s : ObjectStore) (l : List Slot) (f : ℕ → ℕ) → kinds l ≡ kinds s.slots → refs l ≡ refs s.slots → nexts l ≡ nexts s.slots → heads l ≡ heads s.slots
    → length l ≡ length s.slots → ((o : ℕ) → ref_of (slot_at l o).object ≡ ref_of (object_at s o)) → ObOk s f → ObOk (with_slots s l) f
unfolding kept_names
slots-ok s l f ek er en eh el eo h = record {
  counts = rw (ek, er, en) h.counts;
  kept = record { thread = λ t z. eo _ ∙ h.kept.thread t z; process = λ z. eo _ ∙ h.kept.process z };
  chained = rw eh h.chained;
  blanks = h.blanks;
  ns = el ∙ h.ns;
  nw = h.nw;
  ni = h.ni;
}

-- every slot at once: object shapes and counts kept, marks free
pub map-slots : {A : Type 0} (f : Slot → A) (g : Slot → Slot) → ((x : Slot) → f (g x) ≡ f x) → (l : List Slot) → map f (map g l) ≡ map f l
map-slots f g h [] = refl
map-slots f g h (x ∷ l) = rw (h x, map-slots f g h l)

pub slot_at-map : {A : Type 0} (f : Slot → A) (g : Slot → Slot) → ((x : Slot) → f (g x) ≡ f x) → (l : List Slot) (o : ℕ) → f (slot_at (map g l) o) ≡ f (slot_at l o)
unfolding slot_at
slot_at-map f g e l zero = refl
slot_at-map f g e [] (suc i) = refl
slot_at-map f g e (x ∷ l) (suc zero) = e x
slot_at-map f g e (x ∷ l) (suc (suc i)) = slot_at-map f g e l (suc i)

pub contents-ok : (g : Slot → Slot) → ((x : Slot) → shape_of (g x).object ≡ shape_of x.object) → ((x : Slot) → (g x).refcount ≡ x.refcount)
    → (s : ObjectStore) (f : ℕ → ℕ) → ObOk s f → ObOk (with_slots s (map g s.slots)) f
contents-ok g e r s f h =
    slots-ok s (map g s.slots) f (map-slots kind_at g (λ x. ap (λ (q : Shape). q.kind) (e x)) s.slots) (map-slots (λ y. y.refcount) g r s.slots)
    (map-slots next_at g (λ x. ap (λ (q : Shape). q.next) (e x)) s.slots) (map-slots head_at g (λ x. ap (λ (q : Shape). q.head) (e x)) s.slots) (length-map s.slots g)
    (λ o. slot_at-map ref_at g (λ x. ap (λ (q : Shape). q.ref) (e x)) s.slots o) h

-- ---- counts
-- what stands in a list is counted there
pub get_count : (l : List ℕ) (t : ℕ) → 0 < get_or l t 0 → 0 < count (get_or l t 0) l
unfolding count
get_count [] t z = absurd (omega arith)
get_count (x ∷ xs) zero z = omega (arith, ind-same x)
get_count (x ∷ xs) (suc t) z = omega (arith, get_count xs t z)

pub kept-thread-named : (s : ObjectStore) (t : ℕ) → 0 < kept_at s t → 0 < kept_names s (kept_at s t)
unfolding kept_names
kept-thread-named s t z = omega (arith, get_count (ids s.thread_objects) t z)

pub kept-process-named : (s : ObjectStore) → 0 < s.process_object.0 → 0 < kept_names s s.process_object.0
unfolding kept_names
kept-process-named s z = omega (arith, ind-same s.process_object.0)

module _ (s : ObjectStore) (f : ℕ → ℕ) (h : ObOk s f) where
  refs-at : (o : ℕ) → at (refs s.slots) o ≡ (slot_at s.slots o).refcount
  refs-at o = at_slots (λ x. x.refcount) s.slots o refl

  kinds-at : (o : ℕ) → at (kinds s.slots) o ≡ kind_number (object_at s o)
  kinds-at o = at_slots kind_at s.slots o refl

  -- a count is the names
  pub refs_are : (o : ℕ) → 0 < o → (slot_at s.slots o).refcount ≡ f o + kept_names s o
  refs_are o z = sym (refs-at o) ∙ h.counts.counted o z

  -- an object with a name is a cell
  pub named-cell : (o : ℕ) → 0 < o → 0 < f o + kept_names s o → Cell (kinds s.slots) o
  named-cell o z p = rw (← h.counts.lr) (at-pos (refs s.slots) o (omega (arith, h.counts.counted o z)))

  pub named-slot : (o : ℕ) → 0 < o → 0 < f o + kept_names s o → o ≤ length s.slots
  named-slot o z p = omega (arith, named-cell o z p, length-map s.slots kind_at)

  -- and it is not free
  pub named-kind : (o : ℕ) → 0 < o → 0 < f o + kept_names s o → 0 < kind_number (object_at s o)
  named-kind o z p = omega (arith, h.counts.live o (named-cell o z p), h.counts.counted o z, kinds-at o)

  pub named_live : (o : ℕ) → 0 < o → 0 < f o + kept_names s o → is_free (object_at s o) ≡ false
  named_live o z p = ne_eqb (kind_number (object_at s o)) 0 (λ e. omega (arith, named-kind o z p))

  -- the first free slot is one, and free
  pub free-slot : 0 < s.free → s.free ≤ length s.slots
  free-slot z = go h.counts.fs h.counts.fchain
    where
      go : (fs : List ℕ) → IsChain (nexts s.slots) s.free fs → s.free ≤ length s.slots
      go [] c = absurd (omega arith)
      go (x ∷ fs) c = omega (arith, c.0, c.1, length-map s.slots next_at)

  pub free-kind : 0 < s.free → kind_number (object_at s s.free) ≡ 0
  free-kind z = sym (kinds-at s.free) ∙ free-dead _ _ _ s.free _ h.counts z

  -- a name's object is not the first free slot
  pub not_free : (o : ℕ) → 0 < o → 0 < f o + kept_names s o → o ≢ s.free
  not_free o z p e = omega (arith, named-kind o z p, ap (λ i. kind_number (object_at s i)) e, free-kind (omega arith))

  -- ---- one name more
  -- no count of a sound block comes near the last 32-bit number: `names_bound` below
  pub add_ref-ok : (o : ℕ) → 0 < o → 0 < f o + kept_names s o → f o + kept_names s o < 4294967295 → ObOk (add_ref s o) (λ i. ind o i + f i)
  unfolding add_ref kept_names
  add_ref-ok o z p b =
      rw (named_live o z p)
      (let q : 0 < at (refs s.slots) o = omega (arith, h.counts.counted o z) in
      let c : pick (ltb (slot_at s.slots o).refcount 4294967295) ((slot_at s.slots o).refcount + 1) (slot_at s.slots o).refcount ≡ at (refs s.slots) o + 1 =
      rw (lt-ltb (slot_at s.slots o).refcount 4294967295 (omega (arith, refs_are o z))) (omega (arith, refs-at o)) in
      let v : Slot = with_refcount (slot_at s.slots o) (pick (ltb (slot_at s.slots o).refcount 4294967295) ((slot_at s.slots o).refcount + 1) (slot_at s.slots o).refcount) in
      record {
        counts =
            rw (map-slot_put-same kind_at s.slots o v refl, map-slot_put-same next_at s.slots o v refl, map-slot_put (λ x. x.refcount) s.slots o v, c)
            (store-add _ _ _ s.free _ _ o h.counts (named-cell o z p) q (λ i w. omega arith));
        kept = record {
          thread = λ t w. slot-f ref_at s.slots o v _ refl ∙ h.kept.thread t w;
          process = λ w. slot-f ref_at s.slots o v _ refl ∙ h.kept.process w;
        };
        chained = rw (map-slot_put-same head_at s.slots o v refl) h.chained;
        blanks = h.blanks;
        ns = length-slot_put s.slots o v ∙ h.ns;
        nw = h.nw;
        ni = h.ni;
      })

-- ---- release: one name less; the last one frees the slot and its records
module _ (s : ObjectStore) (o : ℕ) (f : ℕ → ℕ) (h : ObOk s (λ i. ind o i + f i)) (z : 0 < o) where
  rel_named : 0 < (ind o o + f o) + kept_names s o
  rel_named = omega (arith, ind-same o)

  -- so it is no dead slot
  pub release_live : release s o ≡ release_if (leb 2 (slot_at s.slots o).refcount) s o
  unfolding release
  release_live = rw (named_live s _ h o z rel_named)

  -- nothing with another name is freed
  rel_other : leb 2 (slot_at s.slots o).refcount ≡ false → (k : ℕ) → 0 < f k + kept_names s k → k ≢ o
  rel_other e k p q =
      omega (arith, leb-false 2 (slot_at s.slots o).refcount e, refs_are s _ h o z, ind-same o, rw q at p)

  pub release-dropped : leb 2 (slot_at s.slots o).refcount ≡ false → Dropped (λ r. false) s o (release_if false s o)
  unfolding release_if
  release-dropped e =
      dropped s h.chained h.nw (λ r. false) o z (named-slot s _ h o z rel_named) (record { object = Free s.free; refcount = 0; pulsed = (slot_at s.slots o).pulsed }) (release_if false s o)
      (none_left s h.chained h.nw o z) refl refl refl

  release-ok_if : (t : Bool) → leb 2 (slot_at s.slots o).refcount ≡ t → ObOk (release_if t s o) f
  unfolding release_if kept_names
  release-ok_if true e =
      let v : Slot = with_refcount (slot_at s.slots o) ((slot_at s.slots o).refcount - 1) in
      record {
        counts =
            rw (map-slot_put-same kind_at s.slots o v refl, map-slot_put-same next_at s.slots o v refl, map-slot_put (λ x. x.refcount) s.slots o v, ← refs-at s _ h o)
            (store_dec _ _ _ s.free _ _ o h.counts (named-cell s _ h o z rel_named) (omega (arith, refs-at s _ h o, leb-true 2 (slot_at s.slots o).refcount e)) (λ i w. omega arith));
        kept = record {
          thread = λ t w. slot-f ref_at s.slots o v _ refl ∙ h.kept.thread t w;
          process = λ w. slot-f ref_at s.slots o v _ refl ∙ h.kept.process w;
        };
        chained = rw (map-slot_put-same head_at s.slots o v refl) h.chained;
        blanks = h.blanks;
        ns = length-slot_put s.slots o v ∙ h.ns;
        nw = h.nw;
        ni = h.ni;
      }
  release-ok_if false e =
      let v : Slot = record { object = Free s.free; refcount = 0; pulsed = (slot_at s.slots o).pulsed } in
      let k : Cell (kinds s.slots) o = named-cell s _ h o z rel_named in
      let d = release-dropped e in
      record {
        counts =
            rw (map-slot_put kind_at s.slots o v, map-slot_put (λ x. x.refcount) s.slots o v, map-slot_put next_at s.slots o v)
            (store-free _ _ _ s.free _ _ o h.counts k (omega (arith, refs-at s _ h o, leb-false 2 (slot_at s.slots o).refcount e, refs_are s _ h o z, rel_named)) (λ i w. omega arith));
        kept = record {
          thread = λ t w. ap ref_at (slot-other s.slots o v _ (rel_other e _ (omega (arith, kept-thread-named s t w)))) ∙ h.kept.thread t w;
          process = λ w. ap ref_at (slot-other s.slots o v _ (rel_other e _ (omega (arith, kept-process-named s w)))) ∙ h.kept.process w;
        };
        chained = d.pool;
        blanks = dropped-blanks (λ r. false) s o (release_if false s o) d h.blanks;
        ns = length-slot_put s.slots o v ∙ h.ns;
        nw = d.size;
        ni = h.ni;
      }

  pub release-ok : ObOk (release s o) f
  release-ok = rw release_live (release-ok_if (leb 2 (slot_at s.slots o).refcount) refl)

-- what a release leaves alone
pub release-rest : (t : Bool) (s : ObjectStore) (o : ℕ)
    → ((release_if t s o).thread_objects ≡ s.thread_objects) × ((release_if t s o).process_object ≡ s.process_object) × ((release_if t s o).full ≡ s.full) × ((release_if t s o).overflow ≡ s.overflow)
unfolding release_if
release-rest true s o = (refl, refl, refl, refl)
release-rest false s o = (refl, refl, refl, refl)

pub release-full : (s : ObjectStore) (o : ℕ) → (release s o).full ≡ s.full
unfolding release
release-full s o = pick-both (λ (y : ObjectStore). y.full ≡ s.full) (is_free (object_at s o)) s _ refl (release-rest (leb 2 (slot_at s.slots o).refcount) s o).2

pub release-overflow : (s : ObjectStore) (o : ℕ) → (release s o).overflow ≡ s.overflow
unfolding release
release-overflow s o =
    pick-both (λ (y : ObjectStore). y.overflow ≡ s.overflow) (is_free (object_at s o)) s _ refl (release-rest (leb 2 (slot_at s.slots o).refcount) s o).3

-- all the numbers of a list are of objects: none is 0
abbrev pub Pos : List ℕ → Type 0
Pos [] = Unit {0}
Pos (x ∷ xs) = (0 < x) × Pos xs

pub releases-ok : (s : ObjectStore) (os : List ℕ) (f : ℕ → ℕ) → Pos os → ObOk s (λ i. count i os + f i) → ObOk (releases s os) f
unfolding releases count
releases-ok s [] f p h = ok_as f (λ i z. omega arith) h
releases-ok s (o ∷ os) f p h = releases-ok (release s o) os f p.1 (release-ok s o (λ i. count i os + f i) (ok_as _ (λ i z. omega arith) h) p.0)

pub releases-full : (s : ObjectStore) (os : List ℕ) → (releases s os).full ≡ s.full
unfolding releases
releases-full s [] = refl
releases-full s (o ∷ os) = releases-full (release s o) os ∙ release-full s o

pub releases-overflow : (s : ObjectStore) (os : List ℕ) → (releases s os).overflow ≡ s.overflow
unfolding releases
releases-overflow s [] = refl
releases-overflow s (o ∷ os) = releases-overflow (release s o) os ∙ release-overflow s o

-- ---- a list of objects, each with a name
abbrev pub Known : ObjectStore → (ℕ → ℕ) → List ℕ → Type 0
Known s f [] = Unit {0}
Known s f (o ∷ os) = (0 < o) × ((0 < f o + kept_names s o) × Known s f os)

-- more names: still known
pub known_more : (s s' : ObjectStore) (f f' : ℕ → ℕ) (os : List ℕ) → ((i : ℕ) → 0 < i → f i + kept_names s i ≤ f' i + kept_names s' i) → Known s f os → Known s' f' os
known_more s s' f f' [] m k = tt
known_more s s' f f' (o ∷ os) m k = (k.0, (omega (arith, m o k.0, k.1.0), known_more s s' f f' os m k.1.1))

pub add_ref-kept : (s : ObjectStore) (o i : ℕ) → kept_names (add_ref s o) i ≡ kept_names s i
unfolding add_ref kept_names
add_ref-kept s o i = pick-both (λ (y : ObjectStore). kept_names y i ≡ kept_names s i) (is_free (object_at s o)) s _ refl refl

pub add_refs-ok : (s : ObjectStore) (os : List ℕ) (f : ℕ → ℕ) → Known s f os → ((o : ℕ) → 0 < o → count o os + (f o + kept_names s o) ≤ 4294967295) → ObOk s f → ObOk (add_refs s os) (λ i. count i os + f i)
unfolding add_refs count
add_refs-ok s [] f k b h = ok_as _ (λ i z. omega arith) h
add_refs-ok s (o ∷ os) f k b h =
    ok_as _ (λ i z. omega arith)
    (add_refs-ok (add_ref s o) os (λ i. ind o i + f i) (known_more s (add_ref s o) f _ os (λ i z. omega (arith, add_ref-kept s o i)) k.1.1) (λ i z. omega (arith, b i z, add_ref-kept s o i))
    (add_ref-ok s f h o k.0 k.1.0 (omega (arith, b o k.0, ind-same o))))

-- ---- insert: a new object with one name
pub free-head : (x : KObject) → kind_number x ≡ 0 → head_of x ≡ 0
free-head (Free n) e = refl
free-head (Thread t) e = refl
free-head (Event r) e = refl
free-head (Mutex w) e = refl
free-head (Semaphore c) e = refl
free-head (Timer t) e = refl
free-head (AddressArbiter h) e = absurd (omega arith)
free-head Process e = refl
free-head ResourceLimit e = refl

pub live-next : (x : KObject) → 0 < kind_number x → next_of x ≡ 0
live-next (Free n) e = absurd (omega arith)
live-next (Thread t) e = refl
live-next (Event r) e = refl
live-next (Mutex w) e = refl
live-next (Semaphore c) e = refl
live-next (Timer t) e = refl
live-next (AddressArbiter h) e = refl
live-next Process e = refl
live-next ResourceLimit e = refl

pub free-pos : (s : ObjectStore) → eqb s.free 0 ≡ false → 0 < s.free
free-pos s g = let n = eqb-false s.free 0 g in omega arith

pub insert-full : (s : ObjectStore) (v : KObject) → (insert s v).full ≡ false → (s.full ≡ false) × (0 < s.free)
unfolding insert
insert-full s v e = let q = or-false s.full (eqb s.free 0) e in (q.0, free-pos s q.1)

module _ (s : ObjectStore) (v : KObject) (f : ℕ → ℕ) (z : 0 < s.free) (h : ObOk s f) where
  pub insert-ok : 0 < kind_number v → head_of v ≡ 0 → ObOk (insert s v) (λ i. ind s.free i + f i)
  unfolding insert kept_names
  insert-ok kz hz =
      let x : Slot = record { object = v; refcount = 1; pulsed = (slot_at s.slots s.free).pulsed } in
      let hs : head_of v ≡ head_of (object_at s s.free) = hz ∙ sym (free-head (object_at s s.free) (free-kind s f h z)) in
      record {
        counts =
            rw (map-slot_put kind_at s.slots s.free x, map-slot_put (λ y. y.refcount) s.slots s.free x, map-slot_put next_at s.slots s.free x, live-next v kz, ← at_slots next_at s.slots s.free refl)
            (store-new _ _ _ s.free _ _ (kind_number v) h.counts kz (λ i p. omega arith) z);
        kept = record {
          thread = λ t w. ap ref_at (slot-other s.slots s.free x _ (not_free s f h _ w (omega (arith, kept-thread-named s t w)))) ∙ h.kept.thread t w;
          process = λ w. ap ref_at (slot-other s.slots s.free x _ (not_free s f h _ w (omega (arith, kept-process-named s w)))) ∙ h.kept.process w;
        };
        chained = rw (map-slot_put-same head_at s.slots s.free x hs) h.chained;
        blanks = h.blanks;
        ns = length-slot_put s.slots s.free x ∙ h.ns;
        nw = h.nw;
        ni = h.ni;
      }

  -- what is inserted is there
  pub inserted : object_at (insert s v) s.free ≡ v
  unfolding insert
  inserted = ap (λ (y : Slot). y.object) (slot_same s.slots s.free _ z (free-slot s f h z))

  -- what has a name stays
  pub insert-stay : (o : ℕ) → 0 < o → 0 < f o + kept_names s o → object_at (insert s v) o ≡ object_at s o
  unfolding insert
  insert-stay o w p = ap (λ (y : Slot). y.object) (slot-other s.slots s.free _ o (not_free s f h o w p))

pub insert-kept : (s : ObjectStore) (v : KObject) (i : ℕ) → kept_names (insert s v) i ≡ kept_names s i
unfolding insert kept_names
insert-kept s v i = refl
