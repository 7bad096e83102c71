-- Records of arbiters: `retain`, `drop_thread` and `push` keep the component and the records sound; every other primitive leaves or drops records.
use Rattle.std.specs.Prelude.{◌≡◌, Bool, true, false, ◌≢◌, ◌⊎◌, List, [], ◌∷◌, ◌++◌, ℕ, zero, suc, ◌+◌, ◌≤◌, ◌<◌, eqb, leb, length}
use Rattle.std.proofs.Math.Path.{refl}
use Rattle.std.proofs.Common.{ap, sym, subst, ◌∙◌, inl, inr, arith, ne_eqb}
use Rattle.std.proofs.lemmas.Bool.{eqb-false}
use Rattle.std.proofs.lemmas.List.{length-map}
use Rattle.laws.specs.Logic.{pick, ◌and◌, ◌or◌, or-false, false-true}
use Rattle.laws.specs.Count.{ind, ind-cases, ind-same, count, at, Cell, at-put-same, at-put-other}
use Rattle.laws.specs.Walk.{walk, walk-zero}
use Rattle.types.specs.declared.object.KObject.{KObject}
use Rattle.types.specs.declared.object.KObject.TheVariants.{Free, Thread, Event, Mutex, Semaphore, Timer, AddressArbiter, Process, ResourceLimit}
use Rattle.types.specs.declared.object.Slot.{Slot}
use Rattle.types.specs.declared.object.Waiter.{Waiter}
use Rattle.types.specs.declared.object.ObjectStore.{ObjectStore}
use Rattle.types.specs.Object.{kind_number, next_of, head_of}
use Rattle.sound.specs.View.{heads, waiter_nexts, waiter_threads, waiter_addresses, slot_at, object_at}
use Rattle.sound.specs.Objects.{kept_names, ref_of}
use Rattle.sound.specs.Records.{chain_of, has?, ChainOk, RecordsOk}
use Rattle.object.specs.Slots.{with_object}
use Rattle.object.specs.Waiters.{unlink, with_head, unlinked, retain, of_others, drop_thread, first_of, is_arbiter, pushed, push}
use Rattle.object.specs.Store.{release_if, release, releases}
use Rattle.object.proofs.Laws.{length-slot_put}
use Rattle.soundness.specs.Slots.{kind_at, head_at, next_at, ref_at, map-slot_put-same, slot-f}
use Rattle.soundness.specs.Unlink.{keep_if, kept}
use Rattle.soundness.specs.Chains.{Dropped, dropped, dropped-blanks}
use Rattle.soundness.specs.Objects.{ObOk, Fine, ok_as, Pos, release_live, release-ok, release-dropped}
use Rattle.soundness.specs.Same.{SameRecs, chain_same}
use Rattle.soundness.specs.Pushed.{Pushed, pushed_of, pushed-blanks}

-- ---- the chains of question 2: threads below n, no pair twice in one
abbrev pub ChainsOk : ℕ → ObjectStore → Type 0
ChainsOk n s = (o : ℕ) → ChainOk (waiter_threads s.waiters) (waiter_addresses s.waiters) n (chain_of s o)

-- with the component, that is all of RecordsOk
pub records-of : (n : ℕ) (s : ObjectStore) (f : ℕ → ℕ) → ObOk s f → ChainsOk n s → RecordsOk n s
records-of n s f h c = record { chained = h.chained; chains = c; blanks = h.blanks }

-- columns that agree on the members
has-frame : (ts ad ts' ad' : List ℕ) (t a : ℕ) (xs : List ℕ) → ((x : ℕ) → 0 < count x xs → (at ts' x ≡ at ts x) × (at ad' x ≡ at ad x)) → has? ts' ad' t a xs ≡ has? ts ad t a xs
unfolding has? count
has-frame ts ad ts' ad' t a [] e = refl
has-frame ts ad ts' ad' t a (x ∷ xs) e =
    let q = e x (omega (arith, ind-same x)) in
    rw (q.0, q.1, has-frame ts ad ts' ad' t a xs (λ y z. e y (omega arith)))

pub chain-frame : (ts ad ts' ad' : List ℕ) (n : ℕ) (xs : List ℕ) → ((x : ℕ) → 0 < count x xs → (at ts' x ≡ at ts x) × (at ad' x ≡ at ad x)) → ChainOk ts ad n xs → ChainOk ts' ad' n xs
unfolding count
chain-frame ts ad ts' ad' n [] e h = tt
chain-frame ts ad ts' ad' n (x ∷ xs) e h =
    let q = e x (omega (arith, ind-same x)) in
    let g : (y : ℕ) → 0 < count y xs → (at ts' y ≡ at ts y) × (at ad' y ≡ at ad y) = λ y z. e y (omega arith) in
    rw (q.0, q.1, has-frame ts ad ts' ad' (at ts x) (at ad x) xs g)
    (h.0, (h.1.0, chain-frame ts ad ts' ad' n xs g h.1.1))

has-cons : (ts ad : List ℕ) (t a x : ℕ) (xs : List ℕ) → has? ts ad t a (x ∷ xs) ≡ false → ((eqb (at ts x) t and eqb (at ad x) a) ≡ false) × (has? ts ad t a xs ≡ false)
unfolding has?
has-cons ts ad t a x xs e = or-false _ _ e

has_kept : (keep : ℕ → Bool) (ts ad : List ℕ) (t a : ℕ) (xs : List ℕ) → has? ts ad t a xs ≡ false → has? ts ad t a (kept keep xs) ≡ false
unfolding has? kept ◌or◌
has_kept keep ts ad t a [] e = e
has_kept keep ts ad t a (x ∷ xs) e = go (keep x) (has-cons ts ad t a x xs e).0 (has_kept keep ts ad t a xs (has-cons ts ad t a x xs e).1)
  where
    go : (q : Bool) → (eqb (at ts x) t and eqb (at ad x) a) ≡ false → has? ts ad t a (kept keep xs) ≡ false → has? ts ad t a (keep_if q x (kept keep xs)) ≡ false
    go true f g = rw f g
    go false f g = g

-- fewer records
pub chain_fewer : (ts ad : List ℕ) (n : ℕ) (keep : ℕ → Bool) (xs : List ℕ) → ChainOk ts ad n xs → ChainOk ts ad n (kept keep xs)
unfolding kept
chain_fewer ts ad n keep [] h = tt
chain_fewer ts ad n keep (x ∷ xs) h = go (keep x) (chain_fewer ts ad n keep xs h.1.1)
  where
    go : (q : Bool) → ChainOk ts ad n (kept keep xs) → ChainOk ts ad n (keep_if q x (kept keep xs))
    go true g = (h.0, (has_kept keep ts ad _ _ xs h.1.0, g))
    go false g = g

-- more threads
pub chain_more : (ts ad : List ℕ) (n m : ℕ) → n ≤ m → (xs : List ℕ) → ChainOk ts ad n xs → ChainOk ts ad m xs
chain_more ts ad n m l [] h = tt
chain_more ts ad n m l (x ∷ xs) h = (omega (arith, h.0), (h.1.0, chain_more ts ad n m l xs h.1.1))

-- records and heads as they were
pub chains-same : (n : ℕ) (s s' : ObjectStore) → SameRecs s s' → ChainsOk n s → ChainsOk n s'
chains-same n s s' e h o =
    subst (λ (w : List Waiter). ChainOk (waiter_threads w) (waiter_addresses w) n (chain_of s' o)) (sym e.waiters)
    (subst (ChainOk (waiter_threads s.waiters) (waiter_addresses s.waiters) n) (sym (chain_same s s' e o)) (h o))

-- ---- some records of one object went back
pub dropped-chains : (n : ℕ) (keep : ℕ → Bool) (s : ObjectStore) (o : ℕ) (s' : ObjectStore) → Dropped keep s o s' → ChainsOk n s → ChainsOk n s'
dropped-chains n keep s o s' d h i =
    chain-frame (waiter_threads s.waiters) (waiter_addresses s.waiters) (waiter_threads s'.waiters) (waiter_addresses s'.waiters) n (chain_of s' i) (λ x z. d.stay x (d.apart x i z))
    (elim (ind-cases i o) [
      | inl e ↦
          subst (ChainOk (waiter_threads s.waiters) (waiter_addresses s.waiters) n) (sym (ap (chain_of s') e.0 ∙ d.self))
          (chain_fewer (waiter_threads s.waiters) (waiter_addresses s.waiters) n keep (chain_of s o) (h o))
      | inr e ↦ subst (ChainOk (waiter_threads s.waiters) (waiter_addresses s.waiters) n) (sym (d.other i e.0)) (h i)
    ])

release-chains_if : (n : ℕ) (s : ObjectStore) (o : ℕ) (f : ℕ → ℕ) (t : Bool) → leb 2 (slot_at s.slots o).refcount ≡ t → 0 < o → ObOk s (λ i. ind o i + f i) → ChainsOk n s → ChainsOk n (release_if t s o)
unfolding release_if
release-chains_if n s o f true e z ok h = chains-same n s (release_if true s o) (record { waiters = refl; free = refl; heads = λ i. slot-f head_at s.slots o _ i refl }) h
release-chains_if n s o f false e z ok h = dropped-chains n (λ r. false) s o (release_if false s o) (release-dropped s o f ok z e) h

pub release-chains : (n : ℕ) (s : ObjectStore) (o : ℕ) (f : ℕ → ℕ) → 0 < o → ObOk s (λ i. ind o i + f i) → ChainsOk n s → ChainsOk n (release s o)
release-chains n s o f z ok h = rw (release_live s o f ok z) (release-chains_if n s o f (leb 2 (slot_at s.slots o).refcount) refl z ok h)

pub releases-chains : (n : ℕ) (os : List ℕ) (s : ObjectStore) (f : ℕ → ℕ) → Pos os → ObOk s (λ i. count i os + f i) → ChainsOk n s → ChainsOk n (releases s os)
unfolding releases count
releases-chains n [] s f p ok h = h
releases-chains n (o ∷ os) s f p ok h =
    let ok' = ok_as {s = s} (λ i. ind o i + (count i os + f i)) (λ i z. omega arith) ok in
    releases-chains n os (release s o) f p.1 (release-ok s o (λ i. count i os + f i) ok' p.0) (release-chains n s o (λ i. count i os + f i) p.0 ok' h)

-- ---- kind, next and reference of the object stay, its head is the chain's
pub with_head-shape : (x : KObject) (h : ℕ) → (kind_number (with_head x h) ≡ kind_number x) × (next_of (with_head x h) ≡ next_of x) × (ref_of (with_head x h) ≡ ref_of x)
with_head-shape (Free n) h = (refl, refl, refl)
with_head-shape (Thread t) h = (refl, refl, refl)
with_head-shape (Event e) h = (refl, refl, refl)
with_head-shape (Mutex m) h = (refl, refl, refl)
with_head-shape (Semaphore c) h = (refl, refl, refl)
with_head-shape (Timer t) h = (refl, refl, refl)
with_head-shape (AddressArbiter a) h = (refl, refl, refl)
with_head-shape Process h = (refl, refl, refl)
with_head-shape ResourceLimit h = (refl, refl, refl)

-- what has no records has the head 0 and keeps it
with_head-head : (x : KObject) (h : ℕ) → (is_arbiter x ≡ false → h ≡ 0) → head_of (with_head x h) ≡ h
with_head-head (Free n) h e = sym (e refl)
with_head-head (Thread t) h e = sym (e refl)
with_head-head (Event x) h e = sym (e refl)
with_head-head (Mutex m) h e = sym (e refl)
with_head-head (Semaphore c) h e = sym (e refl)
with_head-head (Timer t) h e = sym (e refl)
with_head-head (AddressArbiter a) h e = refl
with_head-head Process h e = sym (e refl)
with_head-head ResourceLimit h e = sym (e refl)

arbiter-head : (x : KObject) → is_arbiter x ≡ false → head_of x ≡ 0
arbiter-head (Free n) e = refl
arbiter-head (Thread t) e = refl
arbiter-head (Event x) e = refl
arbiter-head (Mutex m) e = refl
arbiter-head (Semaphore c) e = refl
arbiter-head (Timer t) e = refl
arbiter-head (AddressArbiter a) e = false-true (sym e)
arbiter-head Process e = refl
arbiter-head ResourceLimit e = refl

plain-chain : (s : ObjectStore) (o : ℕ) → is_arbiter (object_at s o) ≡ false → chain_of s o ≡ []
plain-chain s o e = ap (walk (waiter_nexts s.waiters) 64) (arbiter-head (object_at s o) e) ∙ walk-zero (waiter_nexts s.waiters) 64

retain-head : (keep : ℕ → Bool) (s : ObjectStore) (o : ℕ) → head_of (with_head (object_at s o) (unlinked keep s o).head) ≡ (unlinked keep s o).head
unfolding unlink
retain-head keep s o = with_head-head (object_at s o) _ (λ e. ap (λ (c : List ℕ). (unlink keep s.waiters s.free_waiter c).head) (plain-chain s o e))

-- ---- retain
module _ (keep : ℕ → Bool) (s : ObjectStore) (o : ℕ) (f : ℕ → ℕ) (z : 0 < o) (l : o ≤ 128) (h : ObOk s f) where
  pub retain-dropped : Dropped keep s o (retain keep s o)
  unfolding retain
  retain-dropped =
      dropped s h.chained h.nw keep o z (omega (arith, h.ns)) (with_object (slot_at s.slots o) (with_head (object_at s o) (unlinked keep s o).head)) (retain keep s o) (retain-head keep s o) refl refl refl

  pub retain-ok : ObOk (retain keep s o) f
  unfolding retain kept_names
  retain-ok =
      let d = retain-dropped in
      let n = with_head-shape (object_at s o) (unlinked keep s o).head in
      let v : Slot = with_object (slot_at s.slots o) (with_head (object_at s o) (unlinked keep s o).head) in
      let ek = map-slot_put-same kind_at s.slots o v n.0 in
      let er = map-slot_put-same (λ y. y.refcount) s.slots o v refl in
      let en = map-slot_put-same next_at s.slots o v n.1 in
      record {
        counts = rw (ek, er, en) h.counts;
        kept = record {
          thread = λ t w. slot-f ref_at s.slots o v _ n.2 ∙ h.kept.thread t w;
          process = λ w. slot-f ref_at s.slots o v _ n.2 ∙ h.kept.process w;
        };
        chained = d.pool;
        blanks = dropped-blanks keep s o (retain keep s o) d h.blanks;
        ns = length-slot_put s.slots o v ∙ h.ns;
        nw = d.size;
        ni = h.ni;
      }

  pub retain-chains : (n : ℕ) → ChainsOk n s → ChainsOk n (retain keep s o)
  retain-chains n c = dropped-chains n keep s o (retain keep s o) retain-dropped c

pub retain-full : (keep : ℕ → Bool) (s : ObjectStore) (o : ℕ) → (retain keep s o).full ≡ s.full
unfolding retain
retain-full keep s o = refl

-- ---- drop_thread, over slots o .. o + n - 1
pub drop_thread-ok : (n o t : ℕ) (s : ObjectStore) (f : ℕ → ℕ) → 0 < o → o + n ≤ 129 → ObOk s f → ObOk (drop_thread n o t s) f
unfolding drop_thread
drop_thread-ok zero o t s f z l h = h
drop_thread-ok (suc n) o t s f z l h = drop_thread-ok n (suc o) t (retain (of_others s t) s o) f (omega arith) (omega arith) (retain-ok (of_others s t) s o f z (omega arith) h)

pub drop_thread-chains : (m n o t : ℕ) (s : ObjectStore) (f : ℕ → ℕ) → 0 < o → o + n ≤ 129 → ObOk s f → ChainsOk m s → ChainsOk m (drop_thread n o t s)
unfolding drop_thread
drop_thread-chains m zero o t s f z l h c = c
drop_thread-chains m (suc n) o t s f z l h c =
    drop_thread-chains m n (suc o) t (retain (of_others s t) s o) f (omega arith) (omega arith) (retain-ok (of_others s t) s o f z (omega arith) h)
    (retain-chains (of_others s t) s o f z (omega arith) h m c)

pub drop_thread-full : (n o t : ℕ) (s : ObjectStore) → (drop_thread n o t s).full ≡ s.full
unfolding drop_thread
drop_thread-full zero o t s = refl
drop_thread-full (suc n) o t s = drop_thread-full n (suc o) t (retain (of_others s t) s o) ∙ retain-full (of_others s t) s o

-- ---- push
-- what is no slot is no arbiter
arbiter_in : (l : List Slot) (o : ℕ) → is_arbiter (slot_at l o).object ≡ true → (0 < o) × (o ≤ length l)
unfolding slot_at
arbiter_in l zero e = false-true e
arbiter_in [] (suc i) e = false-true e
arbiter_in (x ∷ l) (suc zero) e = (omega arith, omega arith)
arbiter_in (x ∷ l) (suc (suc i)) e = let r = arbiter_in l (suc i) e in (omega arith, omega arith)

module _ (s : ObjectStore) (o t a : ℕ) (f : ℕ → ℕ) (q : is_arbiter (object_at s o) ≡ true) (z : 0 < s.free_waiter) (h : ObOk s f) where
  pub push-pushed : Pushed s o s.free_waiter t a (pushed s o t a)
  push-pushed =
      let r = arbiter_in s.slots o q in
      pushed_of s h.chained h.nw o t a r.0 r.1 z (with_object (slot_at s.slots o) (with_head (object_at s o) (first_of (chain_of s o) s.free_waiter))) (pushed s o t a)
      (with_head-head (object_at s o) _ (λ w. false-true (sym w ∙ q))) refl refl refl

  pushed-ok : ObOk (pushed s o t a) f
  unfolding kept_names
  pushed-ok =
      let d = push-pushed in
      let n = with_head-shape (object_at s o) (first_of (chain_of s o) s.free_waiter) in
      let v : Slot = with_object (slot_at s.slots o) (with_head (object_at s o) (first_of (chain_of s o) s.free_waiter)) in
      let ek = map-slot_put-same kind_at s.slots o v n.0 in
      let er = map-slot_put-same (λ y. y.refcount) s.slots o v refl in
      let en = map-slot_put-same next_at s.slots o v n.1 in
      record {
        counts = rw (ek, er, en) h.counts;
        kept = record {
          thread = λ t w. slot-f ref_at s.slots o v _ n.2 ∙ h.kept.thread t w;
          process = λ w. slot-f ref_at s.slots o v _ n.2 ∙ h.kept.process w;
        };
        chained = d.pool;
        blanks = pushed-blanks s o s.free_waiter t a (pushed s o t a) d h.blanks;
        ns = length-slot_put s.slots o v ∙ h.ns;
        nw = d.size;
        ni = h.ni;
      }

push-ok_if : (p q : Bool) (s : ObjectStore) (o t a : ℕ) (f : ℕ → ℕ) → is_arbiter (object_at s o) ≡ p → Fine s f → Fine (pick p (pick q s (pushed s o t a)) s) f
push-ok_if true true s o t a f e h g = h g
push-ok_if true false s o t a f e h g =
    let w = or-false s.full (eqb s.free_waiter 0) g in
    pushed-ok s o t a f e (let n = eqb-false s.free_waiter 0 w.1 in omega arith) (h w.0)
push-ok_if false q s o t a f e h g = h g

pub push_ok : (s : ObjectStore) (o t a : ℕ) (f : ℕ → ℕ) → Fine s f → Fine (push s o t a) f
unfolding push
push_ok s o t a f h g = push-ok_if (is_arbiter (object_at s o)) (has? (waiter_threads s.waiters) (waiter_addresses s.waiters) t a (chain_of s o)) s o t a f refl h g

push-full_if : (p q : Bool) (s : ObjectStore) (o t a : ℕ) → (pick p (pick q s (pushed s o t a)) s).full ≡ false → s.full ≡ false
push-full_if true true s o t a g = g
push-full_if true false s o t a g = (or-false s.full (eqb s.free_waiter 0) g).0
push-full_if false q s o t a g = g

-- the finding sticks
pub push-full : (s : ObjectStore) (o t a : ℕ) → (push s o t a).full ≡ false → s.full ≡ false
unfolding push
push-full s o t a g = push-full_if (is_arbiter (object_at s o)) (has? (waiter_threads s.waiters) (waiter_addresses s.waiters) t a (chain_of s o)) s o t a g

-- a record of (t, a) at the end, if none was there
eqb_sym : (a b : ℕ) → eqb a b ≡ false → eqb b a ≡ false
eqb_sym a b e = ne_eqb b a (λ q. eqb-false a b e (sym q))

and-false : (a b : Bool) → a and b ≡ false → (a ≡ false) ⊎ (b ≡ false)
unfolding ◌and◌
and-false true b e = inr e
and-false false b e = inl refl

swap : (a b c d : ℕ) → eqb a b and eqb c d ≡ false → eqb b a and eqb d c ≡ false
unfolding ◌and◌
swap a b c d e =
    elim (and-false (eqb a b) (eqb c d) e) [
      | inl q ↦ rw (eqb_sym a b q)
      | inr q ↦ go (eqb b a) (eqb_sym c d q)
    ]
  where
    go : (x : Bool) → eqb d c ≡ false → x and eqb d c ≡ false
    go true f = f
    go false f = refl

or-both : (a b : Bool) → a ≡ false → b ≡ false → a or b ≡ false
unfolding ◌or◌
or-both a b e f = rw e f

has_end : (ts ad : List ℕ) (t a r : ℕ) (xs : List ℕ) → has? ts ad t a xs ≡ false → (eqb (at ts r) t and eqb (at ad r) a) ≡ false → has? ts ad t a (xs ++ (r ∷ [])) ≡ false
unfolding has?
has_end ts ad t a r [] e f = or-both _ _ f refl
has_end ts ad t a r (x ∷ xs) e f = or-both _ _ (or-false _ _ e).0 (has_end ts ad t a r xs (or-false _ _ e).1 f)

chain-end : (ts ad : List ℕ) (n r : ℕ) (xs : List ℕ) → at ts r < n → has? ts ad (at ts r) (at ad r) xs ≡ false → ChainOk ts ad n xs → ChainOk ts ad n (xs ++ (r ∷ []))
unfolding has?
chain-end ts ad n r [] l e h = (l, (refl, tt))
chain-end ts ad n r (x ∷ xs) l e h = (
  h.0,
  (
    has_end ts ad (at ts x) (at ad x) r xs h.1.0 (swap (at ts x) (at ts r) (at ad x) (at ad r) (has-cons ts ad _ _ x xs e).0),
    chain-end ts ad n r xs l (has-cons ts ad _ _ x xs e).1 h.1.1,
  ),
)

pub pushed-chains : (n : ℕ) (s : ObjectStore) (o r t a : ℕ) (s' : ObjectStore) → length s.waiters ≡ 64 → Pushed s o r t a s' → t < n
    → has? (waiter_threads s.waiters) (waiter_addresses s.waiters) t a (chain_of s o) ≡ false → ChainsOk n s → ChainsOk n s'
pushed-chains n s o r t a s' nw d l g h i =
    let ts : List ℕ = waiter_threads s.waiters in
    let ad : List ℕ = waiter_addresses s.waiters in
    let ts' : List ℕ = waiter_threads s'.waiters in
    let ad' : List ℕ = waiter_addresses s'.waiters in
    let c = d.cell in
    let ct : Cell ts r = (c.0, omega (arith, c.1, length-map s.waiters (λ (w : Waiter). w.next), length-map s.waiters (λ (w : Waiter). w.thread))) in
    let ca : Cell ad r = (c.0, omega (arith, c.1, length-map s.waiters (λ (w : Waiter). w.next), length-map s.waiters (λ (w : Waiter). w.address))) in
    let at-t : at ts' r ≡ t = ap (λ (y : List ℕ). at y r) d.threads ∙ at-put-same ts r t ct in
    let at_a : at ad' r ≡ a = ap (λ (y : List ℕ). at y r) d.addresses ∙ at-put-same ad r a ca in
    let fr : (j x : ℕ) → 0 < count x (chain_of s j) → (at ts' x ≡ at ts x) × (at ad' x ≡ at ad x) =
    λ j x w.
    let m : x ≢ r = λ e. omega (arith, d.out j, ap (λ (k : ℕ). count k (chain_of s j)) e) in
    (ap (λ (y : List ℕ). at y x) d.threads ∙ at-put-other ts r x t m, ap (λ (y : List ℕ). at y x) d.addresses ∙ at-put-other ad r x a m) in
    elim (ind-cases i o) [
      | inl e ↦
          subst (ChainOk ts' ad' n) (sym (ap (chain_of s') e.0 ∙ d.self))
          (chain-end ts' ad' n r (chain_of s o) (omega (arith, at-t)) ((λ k. has? ts' ad' (at-t k) (at_a k) (chain_of s o)) ∙ has-frame ts ad ts' ad' t a (chain_of s o) (fr o) ∙ g)
          (chain-frame ts ad ts' ad' n (chain_of s o) (fr o) (h o)))
      | inr e ↦ subst (ChainOk ts' ad' n) (sym (d.other i e.0)) (chain-frame ts ad ts' ad' n (chain_of s i) (fr i) (h i))
    ]

push-chains_if : (p q : Bool) (n : ℕ) (s : ObjectStore) (o t a : ℕ) (f : ℕ → ℕ) → is_arbiter (object_at s o) ≡ p
    → has? (waiter_threads s.waiters) (waiter_addresses s.waiters) t a (chain_of s o) ≡ q → t < n → Fine s f → (pick p (pick q s (pushed s o t a)) s).full ≡ false → ChainsOk n s
    → ChainsOk n (pick p (pick q s (pushed s o t a)) s)
push-chains_if true true n s o t a f e b l h g c = c
push-chains_if true false n s o t a f e b l h g c =
    let w = or-false s.full (eqb s.free_waiter 0) g in
    let k : ObOk s f = h w.0 in
    pushed-chains n s o s.free_waiter t a (pushed s o t a) k.nw (push-pushed s o t a f e (let m = eqb-false s.free_waiter 0 w.1 in omega arith) k) l b c
push-chains_if false q n s o t a f e b l h g c = c

pub push-chains : (n : ℕ) (s : ObjectStore) (o t a : ℕ) (f : ℕ → ℕ) → t < n → Fine s f → (push s o t a).full ≡ false → ChainsOk n s → ChainsOk n (push s o t a)
unfolding push
push-chains n s o t a f l h g c = push-chains_if (is_arbiter (object_at s o)) (has? (waiter_threads s.waiters) (waiter_addresses s.waiters) t a (chain_of s o)) n s o t a f refl refl l h g c
