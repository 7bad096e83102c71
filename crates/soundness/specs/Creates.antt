-- A new thread keeps a state sound, in the place of an ended thread or in the next one.
use Rattle.std.specs.Prelude.{◌≡◌, refl, Bool, true, false, ◌≢◌, List, ℕ, zero, suc, ◌+◌, ◌^◌, ◌≤◌, ◌<◌, eqb, leb, ltb}
use Rattle.std.specs.Prelude.{length, set, Option, Some, None}
use Rattle.std.proofs.Common.{sym, subst, ◌∙◌, inl, inr, arith, length-set, leb-false, ltb-true, ltb-false}
use Rattle.std.proofs.lemmas.Bool.{eqb-false, lt-leb}
use Rattle.laws.specs.Logic.{pick, pick_no, ◌and◌, ◌or◌, and-true, or-false, lt-cases}
use Rattle.laws.specs.All.{all_set, all_get, all_map}
use Rattle.units.specs.declared.ObjectId.{ObjectId}
use Rattle.types.specs.declared.thread.ThreadStatus.{ThreadStatus}
use Rattle.types.specs.declared.thread.ThreadStatus.TheVariants.{Dead, Running, Ready, Sleeping, WaitSync, WaitArbiter, Dormant}
use Rattle.types.specs.declared.thread.Thread.{Thread}
use Rattle.types.specs.declared.object.ObjectStore.{ObjectStore}
use Rattle.types.specs.declared.kernel.Kernel.{Kernel}
use Rattle.types.specs.Thread.{is_dead, status_number}
use Rattle.codec.proofs.Fit.{◌&◌}
use Rattle.block.proofs.Fits.{ThreadFits}
use Rattle.sound.specs.View.{ids, waiter_threads, waiter_addresses, object_at, thread_at}
use Rattle.sound.specs.Threads.{Zeros, Blank, PlaceOk, CurrentOk, ThreadsOk}
use Rattle.sound.specs.Tls.{held}
use Rattle.sound.specs.Objects.{names, kept_at, Live, ContentOk, Each}
use Rattle.sound.specs.Records.{chain_of}
use Rattle.sound.specs.Sound.{Sound}
use Rattle.object.specs.Waiters.{retain, of_others, drop_thread}
use Rattle.object.specs.Store.{release}
use Rattle.thread.specs.Thread.{new_thread}
use Rattle.thread.specs.Threads.{least, tls_slot, unnamed, ended_from, ended_thread, forget_thread, create_at, create_thread}
use Rattle.thread.specs.Marks.{least-is, least-le}
use Rattle.soundness.specs.Objects.{ObOk, ok_as, release-ok, release-full, release-overflow}
use Rattle.soundness.specs.Kept.{unkept, unkept-ok}
use Rattle.soundness.specs.Records.{ChainsOk, chain_more, release-chains, drop_thread-ok, drop_thread-chains, drop_thread-full}
use Rattle.soundness.specs.Each.{each-release, each-drop_thread, content-free, content-head}
use Rattle.soundness.specs.Fits.{Word, StoreFits, release-fits, unkept-fits, drop_thread-fits, no-objects, none_fit}
use Rattle.soundness.specs.Threads.{Others, threads-set, dead-list, names_same, content-more, live-set}
use Rattle.soundness.specs.Tls.{free-from, tls-new}
use Rattle.soundness.specs.Whole.{Parts, sound-parts, parts-sound}

-- ---- a store, all that a sound state asks of it
pub record StoreOk (n : ℕ) (ts : List Thread) (f : ℕ → ℕ) (s : ObjectStore) : Type 0 where
  pub ob : ObOk s f
  pub contents : Each (ContentOk n ts) s
  pub chains : ChainsOk n s
  pub fits : StoreFits s
  pub full : s.full ≡ false
  pub overflow : s.overflow ≡ false

pub parts-store : (k : Kernel) → Parts k → StoreOk k.thread_count k.threads (names k.handles k.threads) k.objects
parts-store k p = record { ob = p.ob; contents = p.contents; chains = p.chains; fits = p.store_fits; full = p.clean.2; overflow = p.clean.3 }

-- more threads, the live ones still live, and names counted the same
pub store-more : (n n' : ℕ) (ts ts' : List Thread) (f f' : ℕ → ℕ) (s : ObjectStore) → n ≤ n' → ((t : ℕ) → Live ts t → Live ts' t) → ((o : ℕ) → 0 < o → f' o ≡ f o)
    → StoreOk n ts f s → StoreOk n' ts' f' s
store-more n n' ts ts' f f' s l g e h = record {
  ob = ok_as f' e h.ob;
  contents = λ o. content-more n n' ts ts' l g (object_at s o) (h.contents o);
  chains = λ o. chain_more (waiter_threads s.waiters) (waiter_addresses s.waiters) n n' l (chain_of s o) (h.chains o);
  fits = h.fits;
  full = h.full;
  overflow = h.overflow;
}

-- ---- the finding `overflow` is left alone
pub retain-overflow : (keep : ℕ → Bool) (s : ObjectStore) (o : ℕ) → (retain keep s o).overflow ≡ s.overflow
unfolding retain
retain-overflow keep s o = refl

pub drop_thread-overflow : (n o t : ℕ) (s : ObjectStore) → (drop_thread n o t s).overflow ≡ s.overflow
unfolding drop_thread
drop_thread-overflow zero o t s = refl
drop_thread-overflow (suc n) o t s = drop_thread-overflow n (suc o) t (retain (of_others s t) s o) ∙ retain-overflow (of_others s t) s o

-- ---- `forget_thread`
pub kept-fits : (s : ObjectStore) (t : ℕ) → StoreFits s → Word (kept_at s t)
kept-fits s t f = all_get Word (ids s.thread_objects) t 0 (omega arith) (all_map Word (λ (o : ObjectId). o.0) s.thread_objects f.ids)

module _ (n : ℕ) (ts : List Thread) (f : ℕ → ℕ) where
  drop-store : (m o t : ℕ) (s : ObjectStore) → 0 < o → o + m ≤ 129 → StoreOk n ts f s → StoreOk n ts f (drop_thread m o t s)
  drop-store m o t s z l h = record {
    ob = drop_thread-ok m o t s f z l h.ob;
    contents = each-drop_thread (ContentOk n ts) (content-head n ts) m o t s h.contents;
    chains = drop_thread-chains n m o t s f z l h.ob h.chains;
    fits = drop_thread-fits m o t s h.fits;
    full = drop_thread-full m o t s ∙ h.full;
    overflow = drop_thread-overflow m o t s ∙ h.overflow;
  }

  unkept-store : (s : ObjectStore) (t : ℕ) → t < 32 → StoreOk n ts f s → (q : Bool) → eqb (kept_at s t) 0 ≡ q → StoreOk n ts f (pick q s (release (unkept s t) (kept_at s t)))
  unkept-store s t l h true e = h
  unkept-store s t l h false e =
      let z : 0 < kept_at s t = let m = eqb-false (kept_at s t) 0 e in omega arith in
      let u = unkept-ok s f t l h.ob in
      record {
        ob = release-ok (unkept s t) (kept_at s t) f u z;
        contents = each-release (ContentOk n ts) (content-free n ts) (unkept s t) (kept_at s t) h.contents;
        chains = release-chains n (unkept s t) (kept_at s t) f z u h.chains;
        fits = release-fits (unkept s t) (unkept-fits s t h.fits) (kept_at s t) (kept-fits s t h.fits);
        full = release-full (unkept s t) (kept_at s t) ∙ h.full;
        overflow = release-overflow (unkept s t) (kept_at s t) ∙ h.overflow;
      }

  pub forget_store : (s : ObjectStore) (t : ℕ) → t < 32 → StoreOk n ts f s → StoreOk n ts f (forget_thread s t)
  unfolding forget_thread
  forget_store s t l h = drop-store 128 1 t (pick (eqb (kept_at s t) 0) s (release (unkept s t) (kept_at s t))) (omega arith) (omega arith) (unkept-store s t l h (eqb (kept_at s t) 0) refl)

-- ---- `ended_thread`: a place before t + n, Dead and not named, or t + n
pub record EndedFrom (k : Kernel) (n t r : ℕ) : Type 0 where
  pub to : r ≤ t + n
  pub dead : r < t + n → is_dead (thread_at k.threads r).status ≡ true
  pub unnamed : r < t + n → unnamed k.objects r ≡ true

ended_as : (k : Kernel) (n t : ℕ) (q : Bool) → is_dead (thread_at k.threads t).status and unnamed k.objects t ≡ q → EndedFrom k n (t + 1) (ended_from k n (t + 1))
    → EndedFrom k (suc n) t (pick q t (ended_from k n (t + 1)))
ended_as k n t true e h = record { to = omega arith; dead = λ l. (and-true _ _ e).0; unnamed = λ l. (and-true _ _ e).1 }
ended_as k n t false e h = record { to = omega (arith, h.to); dead = λ l. h.dead (omega arith); unnamed = λ l. h.unnamed (omega arith) }

pub ended-from : (k : Kernel) (n t : ℕ) → EndedFrom k n t (ended_from k n t)
unfolding ended_from
ended-from k zero t = record { to = omega arith; dead = λ l. absurd (omega arith); unnamed = λ l. absurd (omega arith) }
ended-from k (suc n) t = ended_as k n t (is_dead (thread_at k.threads t).status and unnamed k.objects t) refl (ended-from k n (t + 1))

pub ended-thread : (k : Kernel) → k.thread_count ≤ 32 → EndedFrom k k.thread_count 0 (ended_thread k)
unfolding ended_thread
ended-thread k m = subst (λ (n : ℕ). EndedFrom k n 0 (ended_from k (least k.thread_count 32) 0)) (least-is k.thread_count 32 m) (ended-from k (least k.thread_count 32) 0)

-- a place not in use is Dead
pub blank-dead : (t : Thread) → Blank t → is_dead t.status ≡ true
blank-dead t b = go t.status b.0.0
  where
    go : (s : ThreadStatus) → status_number s ≡ 0 → is_dead s ≡ true
    go Dead e = refl
    go Running e = absurd (omega arith)
    go Ready e = absurd (omega arith)
    go Sleeping e = absurd (omega arith)
    go WaitSync e = absurd (omega arith)
    go WaitArbiter e = absurd (omega arith)
    go Dormant e = absurd (omega arith)

-- the place found is Dead
pub ended-dead : (k : Kernel) → ThreadsOk k.thread_count k.current_thread k.threads → ended_thread k < 32 → is_dead (thread_at k.threads (ended_thread k)).status ≡ true
ended-dead k h l =
    elim (lt-cases (ended_thread k) k.thread_count) [
      | inl q ↦ (ended-thread k h.many).dead (omega arith)
      | inr q ↦ blank-dead (thread_at k.threads (ended_thread k)) ((h.each (ended_thread k) l).unused q)
    ]

-- ---- the new thread
pub new_zeros : (entry stack priority processor tls guest : ℕ) → Zeros (ids (new_thread entry stack priority processor tls guest).wait_objects)
new_zeros entry stack priority processor tls guest = no-objects

pub new-place : (n : ℕ) (c : Option ℕ) (i entry stack priority processor tls guest : ℕ) → i < n → priority ≤ 63
    → PlaceOk n c i (new_thread entry stack priority processor tls guest)
new-place n c i entry stack priority processor tls guest l p = record {
  used = λ u. record { priority = p; run = tt; list = new_zeros entry stack priority processor tls guest; only = refl };
  unused = λ u. absurd (omega arith);
}

pub new-fits : (entry stack priority processor tls guest : ℕ) → Word entry → Word stack → priority ≤ 63 → Word processor → Word tls → Word guest → ThreadFits (new_thread entry stack priority processor tls guest)
new-fits entry stack priority processor tls guest we ws p wp wt wg =
    let z : 0 < 256 ^ 4 = omega arith in
    let y : 0 < 256 ^ 8 = omega arith in
    let o : 1 < 256 ^ 4 = omega arith in
    let r : 2 < 256 ^ 4 = omega arith in
    let q : Word priority = omega arith in (
      r & q & we & ws & wt & wp & z & z & o & z & z & z & z & z & z & wg & y & y & tt,
      none_fit,
      refl,
    )

pub current-more : (c : Option ℕ) (n m : ℕ) → n ≤ m → CurrentOk c n → CurrentOk c m
current-more None n m l h = tt
current-more (Some t) n m l h = omega arith

-- its TLS slot is a number of 32 bits
tls-small : (k : Kernel) → Word (tls_slot k)
unfolding tls_slot
tls-small k = omega (arith, (free-from (held k.threads) (least k.next_tls_slot 32) 0).to, least-le k.next_tls_slot 32)

-- ---- the number of threads: as it was, or one more for the place i
pub record Grown (n i m : ℕ) : Type 0 where
  pub more : n ≤ m
  pub most : m ≤ 32
  pub new : i < m
  pub old : (j : ℕ) → j ≢ i → j < m → j < n

grown : (n i : ℕ) → i < 32 → i ≤ n → n ≤ 32 → (r : Bool) → ltb i n ≡ r → Grown n i (pick (r or leb 32 n) n (n + 1))
unfolding ◌or◌
grown n i l t m true e = record { more = omega arith; most = m; new = ltb-true i n e; old = λ j a b. b }
grown n i l t m false e =
    let q = ltb-false i n e in
    subst (Grown n i) (sym (pick_no (leb 32 n) n (n + 1) (lt-leb 32 n (omega arith))))
    (record { more = omega arith; most = omega arith; new = omega arith; old = λ j a b. omega (arith, a) })

others : (n i m : ℕ) (c : Option ℕ) (ts : List Thread) (v : Thread) → Grown n i m → Others n m c c ts i v
others n i m c ts v g = record { run = λ j e s h. h; used = g.old; unused = λ j e l. omega (arith, g.more) }

-- ---- `create_thread`
module _ (k : Kernel) (entry stack priority processor : ℕ) (p : Parts k) (we : Word entry) (ws : Word stack) (wp : Word processor)
    (f : k.full or leb 32 (ended_thread k) ≡ false) (v : k.overflow or leb 4294967295 k.next_guest_id ≡ false) where
  abbrev made : Thread
  made = new_thread entry stack (least priority 63) processor (tls_slot k) k.next_guest_id

  place_in : ended_thread k < 32
  place_in = leb-false 32 (ended_thread k) (or-false _ _ f).1

  place_at : ended_thread k < length k.threads
  place_at = omega (arith, place_in, p.nt)

  place-dead : is_dead (thread_at k.threads (ended_thread k)).status ≡ true
  place-dead = ended-dead k p.threads place_in

  guest-fits : (q : Bool) → ltb k.next_guest_id 4294967295 ≡ q → Word (pick q (k.next_guest_id + 1) k.next_guest_id)
  guest-fits true e = omega (arith, ltb-true k.next_guest_id 4294967295 e)
  guest-fits false e = p.next_guest

  made-names : (o : ℕ) → 0 < o → names k.handles (set k.threads (ended_thread k) made) o ≡ names k.handles k.threads o
  made-names =
      names_same k.handles k.threads (ended_thread k) made place_at
      (dead-list k.thread_count k.current_thread (ended_thread k) (thread_at k.threads (ended_thread k)) place-dead (p.threads.each (ended_thread k) place_in))
      (new_zeros entry stack (least priority 63) processor (tls_slot k) k.next_guest_id)

  made-store : (r : Bool) → StoreOk k.thread_count k.threads (names k.handles k.threads) (pick r (forget_thread k.objects (ended_thread k)) k.objects)
  made-store true = forget_store k.thread_count k.threads (names k.handles k.threads) k.objects (ended_thread k) place_in (parts-store k p)
  made-store false = parts-store k p

  create_as : (r : Bool) → ltb (ended_thread k) k.thread_count ≡ r → Parts (create_at r (ended_thread k) (tls_slot k) k entry stack priority processor)
  create_as r e =
      let n : ℕ = k.thread_count in
      let m : ℕ = pick (r or leb 32 n) n (n + 1) in
      let i : ℕ = ended_thread k in
      let ts : List Thread = k.threads in
      let g : Grown n i m = grown n i place_in (omega (arith, (ended-thread k p.threads.many).to)) p.threads.many r e in
      let s = store-more n m ts (set ts i made) (names k.handles ts) (names k.handles (set ts i made)) (pick r (forget_thread k.objects i) k.objects) g.more (live-set ts i made place_at refl) made-names (made-store r) in
      let t = tls-new k p.tls p.nt i place_in place-dead made refl refl in
      record {
        ob = s.ob;
        contents = s.contents;
        chains = s.chains;
        table = p.table;
        threads =
            threads-set n m k.current_thread k.current_thread ts i made p.nt place_in g.most (current-more k.current_thread n m g.more p.threads.current)
            (new-place m k.current_thread i entry stack (least priority 63) processor (tls_slot k) k.next_guest_id g.new (least-le priority 63)) (others n i m k.current_thread ts made g) p.threads;
        tls = t;
        store_fits = s.fits;
        table_fits = p.table_fits;
        nt = length-set ts i made ∙ p.nt;
        threads_fit = all_set ThreadFits ts i (new-fits entry stack (least priority 63) processor (tls_slot k) k.next_guest_id we ws (least-le priority 63) wp (tls-small k) p.next_guest) p.threads_fit;
        status = p.status;
        thread_count = omega (arith, g.most);
        current = p.current;
        next_tls = omega (arith, t.most);
        next_guest = guest-fits (ltb k.next_guest_id 4294967295) refl;
        clean = (f, v, s.full, s.overflow, p.clean.4, p.clean.5);
      }

pub create_thread-parts : (k : Kernel) (entry stack priority processor : ℕ) → Parts k → Word entry → Word stack → Word processor
    → (create_thread k entry stack priority processor).full ≡ false → (create_thread k entry stack priority processor).overflow ≡ false → Parts (create_thread k entry stack priority processor)
unfolding create_thread
create_thread-parts k entry stack priority processor p we ws wp f v = create_as k entry stack priority processor p we ws wp f v (ltb (ended_thread k) k.thread_count) refl

pub create_thread-sound : (k : Kernel) (entry stack priority processor : ℕ) → Sound k → Word entry → Word stack → Word processor
    → (create_thread k entry stack priority processor).full ≡ false → (create_thread k entry stack priority processor).overflow ≡ false → Sound (create_thread k entry stack priority processor)
create_thread-sound k entry stack priority processor s we ws wp f v =
    parts-sound (create_thread k entry stack priority processor) (create_thread-parts k entry stack priority processor (sound-parts k s) we ws wp f v)
