-- Kept objects and `resolve`: what is known of the object found, and what of the store stays.
use Rattle.std.specs.Prelude.{◌≡◌, refl, Bool, true, false, ◌≢◌, List, ℕ, ◌+◌, ◌≤◌, ◌<◌, eqb, length, set, get_or}
use Rattle.std.specs.Prelude.{Option, Some, None}
use Rattle.std.proofs.Math.Path.{ap}
use Rattle.std.proofs.Common.{sym, subst, ◌∙◌, inl, inr, arith, eqb-true, length-set, get_or-set_same, get_or-set_other}
use Rattle.std.proofs.lemmas.Bool.{eqb-false}
use Rattle.std.proofs.lemmas.List.{length-map}
use Rattle.std.proofs.Math.ListN.{get_or-map}
use Rattle.laws.specs.Logic.{pick}
use Rattle.laws.specs.Count.{count, count_set, ind, ind-cases, ind-same, ind-other}
use Rattle.units.specs.declared.ObjectId.{ObjectId}
use Rattle.types.specs.declared.object.KObject.TheVariants.{Thread, Process}
use Rattle.types.specs.declared.object.HandleEntry.{HandleEntry}
use Rattle.types.specs.declared.object.HandleTable.{HandleTable}
use Rattle.types.specs.declared.object.ObjectStore.{ObjectStore}
use Rattle.sound.specs.View.{ids, handled, object_at}
use Rattle.sound.specs.Objects.{kept_names, ref_of, kept_at}
use Rattle.object.specs.Slots.{with_kept, with_process}
use Rattle.object.specs.Store.{insert}
use Rattle.object.specs.Handles.{no_entry, place_of, object_of}
use Rattle.object.specs.Kept.{thread_object, process_object, of_current, resolve}
use Rattle.soundness.specs.Slots.{map-set}
use Rattle.soundness.specs.Objects.{ObOk, Fine, store_as, get_count, kept-thread-named, kept-process-named, insert-full, insert-ok, inserted, insert-stay, insert-kept}
use Rattle.soundness.specs.Same.{SameRecs, same_refl, insert-same}

-- ---- an object was found, perhaps made: from the store s to s', the object o
pub record Found (s : ObjectStore) (f : ℕ → ℕ) (s' : ObjectStore) (o : ℕ) : Type 0 where
  pub ok : ObOk s' f
  pub same : SameRecs s s'
  -- what has a name stays as it is
  pub stay : (i : ℕ) → 0 < i → 0 < f i + kept_names s i → object_at s' i ≡ object_at s i
  -- it has a name, or is 0
  pub known : 0 < o → 0 < f o + kept_names s' o
  pub more : (i : ℕ) → 0 < i → kept_names s i ≤ kept_names s' i

found_none : (s : ObjectStore) (f : ℕ → ℕ) (o : ℕ) → ObOk s f → (0 < o → 0 < f o + kept_names s o) → Found s f s o
found_none s f o h k = record { ok = h; same = same_refl s; stay = λ i z p. refl; known = k; more = λ i z. omega arith }

abbrev keep_thread : ObjectStore → ℕ → ObjectStore
keep_thread s t = with_kept (insert s (Thread t)) (set s.thread_objects t (record { 0 = s.free }))

module _ (s : ObjectStore) (f : ℕ → ℕ) (t : ℕ) (l : t < 32) (z : 0 < s.free) (e : kept_at s t ≡ 0) (h : ObOk s f) where
  ids_are : ids (set s.thread_objects t (record { 0 = s.free })) ≡ set (ids s.thread_objects) t s.free
  ids_are = map-set (λ (o : ObjectId). o.0) s.thread_objects t (record { 0 = s.free })

  lt : t < length (ids s.thread_objects)
  lt = omega (arith, h.ni, length-map s.thread_objects (λ (o : ObjectId). o.0))

  at-t : kept_at (keep_thread s t) t ≡ s.free
  at-t = ap (λ (x : List ℕ). get_or x t 0) ids_are ∙ get_or-set_same (ids s.thread_objects) t s.free 0 lt

  at_other : (i : ℕ) → i ≢ t → kept_at (keep_thread s t) i ≡ kept_at s i
  at_other i n = ap (λ (x : List ℕ). get_or x i 0) ids_are ∙ get_or-set_other (ids s.thread_objects) t i s.free 0 n

  names_are : (j : ℕ) → 0 < j → kept_names (keep_thread s t) j ≡ ind s.free j + kept_names s j
  unfolding kept_names insert
  names_are j w =
      omega (arith, ap (count j) ids_are, count_set j (ids s.thread_objects) t s.free lt, ind-other (kept_at s t) j (omega arith))

  keep_ok : ObOk (keep_thread s t) f
  keep_ok =
      let i = insert-ok s (Thread t) f z h (omega arith) refl in
      record {
        counts = store_as _ (λ j w. omega (arith, names_are j w, insert-kept s (Thread t) j)) i.counts;
        kept = record {
          thread = λ k w. elim (ind-cases k t) [
            | inl x ↦ ap (λ (y : ℕ). ref_of (object_at (insert s (Thread t)) (kept_at (keep_thread s t) y))) x.0 ∙ ap (λ (y : ℕ). ref_of (object_at (insert s (Thread t)) y)) at-t ∙ ap ref_of (inserted s (Thread t) f z h) ∙ ap (λ y. ref_of (Thread y)) (sym x.0)
            | inr x ↦ ap (λ (y : ℕ). ref_of (object_at (insert s (Thread t)) y)) (at_other k x.0) ∙ kept-old k x.0 w
          ];
          process = i.kept.process;
        };
        chained = i.chained;
        blanks = i.blanks;
        ns = i.ns;
        nw = i.nw;
        ni = length-set s.thread_objects t (record { 0 = s.free }) ∙ h.ni;
      }
    where
      kept-old : (k : ℕ) → k ≢ t → 0 < kept_at (keep_thread s t) k → ref_of (object_at (insert s (Thread t)) (kept_at s k)) ≡ ref_of (Thread k)
      kept-old k n w =
          let p : 0 < kept_at s k = rw (at_other k n) at w in
          ap ref_of (insert-stay s (Thread t) f z h (kept_at s k) p (omega (arith, kept-thread-named s k p))) ∙ h.kept.thread k p

  keep_found : Found s f (keep_thread s t) (kept_at (keep_thread s t) t)
  keep_found =
      let n = insert-same s (Thread t) f refl z h in
      record {
        ok = keep_ok;
        same = record { waiters = n.waiters; free = n.free; heads = n.heads };
        stay = insert-stay s (Thread t) f z h;
        known = λ w. subst (λ (x : ℕ). 0 < f x + kept_names (keep_thread s t) x) (sym at-t) (omega (arith, names_are s.free z, ind-same s.free));
        more = λ j w. omega (arith, names_are j w);
      }

thread_if : (q : Bool) (s : ObjectStore) (f : ℕ → ℕ) (t : ℕ) → t < 32 → eqb (kept_at s t) 0 ≡ q → Fine s f → (pick q (keep_thread s t) s).full ≡ false
    → Found s f (pick q (keep_thread s t) s) (kept_at (pick q (keep_thread s t) s) t) × (0 < kept_at (pick q (keep_thread s t) s) t)
thread_if true s f t l e h g =
    let q = insert-full s (Thread t) g in
    let k = eqb-true (kept_at s t) 0 e in
    (keep_found s f t l q.1 k (h q.0), omega (arith, at-t s f t l q.1 k (h q.0), q.1))
thread_if false s f t l e h g =
    let z : 0 < kept_at s t = let n = eqb-false (kept_at s t) 0 e in omega arith in
    (found_none s f (kept_at s t) (h g) (λ w. omega (arith, kept-thread-named s t w)), z)

-- the object of a thread: there is one after
pub thread_object-ok : (s : ObjectStore) (f : ℕ → ℕ) (t : ℕ) → t < 32 → Fine s f → (thread_object s t).full ≡ false
    → Found s f (thread_object s t) (kept_at (thread_object s t) t) × (0 < kept_at (thread_object s t) t)
unfolding thread_object
thread_object-ok s f t l h g = thread_if (eqb (kept_at s t) 0) s f t l refl h g

process_if : (q : Bool) (s : ObjectStore) (f : ℕ → ℕ) → eqb s.process_object.0 0 ≡ q → Fine s f → (pick q (with_process (insert s Process) (record { 0 = s.free })) s).full ≡ false
    → Found s f (pick q (with_process (insert s Process) (record { 0 = s.free })) s) (pick q (with_process (insert s Process) (record { 0 = s.free })) s).process_object.0
    × (0 < (pick q (with_process (insert s Process) (record { 0 = s.free })) s).process_object.0)
unfolding kept_names insert
process_if true s f e h g =
    let q = insert-full s Process g in
    let z : 0 < s.free = q.1 in
    let o : ObOk s f = h q.0 in
    let i = insert-ok s Process f z o (omega arith) refl in
    let n = insert-same s Process f refl z o in
    let k : s.process_object.0 ≡ 0 = eqb-true s.process_object.0 0 e in
    let c : (j : ℕ) → 0 < j → ind s.process_object.0 j ≡ 0 = λ j w. ind-other s.process_object.0 j (omega arith) in (
      record {
        ok = record {
          counts = store_as _ (λ j w. omega (arith, c j w)) i.counts;
          kept = record { thread = i.kept.thread; process = λ w. ap ref_of (inserted s Process f z o) };
          chained = i.chained;
          blanks = i.blanks;
          ns = i.ns;
          nw = i.nw;
          ni = i.ni;
        };
        same = record { waiters = n.waiters; free = n.free; heads = n.heads };
        stay = insert-stay s Process f z o;
        known = λ w. omega (arith, ind-same s.free);
        more = λ j w. omega (arith, c j w);
      },
      z,
    )
process_if false s f e h g =
    let z : 0 < s.process_object.0 = let n = eqb-false s.process_object.0 0 e in omega arith in
    (found_none s f s.process_object.0 (h g) (λ w. omega (arith, kept-process-named s w)), z)

pub process_object-ok : (s : ObjectStore) (f : ℕ → ℕ) → Fine s f → (process_object s).full ≡ false
    → Found s f (process_object s) (process_object s).process_object.0 × (0 < (process_object s).process_object.0)
unfolding process_object
process_object-ok s f h g = process_if (eqb s.process_object.0 0) s f refl h g

-- ---- resolve
-- a handle's object is counted among the handles
pub handle_count : (t : HandleTable) (h : ℕ) → 0 < object_of t h → 0 < count (object_of t h) (handled t.entries)
unfolding object_of
handle_count t h z =
    let e : get_or (handled t.entries) (place_of t.entries h) 0 ≡ (get_or t.entries (place_of t.entries h) no_entry).object.0 =
    get_or-map (λ (x : HandleEntry). x.object.0) t.entries (place_of t.entries h) no_entry in
    subst (λ (o : ℕ). 0 < count o (handled t.entries)) e (get_count (handled t.entries) (place_of t.entries h) (rw e z))

-- the current thread is one
abbrev pub CurrentIn : Option ℕ → Type 0
CurrentIn None = Unit {0}
CurrentIn (Some t) = t < 32

current-ok : (c : Option ℕ) (s : ObjectStore) (f : ℕ → ℕ) → CurrentIn c → Fine s f
    → (of_current s c).store.full ≡ false → Found s f (of_current s c).store (of_current s c).object.0
current-ok None s f l h g = found_none s f 0 (h g) (λ w. absurd (omega arith))
current-ok (Some t) s f l h g = (thread_object-ok s f t l h g).0

resolve_if : (p q : Bool) (c : Option ℕ) (t : HandleTable) (s : ObjectStore) (h : ℕ) (f : ℕ → ℕ) → CurrentIn c
    → ((o : ℕ) → 0 < o → count o (handled t.entries) ≤ f o) → Fine s f
    → (pick p (of_current s c) (pick q (record { object = (process_object s).process_object; store = process_object s }) (record { object = record { 0 = object_of t h }; store = s }))).store.full ≡ false
    → Found s f (pick p (of_current s c) (pick q (record { object = (process_object s).process_object; store = process_object s }) (record { object = record { 0 = object_of t h }; store = s }))).store
    (pick p (of_current s c) (pick q (record { object = (process_object s).process_object; store = process_object s }) (record { object = record { 0 = object_of t h }; store = s }))).object.0
resolve_if true q c t s h f l n k g = current-ok c s f l k g
resolve_if false true c t s h f l n k g = (process_object-ok s f k g).0
resolve_if false false c t s h f l n k g = found_none s f (object_of t h) (k g) (λ w. omega (arith, handle_count t h w, n (object_of t h) w))

-- the names of handles are among f
pub resolve-ok : (c : Option ℕ) (t : HandleTable) (s : ObjectStore) (h : ℕ) (f : ℕ → ℕ) → CurrentIn c
    → ((o : ℕ) → 0 < o → count o (handled t.entries) ≤ f o) → Fine s f
    → (resolve c t s h).store.full ≡ false → Found s f (resolve c t s h).store (resolve c t s h).object.0
unfolding resolve
resolve-ok c t s h f l n k g = resolve_if (eqb h 0xFFFF8000) (eqb h 0xFFFF8001) c t s h f l n k g

-- ---- the finding sticks
thread-full_if : (q : Bool) (s : ObjectStore) (t : ℕ) → (pick q (keep_thread s t) s).full ≡ false → s.full ≡ false
thread-full_if true s t e = (insert-full s (Thread t) e).0
thread-full_if false s t e = e

pub thread_object-full : (s : ObjectStore) (t : ℕ) → (thread_object s t).full ≡ false → s.full ≡ false
unfolding thread_object
thread_object-full s t e = thread-full_if (eqb (kept_at s t) 0) s t e

process-full_if : (q : Bool) (s : ObjectStore) → (pick q (with_process (insert s Process) (record { 0 = s.free })) s).full ≡ false → s.full ≡ false
process-full_if true s e = (insert-full s Process e).0
process-full_if false s e = e

pub process_object-full : (s : ObjectStore) → (process_object s).full ≡ false → s.full ≡ false
unfolding process_object
process_object-full s e = process-full_if (eqb s.process_object.0 0) s e

current-full : (c : Option ℕ) (s : ObjectStore) → (of_current s c).store.full ≡ false → s.full ≡ false
current-full None s e = e
current-full (Some t) s e = thread_object-full s t e

resolve-full_if : (p q : Bool) (c : Option ℕ) (t : HandleTable) (s : ObjectStore) (h : ℕ)
    → (pick p (of_current s c) (pick q (record { object = (process_object s).process_object; store = process_object s }) (record { object = record { 0 = object_of t h }; store = s }))).store.full ≡ false → s.full ≡ false
resolve-full_if true q c t s h e = current-full c s e
resolve-full_if false true c t s h e = process_object-full s e
resolve-full_if false false c t s h e = e

pub resolve-full : (c : Option ℕ) (t : HandleTable) (s : ObjectStore) (h : ℕ) → (resolve c t s h).store.full ≡ false
    → s.full ≡ false
unfolding resolve
resolve-full c t s h e = resolve-full_if (eqb h 0xFFFF8000) (eqb h 0xFFFF8001) c t s h e

-- ---- a kept thread object is let go: its name is a debt, which a release pays
abbrev pub unkept : ObjectStore → ℕ → ObjectStore
unkept s t = with_kept s (set s.thread_objects t (record { 0 = 0 }))

module _ (s : ObjectStore) (f : ℕ → ℕ) (t : ℕ) (l : t < 32) (h : ObOk s f) where
  unkept-ids : ids (set s.thread_objects t (record { 0 = 0 })) ≡ set (ids s.thread_objects) t 0
  unkept-ids = map-set (λ (o : ObjectId). o.0) s.thread_objects t (record { 0 = 0 })

  unkept_in : t < length (ids s.thread_objects)
  unkept_in = omega (arith, h.ni, length-map s.thread_objects (λ (o : ObjectId). o.0))

  pub unkept-names : (j : ℕ) → 0 < j → ind (kept_at s t) j + kept_names (unkept s t) j ≡ kept_names s j
  unfolding kept_names
  unkept-names j w = omega (arith, ap (count j) unkept-ids, count_set j (ids s.thread_objects) t 0 unkept_in, ind-other 0 j (omega arith))

  pub unkept-ok : ObOk (unkept s t) (λ i. ind (kept_at s t) i + f i)
  unkept-ok = record {
    counts = store_as _ (λ j w. omega (arith, unkept-names j w)) h.counts;
    kept = record {
      thread = λ k w. elim (ind-cases k t) [
        | inl x ↦ absurd (omega (arith, w, ap (λ (y : ℕ). kept_at (unkept s t) y) x.0, ap (λ (y : List ℕ). get_or y t 0) unkept-ids ∙ get_or-set_same (ids s.thread_objects) t 0 0 unkept_in))
        | inr x ↦ old k (ap (λ (y : List ℕ). get_or y k 0) unkept-ids ∙ get_or-set_other (ids s.thread_objects) t k 0 0 x.0) w
      ];
      process = h.kept.process;
    };
    chained = h.chained;
    blanks = h.blanks;
    ns = h.ns;
    nw = h.nw;
    ni = length-set s.thread_objects t (record { 0 = 0 }) ∙ h.ni;
  }
    where
      old : (k : ℕ) → kept_at (unkept s t) k ≡ kept_at s k → 0 < kept_at (unkept s t) k → ref_of (object_at s (kept_at (unkept s t) k)) ≡ ref_of (Thread k)
      old k e w = ap (λ (y : ℕ). ref_of (object_at s y)) e ∙ h.kept.thread k (omega arith)
