-- The handle table: `give` and `taken_out` keep it rising and change the names by one; `create` and `close` on table and store.
use Rattle.std.specs.Prelude.{◌≡◌, Bool, true, false, List, [], ◌∷◌, ◌++◌, ℕ, zero, suc, ◌+◌, ◌-◌, ◌≤◌, ◌<◌, eqb, leb, get_or}
use Rattle.std.proofs.Math.Path.{refl, ap}
use Rattle.std.proofs.Common.{subst, ◌∙◌, inl, inr, length-append}
use native.Mathlib.Omega.{arith}
use Rattle.std.proofs.Math.Numerals.{add-one}
use borrow.Author.Tests.{leb-false, lt-ltb, eqb-false}
use Rattle.std.proofs.Math.ListN.{length, set, length-set, length-map, get_or-map}
use Rattle.laws.specs.Logic.{pick, or-false, lt-cases}
use Rattle.laws.specs.Count.{count, count_set, ind, ind-other}
use Rattle.types.specs.declared.object.KObject.{KObject}
use Rattle.types.specs.declared.object.HandleEntry.{HandleEntry}
use Rattle.types.specs.declared.object.HandleTable.{HandleTable}
use Rattle.types.specs.declared.object.ObjectStore.{ObjectStore}
use Rattle.types.specs.Object.{kind_number, head_of}
use Rattle.sound.specs.View.{handled}
use Rattle.sound.specs.Handles.{NoEntries, Rising}
use Rattle.sound.specs.Objects.{kept_names}
use Rattle.object.specs.declared.handles.Both.{Both}
use Rattle.object.specs.Handles.{no_entry, give, place_of, object_of, without, taken_out, create, close}
use Rattle.object.specs.Store.{insert, add_ref, release}
use Rattle.soundness.specs.Slots.{map-set}
use Rattle.soundness.specs.Same.{add_ref-same}
use Rattle.soundness.specs.Records.{ChainsOk, chains-same, release-chains}
use Rattle.soundness.specs.Objects.{ObOk, Fine, ok_as, named-slot, free-slot, add_ref-ok, release-ok, insert-full, insert-ok}

-- a sound table
pub record TableOk (t : HandleTable) : Type 0 where
  pub rising : Rising t.count 0x10000 t.entries t.next.0
  pub ne : length t.entries ≡ 256

-- ---- entries past the open ones name nothing
none-at : (es : List HandleEntry) (k : ℕ) → NoEntries es → get_or (handled es) k 0 ≡ 0
none-at [] k z = refl
none-at (e ∷ es) zero z = z.1.0
none-at (e ∷ es) (suc k) z = none-at es k z.1.1

pub rising-out : (n low : ℕ) (es : List HandleEntry) (next k : ℕ) → Rising n low es next → n ≤ k → get_or (handled es) k 0 ≡ 0
rising-out zero low es next k r l = none-at es k r.1
rising-out (suc n) low [] next k r l = absurd r
rising-out (suc n) low (e ∷ es) next zero r l = absurd (omega arith)
rising-out (suc n) low (e ∷ es) next (suc k) r l = rising-out n (suc e.handle.0) es next k r.1.1.1.1 (omega arith)

-- ---- give
rising-give : (n low : ℕ) (es : List HandleEntry) (next : ℕ) (e : HandleEntry) → Rising n low es next → n < length es → e.handle.0 ≡ next → 0 < e.object.0 → e.object.0 ≤ 128
    → Rising (suc n) low (set es n e) (suc next)
rising-give zero low [] next e r l q z b = absurd (omega arith)
rising-give zero low (x ∷ es) next e r l q z b = (omega (arith, r.0), (omega arith, (z, (b, (omega arith, r.1.1.1)))))
rising-give (suc n) low [] next e r l q z b = absurd r
rising-give (suc n) low (x ∷ es) next e r l q z b =
    (r.0, (omega (arith, r.1.0), (r.1.1.0, (r.1.1.1.0, rising-give n (suc x.handle.0) es next e r.1.1.1.1 (omega arith) q z b))))

module _ (t : HandleTable) (o : ℕ) (h : TableOk t) (f : (give t o).full ≡ false) where
  give-count : t.count < 256
  unfolding give
  give-count = let q = leb-false 256 t.count (or-false t.full (leb 256 t.count) f).1 in omega arith

  -- one name more
  pub give-names : (i : ℕ) → 0 < i → count i (handled (give t o).entries) ≡ ind o i + count i (handled t.entries)
  unfolding give
  give-names i z =
      let e : HandleEntry = record { handle = t.next; object = record { 0 = o } } in
      let m : handled (set t.entries t.count e) ≡ set (handled t.entries) t.count o = map-set (λ (x : HandleEntry). x.object.0) t.entries t.count e in
      let l : t.count < length (handled t.entries) = omega (arith, give-count, h.ne, length-map t.entries (λ (x : HandleEntry). x.object.0)) in
      omega (
        arith,
        ap (count i) m,
        count_set i (handled t.entries) t.count o l,
        ind-other (get_or (handled t.entries) t.count 0) i (omega (arith, rising-out t.count 0x10000 t.entries t.next.0 t.count h.rising (omega arith))),
      )

  pub give-ok : (give t o).overflow ≡ false → 0 < o → o ≤ 128 → TableOk (give t o)
  unfolding give
  give-ok g z b =
      let n : t.next.0 < 0xFFFF8000 = let q = leb-false 0xFFFF8000 t.next.0 (or-false t.overflow (leb 0xFFFF8000 t.next.0) g).1 in omega arith in
      record {
        rising =
            rw (lt-ltb t.count 256 give-count, lt-ltb t.next.0 0xFFFF8000 n)
            (simp add-one (rising-give t.count 0x10000 t.entries t.next.0 (record { handle = t.next; object = record { 0 = o } }) h.rising (omega (arith, give-count, h.ne)) refl z b));
        ne = length-set t.entries t.count _ ∙ h.ne;
      }

-- ---- taken_out
none_end : (es : List HandleEntry) → NoEntries es → NoEntries (es ++ (no_entry ∷ []))
none_end [] z = (refl, (refl, tt))
none_end (e ∷ es) z = (z.0, (z.1.0, none_end es z.1.1))

rising-end : (n low : ℕ) (es : List HandleEntry) (next : ℕ) → Rising n low es next → Rising n low (es ++ (no_entry ∷ [])) next
rising-end zero low es next r = (r.0, none_end es r.1)
rising-end (suc n) low [] next r = absurd r
rising-end (suc n) low (e ∷ es) next r = (r.0, (r.1.0, (r.1.1.0, (r.1.1.1.0, rising-end n (suc e.handle.0) es next r.1.1.1.1))))

rising_lower : (n low low' : ℕ) (es : List HandleEntry) (next : ℕ) → low ≤ low' → Rising n low' es next → Rising n low es next
rising_lower zero low low' es next l r = (omega (arith, r.0), r.1)
rising_lower (suc n) low low' [] next l r = absurd r
rising_lower (suc n) low low' (e ∷ es) next l r = (omega (arith, r.0), r.1)

rising-without : (n low : ℕ) (es : List HandleEntry) (next k : ℕ) → Rising (suc n) low es next → k < suc n → Rising n low (without es k) next
unfolding without
rising-without n low [] next k r l = absurd r
rising-without n low (e ∷ es) next zero r l = rising_lower n low (suc e.handle.0) (es ++ (no_entry ∷ [])) next (omega (arith, r.0)) (rising-end n (suc e.handle.0) es next r.1.1.1.1)
rising-without zero low (e ∷ es) next (suc k) r l = absurd (omega arith)
rising-without (suc n) low (e ∷ es) next (suc k) r l =
    (r.0, (r.1.0, (r.1.1.0, (r.1.1.1.0, rising-without n (suc e.handle.0) es next k r.1.1.1.1 (omega arith)))))

pub length_without : (es : List HandleEntry) (k : ℕ) → length (without es k) ≡ length es
unfolding without
length_without [] k = refl
length_without (e ∷ es) zero = length-append es (no_entry ∷ []) ∙ omega arith
length_without (e ∷ es) (suc k) = ap suc (length_without es k)

handled-end : (i : ℕ) (es : List HandleEntry) → 0 < i → count i (handled (es ++ (no_entry ∷ []))) ≡ count i (handled es)
unfolding count
handled-end i [] z = omega (arith, ind-other 0 i (omega arith))
handled-end i (e ∷ es) z = omega (arith, handled-end i es z)

-- one name less
pub without-names : (es : List HandleEntry) (k i : ℕ) → 0 < i → ind (get_or (handled es) k 0) i + count i (handled (without es k)) ≡ count i (handled es)
unfolding without count
without-names [] k i z = omega (arith, ind-other 0 i (omega arith))
without-names (e ∷ es) zero i z = omega (arith, handled-end i es z)
without-names (e ∷ es) (suc k) i z = omega (arith, without-names es k i z)

pub taken_out-ok : (t : HandleTable) (k : ℕ) → TableOk t → k < t.count → TableOk (taken_out t k)
taken_out-ok t k h l = record {
  rising =
      let e : t.count ≡ suc (t.count - 1) = omega arith in
      rising-without (t.count - 1) 0x10000 t.entries t.next.0 k (subst (λ (n : ℕ). Rising n 0x10000 t.entries t.next.0) e h.rising) (omega arith);
  ne = length_without t.entries k ∙ h.ne;
}

-- ---- the entry of a handle that names something is open
pub object-at : (t : HandleTable) (h : ℕ) → get_or (handled t.entries) (place_of t.entries h) 0 ≡ object_of t h
unfolding object_of
object-at t h = get_or-map (λ (x : HandleEntry). x.object.0) t.entries (place_of t.entries h) no_entry

pub place_open : (t : HandleTable) (h : ℕ) → TableOk t → 0 < object_of t h → place_of t.entries h < t.count
place_open t h k z =
    elim (lt-cases (place_of t.entries h) t.count) [
      | inl l ↦ l
      | inr l ↦ absurd (omega (arith, object-at t h, rising-out t.count 0x10000 t.entries t.next.0 (place_of t.entries h) k.rising l))
    ]

-- ---- table and store together: the names are the handles' and `r`
pub record BothOk (b : Both) (r : ℕ → ℕ) : Type 0 where
  pub table : TableOk b.table
  pub store : ObOk b.store (λ i. count i (handled b.table.entries) + r i)

pub create-ok : (t : HandleTable) (s : ObjectStore) (o : ℕ) (r : ℕ → ℕ) → TableOk t → ObOk s (λ i. count i (handled t.entries) + r i) → 0 < o
    → 0 < (count o (handled t.entries) + r o) + kept_names s o → (count o (handled t.entries) + r o) + kept_names s o < 4294967295
    → (create t s o).table.full ≡ false → (create t s o).table.overflow ≡ false → BothOk (create t s o) r
unfolding create
create-ok t s o r h k z p b f g = record {
  table = give-ok t o h f g z (omega (arith, k.ns, named-slot s _ k o z p));
  store = ok_as _ (λ i w. omega (arith, give-names t o h f i w)) (add_ref-ok s _ k o z p b);
}

-- a new object with its first handle
pub make-ok : (t : HandleTable) (s : ObjectStore) (v : KObject) (r : ℕ → ℕ) → TableOk t → Fine s (λ i. count i (handled t.entries) + r i) → 0 < kind_number v → head_of v ≡ 0
    → (insert s v).full ≡ false → (give t s.free).full ≡ false → (give t s.free).overflow ≡ false → BothOk (record { table = give t s.free; store = insert s v }) r
make-ok t s v r h k kz hz e f g =
    let q = insert-full s v e in
    record {
      table = give-ok t s.free h f g q.1 (omega (arith, (k q.0).ns, free-slot s _ (k q.0) q.1));
      store = ok_as _ (λ i w. omega (arith, give-names t s.free h f i w)) (insert-ok s v _ q.1 (k q.0) kz hz);
    }

close_if : (q : Bool) (t : HandleTable) (s : ObjectStore) (h : ℕ) (r : ℕ → ℕ) → eqb (object_of t h) 0 ≡ q → TableOk t → ObOk s (λ i. count i (handled t.entries) + r i)
    → BothOk (pick q (record { table = t; store = s }) (record { table = taken_out t (place_of t.entries h); store = release s (object_of t h) })) r
close_if true t s h r e k ok = record { table = k; store = ok }
close_if false t s h r e k ok =
    let z : 0 < object_of t h = let n = eqb-false (object_of t h) 0 e in omega arith in
    record {
      table = taken_out-ok t (place_of t.entries h) k (place_open t h k z);
      store =
          release-ok s (object_of t h) (λ i. count i (handled (without t.entries (place_of t.entries h))) + r i)
          (ok_as _ (λ i w. omega (arith, without-names t.entries (place_of t.entries h) i w, ap (λ x. ind x i) (object-at t h))) ok) z;
    }

pub close-ok : (t : HandleTable) (s : ObjectStore) (h : ℕ) (r : ℕ → ℕ) → TableOk t → ObOk s (λ i. count i (handled t.entries) + r i) → BothOk (close t s h) r
unfolding close
close-ok t s h r k ok = close_if (eqb (object_of t h) 0) t s h r refl k ok

-- ---- the records
pub create-chains : (n : ℕ) (t : HandleTable) (s : ObjectStore) (o : ℕ) → ChainsOk n s → ChainsOk n (create t s o).store
unfolding create
create-chains n t s o c = chains-same n s (add_ref s o) (add_ref-same s o) c

close-chains_if : (q : Bool) (n : ℕ) (t : HandleTable) (s : ObjectStore) (h : ℕ) (r : ℕ → ℕ) → eqb (object_of t h) 0 ≡ q → ObOk s (λ i. count i (handled t.entries) + r i) → ChainsOk n s
    → ChainsOk n (pick {A = Both} q (record { table = t; store = s }) (record { table = taken_out t (place_of t.entries h); store = release s (object_of t h) })).store
close-chains_if true n t s h r e ok c = c
close-chains_if false n t s h r e ok c =
    let z : 0 < object_of t h = let m = eqb-false (object_of t h) 0 e in omega arith in
    release-chains n s (object_of t h) (λ i. count i (handled (without t.entries (place_of t.entries h))) + r i) z
    (ok_as _ (λ i w. omega (arith, without-names t.entries (place_of t.entries h) i w, ap (λ x. ind x i) (object-at t h))) ok) c

pub close-chains : (n : ℕ) (t : HandleTable) (s : ObjectStore) (h : ℕ) (r : ℕ → ℕ) → ObOk s (λ i. count i (handled t.entries) + r i) → ChainsOk n s → ChainsOk n (close t s h).store
unfolding close
close-chains n t s h r ok c = close-chains_if (eqb (object_of t h) 0) n t s h r refl ok c
