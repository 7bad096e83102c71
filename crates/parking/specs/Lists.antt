-- Resolving a list of handles keeps a state sound, unless the store is full: each object found keeps its name while the next are resolved.
use Rattle.std.specs.Prelude.{◌≡◌, refl, Bool, true, false, eqb, length, Option}
use Rattle.std.proofs.Common.{ap, sym, subst, ◌∙◌, arith}
use mathlib.Core.List.{List, [], ◌∷◌}
use Prim.Native.Nat.{ℕ, zero, suc, ◌≤◌, ◌<◌}
use Rattle.std.proofs.lemmas.Bool.{eqb-false}
use Rattle.laws.specs.Logic.{pick, or-false, false-true}
use Rattle.types.specs.declared.object.HandleTable.{HandleTable}
use Rattle.types.specs.declared.object.ObjectStore.{ObjectStore}
use Rattle.types.specs.declared.kernel.Kernel.{Kernel}
use Rattle.types.specs.Thread.{wait_list}
use Rattle.sound.specs.View.{ids}
use Rattle.sound.specs.Threads.{Zeros, Places}
use Rattle.sound.specs.Objects.{names, kept_names}
use Rattle.object.specs.declared.kept.Resolved.{Resolved}
use Rattle.object.specs.Kept.{resolve}
use Rattle.kernel.specs.NextEvent.{contains}
use Rattle.soundness.specs.Objects.{named-slot, Known}
use Rattle.soundness.specs.Kept.{resolve-full}
use Rattle.soundness.specs.Whole.{Parts}
use Rattle.pass.specs.Asks.{padded}
use Rattle.pass.specs.Padded.{padded-first}
use Rattle.passing.specs.Begins.{Waitable}
use Rattle.calling.specs.Resolves.{resolve-overflow, resolved-found, resolved-parts, resolved-named}
use Rattle.svc.specs.Call.{with_objects, resolved}
use Rattle.svc.specs.Waits.{resolve_all, resolve_store}

pub all-length : (c : Option ℕ) (t : HandleTable) (hs : List ℕ) (s : ObjectStore)
    → length (resolve_all c t s hs) ≡ length hs
unfolding resolve_all
all-length c t [] s = refl
all-length c t (h ∷ hs) s = ap suc (all-length c t hs (resolve c t s h).store)

-- ---- the findings: the first sticks, the second is left alone
store-full_if : (q : Bool) (s r : ObjectStore) → (r.full ≡ false → s.full ≡ false) → (pick q s r).full ≡ false → s.full ≡ false
store-full_if true s r h e = e
store-full_if false s r h e = h e

pub store-full : (c : Option ℕ) (t : HandleTable) (hs : List ℕ) (s : ObjectStore)
    → (resolve_store c t s hs).full ≡ false → s.full ≡ false
unfolding resolve_store
store-full c t [] s e = e
store-full c t (h ∷ hs) s e =
    let x : Resolved = resolve c t s h in
    resolve-full c t s h (store-full_if (eqb x.object.0 0) x.store (resolve_store c t x.store hs) (store-full c t hs x.store) e)

store-overflow_if : (q : Bool) (s r : ObjectStore) (b : Bool) → s.overflow ≡ b → r.overflow ≡ b → (pick q s r).overflow ≡ b
store-overflow_if true s r b e f = e
store-overflow_if false s r b e f = f

pub store-overflow : (c : Option ℕ) (t : HandleTable) (hs : List ℕ) (s : ObjectStore)
    → (resolve_store c t s hs).overflow ≡ s.overflow
unfolding resolve_store
store-overflow c t [] s = refl
store-overflow c t (h ∷ hs) s =
    let x : Resolved = resolve c t s h in
    store-overflow_if (eqb x.object.0 0) x.store (resolve_store c t x.store hs) s.overflow (resolve-overflow c t s h)
    (store-overflow c t hs x.store ∙ resolve-overflow c t s h)

-- ---- the store after, and the objects os that were found
pub record AllFound (k : Kernel) (s : ObjectStore) (os : List ℕ) : Type 0 where
  pub parts : Parts (with_objects k s)
  -- what has a name keeps it
  pub more : (i : ℕ) → 0 < i → kept_names k.objects i ≤ kept_names s i
  -- each has one, unless a handle was unknown
  pub known : contains os 0 ≡ false → Known s (names k.handles k.threads) os

pub none-zero : (o : ℕ) (os : List ℕ) → contains (o ∷ os) 0 ≡ false → (eqb o 0 ≡ false) × (contains os 0 ≡ false)
unfolding contains
none-zero o os e = or-false _ _ e

-- the first handle is h, and the rest leave the store r and the objects os
module _ (k : Kernel) (p : Parts k) (h : ℕ) (r : ObjectStore) (os : List ℕ) where
  first-known : eqb (resolved k h).object.0 0 ≡ false → 0 < (resolved k h).object.0
  first-known q = let n = eqb-false (resolved k h).object.0 0 q in omega arith

  found_if : (q : Bool) → eqb (resolved k h).object.0 0 ≡ q → (pick q (resolved k h).store r).full ≡ false → (r.full ≡ false → (resolved k h).store.full ≡ false)
      → ((resolved k h).store.full ≡ false → r.full ≡ false → AllFound (with_objects k (resolved k h).store) r os)
      → AllFound k (pick q (resolved k h).store r) ((resolved k h).object.0 ∷ os)
  found_if true q e b rest = record {
    parts = resolved-parts k p h e;
    more = (resolved-found k p h e).more;
    known = λ c. false-true (sym (none-zero (resolved k h).object.0 os c).0 ∙ q);
  }
  found_if false q e b rest =
      let a = rest (b e) e in
      let f = resolved-found k p h (b e) in
      let z : 0 < (resolved k h).object.0 = first-known q in
      record {
        parts = a.parts;
        more = λ i w. omega (arith, f.more i w, a.more i w);
        known = λ c. (z, (omega (arith, resolved-named k p h (b e) z, a.more (resolved k h).object.0 z), a.known (none-zero (resolved k h).object.0 os c).1));
      }

pub all_found : (hs : List ℕ) (k : Kernel) → Parts k → (resolve_store k.current_thread k.handles k.objects hs).full ≡ false
    → AllFound k (resolve_store k.current_thread k.handles k.objects hs) (resolve_all k.current_thread k.handles k.objects hs)
unfolding resolve_store resolve_all
all_found [] k p e = record { parts = p; more = λ i z. omega arith; known = λ c. tt }
all_found (h ∷ hs) k p e =
    let s : ObjectStore = (resolved k h).store in
    found_if k p h (resolve_store k.current_thread k.handles s hs) (resolve_all k.current_thread k.handles s hs) (eqb (resolved k h).object.0 0) refl e
    (store-full k.current_thread k.handles hs s) (λ b c. all_found hs (with_objects k s) (resolved-parts k p h b) c)

-- ---- as a wait takes them: in m places, the unused ones 0
padded-length : (m : ℕ) (os : List ℕ) → length (padded m os) ≡ m
unfolding padded
padded-length zero os = refl
padded-length (suc m) [] = ap suc (padded-length m [])
padded-length (suc m) (o ∷ os) = ap suc (padded-length m os)

padded_zeros : (m : ℕ) → Zeros (ids (padded m []))
unfolding padded
padded_zeros zero = tt
padded_zeros (suc m) = (refl, padded_zeros m)

module _ (k : Kernel) (p : Parts k) where
  padded-places : (m : ℕ) (os : List ℕ) → length os ≤ m → Known k.objects (names k.handles k.threads) os → Places (length os) (ids (padded m os))
  unfolding padded
  padded-places m [] l a = padded_zeros m
  padded-places zero (o ∷ os) l a = absurd (omega arith)
  padded-places (suc m) (o ∷ os) l a =
      (a.0, (omega (arith, named-slot k.objects (names k.handles k.threads) p.ob o a.0 a.1.0, p.ob.ns), padded-places m os (omega arith) a.1.1))

  pub known_waitable : (os : List ℕ) → length os ≤ wait_list → Known k.objects (names k.handles k.threads) os → Waitable k (padded wait_list os) (length os)
  known_waitable os l a = record {
    places = padded-places wait_list os l a;
    known = subst (Known k.objects (names k.handles k.threads)) (sym (padded-first wait_list os l)) a;
    size = padded-length wait_list os;
  }
