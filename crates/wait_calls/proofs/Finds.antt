-- Counts of the objects that a list of handles names: before the timers fire and the handles are opened, and after. Assumes nothing.
use mathlib.Core.Path.{◌≡◌, refl, ap, sym, subst, ◌∙◌}
use mathlib.Core.Bool.{Bool, true, false}
use mathlib.Core.List.{List, [], ◌∷◌, map}
use mathlib.Core.Logic.{inl, inr}
use Prim.Native.Nat.{ℕ, ◌+◌, ◌<◌}
use native.Mathlib.Omega.{arith}
use lib.Dec.{eqb}
use borrow.Author.Tests.{eqb-false}
use Rattle.laws.specs.Logic.{pick, or-false, lt-cases}
use Rattle.laws.specs.All.{All, all_as}
use Rattle.types.specs.declared.object.ObjectStore.{ObjectStore}
use Rattle.types.specs.declared.kernel.Kernel.{Kernel}
use Rattle.sound.specs.View.{object_at}
use Rattle.sound.specs.Objects.{names, kept_names}
use Rattle.kernel.specs.NextEvent.{contains}
use Rattle.object.specs.declared.kept.Resolved.{Resolved}
use Rattle.soundness.specs.Kept.{handle_count}
use Rattle.soundness.specs.Whole.{Parts}
use Rattle.pass.specs.Asks.{pseudo, open_object}
use Rattle.svc.specs.Call.{with_objects, resolved}
use Rattle.svc.specs.Timers.{caught_up}
use Rattle.svc.specs.Waits.{resolve_all, resolve_store}
use Rattle.svc.proofs.Handles.{plain}
use Rattle.calling.specs.Resolves.{resolved-found, resolved-parts, resolved-named}
use Rattle.parking.specs.Lists.{store-full, none-zero}
use Rattle.objects.proofs.Pseudo.{pseudo-object}
use Rattle.wait_calls.specs.Opens.{store_of, objects_of}
use Rattle.wait_calls.specs.Near.{near, any_near}
use Rattle.wait_calls.proofs.Still.{caught-same}
use Rattle.wait_calls.proofs.Far.{near-kept, near_none}

-- ---- an object with a name stays as it is while handles are opened
abbrev Named : Kernel → ObjectStore → ℕ → Type 0
Named k s o = 0 < names k.handles k.threads o + kept_names s o

-- the first handle is h, and the rest leave the store r
stays_if : (k : Kernel) (p : Parts k) (h : ℕ) (r : ObjectStore) (o : ℕ) → 0 < o → Named k k.objects o → (t : Bool) → (pick t (resolved k h).store r).full ≡ false
    → (r.full ≡ false → (resolved k h).store.full ≡ false) → ((resolved k h).store.full ≡ false → r.full ≡ false → Named k (resolved k h).store o → object_at r o ≡ object_at (resolved k h).store o)
    → object_at (pick t (resolved k h).store r) o ≡ object_at k.objects o
stays_if k p h r o z m true e b rest = (resolved-found k p h e).stay o z m
stays_if k p h r o z m false e b rest = let f = resolved-found k p h (b e) in rest (b e) e (omega (arith, f.more o z)) ∙ f.stay o z m

stays : (hs : List ℕ) (k : Kernel) → Parts k → (store_of k hs).full ≡ false → (o : ℕ) → 0 < o → Named k k.objects o → object_at (store_of k hs) o ≡ object_at k.objects o
unfolding resolve_store
stays [] k p e o z m = refl
stays (h ∷ hs) k p e o z m =
    let s : ObjectStore = (resolved k h).store in
    stays_if k p h (store_of (with_objects k s) hs) o z m (eqb (resolved k h).object.0 0) e (store-full k.current_thread k.handles hs s)
    (λ b c w. stays hs (with_objects k s) (resolved-parts k p h b) c o z w)

-- ---- counts after handles are opened
module _ (k : Kernel) (p : Parts k) where
  -- the object of a handle has the handle for a name
  open_named : (h : ℕ) (s : ObjectStore) (t : Bool) → pseudo h ≡ t → 0 < open_object k h → Named k s (open_object k h)
  unfolding names
  open_named h s true e z = let w = rw e at z in absurd (omega arith)
  open_named h s false e z = let w = handle_count k.handles h (rw e at z) in rw e (omega arith)

  module _ (h : ℕ) (e : (resolved k h).store.full ≡ false) where
    -- the object of another handle
    other-near : (i : ℕ) → near (object_at k.objects (open_object k i)) ≡ false → near (object_at (resolved k h).store (open_object k i)) ≡ false
    other-near i n = elim (lt-cases 0 (open_object k i)) [
      | inl z ↦ ap near ((resolved-found k p h e).stay (open_object k i) z (open_named i k.objects (pseudo i) refl z)) ∙ n
      | inr z ↦ near_none (resolved k h).store (open_object k i) (omega arith)
    ]

    -- its own
    own-near : (t : Bool) → pseudo h ≡ t → near (object_at k.objects (open_object k h)) ≡ false → near (object_at (resolved k h).store (resolved k h).object.0) ≡ false
    own-near true q n = pseudo-object (λ x. near x ≡ false) refl near-kept k h q (resolved-parts k p h e).ob.kept
    own-near false q n = ap (λ (x : Resolved). near (object_at x.store x.object.0)) (plain k.current_thread k.handles k.objects h q) ∙ rw q at n

abbrev Fine : Kernel → ObjectStore → List ℕ → Type 0
Fine k s hs = All (λ h. near (object_at s (open_object k h)) ≡ false) hs

pub opened-near : (hs : List ℕ) (k : Kernel) → Parts k → (store_of k hs).full ≡ false → contains (objects_of k hs) 0 ≡ false → Fine k k.objects hs → All (λ o. near (object_at (store_of k hs) o) ≡ false) (objects_of k hs)
unfolding resolve_store resolve_all
opened-near [] k p e c a = tt
opened-near (h ∷ hs) k p e c a =
    let s : ObjectStore = (resolved k h).store in
    let o : ℕ = (resolved k h).object.0 in
    let q = none-zero o (objects_of (with_objects k s) hs) c in
    let d : eqb o 0 ≡ false = q.0 in
    let f : (store_of (with_objects k s) hs).full ≡ false = rw d at e in
    let b : s.full ≡ false = store-full k.current_thread k.handles hs s f in
    let p1 = resolved-parts k p h b in
    let n = eqb-false o 0 d in
    let z : 0 < o = omega arith in
    let r : ObjectStore = store_of (with_objects k s) hs in
    let os : List ℕ = o ∷ objects_of (with_objects k s) hs in
    let after : Bool → Type 0 = λ t. All (λ i. near (object_at (pick t s r) i) ≡ false) os in
    subst after (sym d) (
      ap near (stays hs (with_objects k s) p1 f o z (resolved-named k p h b z)) ∙ own-near k p h b (pseudo h) refl a.0,
      opened-near hs (with_objects k s) p1 f q.1 (all_as (λ i. near (object_at k.objects (open_object k i)) ≡ false) (λ i. near (object_at s (open_object k i)) ≡ false) (λ i g. other-near k p h b i g) hs a.1),
    )

-- ---- and after timers fire
pub caught_fine : (k : Kernel) (tick : ℕ) (hs : List ℕ) → any_near k.objects (map (open_object k) hs) ≡ false → Fine (caught_up k tick) (caught_up k tick).objects hs
unfolding any_near
caught_fine k tick [] e = tt
caught_fine k tick (h ∷ hs) e =
    let q = or-false (near (object_at k.objects (open_object k h))) (any_near k.objects (map (open_object k) hs)) e in
    (caught-same near (λ t. refl) k.objects k.threads tick (open_object k h) ∙ q.0, caught_fine k tick hs q.1)
