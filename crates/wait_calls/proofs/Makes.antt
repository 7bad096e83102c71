-- Whether the objects that a list of handles makes have slots. Assumes nothing.
use Rattle.std.specs.Prelude.{Option, Some, None}
use mathlib.Core.Path.{◌≡◌, refl, sym, ap, subst, ◌∙◌}
use mathlib.Core.Bool.{Bool, true, false}
use mathlib.Core.List.{List, [], ◌∷◌}
use mathlib.Core.Logic.{◌≢◌}
use Prim.Native.Nat.{ℕ, ◌<◌}
use native.Mathlib.Decide.{ℕ_discrete}
use lib.Dec.{eqb, ltb}
use lib.ListN.{length, set, length-set}
use borrow.Author.Tests.{eq-eqb, ne_eqb, eqb-true, eqb-false, lt-ltb}
use Rattle.laws.specs.Logic.{pick, pick_yes, ◌and◌, ◌or◌, and-end, and-false, or-true, or-end}
use Rattle.types.specs.declared.object.KObject.{KObject}
use Rattle.types.specs.declared.object.KObject.TheVariants.{Thread, Process}
use Rattle.types.specs.declared.object.HandleTable.{HandleTable}
use Rattle.types.specs.declared.object.ObjectStore.{ObjectStore}
use Rattle.types.specs.Object.{next_of}
use Rattle.sound.specs.View.{object_at}
use Rattle.sound.specs.Objects.{kept_at}
use Rattle.object.specs.Slots.{with_kept, with_process}
use Rattle.object.specs.Store.{insert}
use Rattle.object.specs.Handles.{object_of}
use Rattle.object.specs.Kept.{thread_object, process_object, resolve}
use Rattle.soundness.specs.Kept.{CurrentIn}
use Rattle.svc.specs.Waits.{resolve_store}
use Rattle.objects.specs.Open.{makes_current}
use Rattle.objects.proofs.Opened.{kept_put_lem}
use Rattle.wait_calls.specs.Room.{met, lacking, lacks_room}

-- ---- how many are wanted
lacking-none : (f g a b : Bool) → a ≡ false → b ≡ false → lacking f g a b ≡ false
unfolding ◌and◌ ◌or◌
lacking-none true g a b p q = rw (p, q)
lacking-none false g a b p q = rw p (and-false g)

wants-none : (c : Option ℕ) (s : ObjectStore) → lacking (eqb s.free 0) (eqb (next_of (object_at s s.free)) 0) (makes_current s c and false) (eqb s.process_object.0 0 and false) ≡ false
wants-none c s = lacking-none (eqb s.free 0) (eqb (next_of (object_at s s.free)) 0) (makes_current s c and false) (eqb s.process_object.0 0 and false) (and-false (makes_current s c)) (and-false (eqb s.process_object.0 0))

-- with one slot less, the other object is one too many where two were
one-thread : (g h b : Bool) → lacking g h false b ≡ lacking false g true b
unfolding ◌and◌ ◌or◌
one-thread true h b = refl
one-thread false h b = and-false h

one-process : (g h a : Bool) → lacking g h a false ≡ lacking false g a true
unfolding ◌and◌
one-process true h a = or-end a ∙ sym (and-end a)
one-process false h a = ap (λ (z : Bool). h and z) (and-false a) ∙ and-false h

-- ---- the store after an object is made
module _ (s : ObjectStore) where
  abbrev kept : ℕ → ObjectStore
  kept u = with_kept (insert s (Thread u)) (set s.thread_objects u (record { 0 = s.free }))

  abbrev process : ObjectStore
  process = with_process (insert s Process) (record { 0 = s.free })

  kept-at : (u : ℕ) → u < 32 → length s.thread_objects ≡ 32 → kept_at (kept u) u ≡ s.free
  kept-at u h n = kept_put_lem s.thread_objects u s.free n ∙ pick_yes (ltb u 32) s.free 0 (lt-ltb u 32 h)

  made-full : (v : KObject) → s.free ≡ 0 → (insert s v).full ≡ true
  unfolding insert
  made-full v z = rw (eq-eqb s.free 0 z) (or-true s.full)

  made-fits : (v : KObject) → s.full ≡ false → s.free ≢ 0 → (insert s v).full ≡ false
  unfolding insert
  made-fits v e z = rw (ne_eqb s.free 0 z) (or-end s.full ∙ e)

-- ---- handle by handle
abbrev Fits : Option ℕ → HandleTable → List ℕ → ObjectStore → Type 0
Fits c t hs s = s.full ≡ false → length s.thread_objects ≡ 32 → (resolve_store c t s hs).full ≡ lacks_room c t s hs

module _ (t : HandleTable) (hs : List ℕ) where
  nobody : (s : ObjectStore) → Fits None t (0xFFFF8000 ∷ hs) s
  unfolding resolve_store resolve met ◌and◌
  nobody s e n = e ∙ sym (wants-none None s)

  module _ (u : ℕ) (h : u < 32) (rest : (s : ObjectStore) → Fits (Some u) t hs s) (s : ObjectStore) (e : s.full ≡ false) (n : length s.thread_objects ≡ 32) where
    abbrev made : ObjectStore
    made = kept s u

    first : resolve_store (Some u) t s (0xFFFF8000 ∷ hs) ≡ pick (eqb (kept_at (thread_object s u) u) 0) (thread_object s u) (resolve_store (Some u) t (thread_object s u) hs)
    unfolding resolve_store resolve
    first = refl

    -- the object is made, in the first free slot
    module _ (k : eqb (kept_at s u) 0 ≡ true) where
      thread-is : thread_object s u ≡ made
      unfolding thread_object
      thread-is = rw k

      thread-full : (q : Bool) → eqb s.free 0 ≡ q → (pick q made (resolve_store (Some u) t made hs)).full ≡ lacks_room (Some u) t s (0xFFFF8000 ∷ hs)
      unfolding met insert ◌and◌ ◌or◌
      thread-full true f =
          let r : lacks_room (Some u) t s (0xFFFF8000 ∷ hs) ≡ true = rw (k, f) in
          made-full s (Thread u) (eqb-true s.free 0 f) ∙ sym r
      thread-full false f =
          let b : Bool = eqb s.process_object.0 0 and met (Some u) t 0xFFFF8001 hs in
          let r : lacks_room (Some u) t s (0xFFFF8000 ∷ hs) ≡ lacking false (eqb made.free 0) true b = rw (k, f) in
          rest made (made-fits s (Thread u) e (eqb-false s.free 0 f)) (length-set s.thread_objects u (record { 0 = s.free }) ∙ n)
          ∙ ap (λ (x : Bool). lacking (eqb made.free 0) (eqb (next_of (object_at made made.free)) 0) (x and met (Some u) t 0xFFFF8000 hs) b) (ap (λ (o : ℕ). eqb o 0) (kept-at s u h n) ∙ f)
          ∙ one-thread (eqb made.free 0) (eqb (next_of (object_at made made.free)) 0) b ∙ sym r

      thread-made : (resolve_store (Some u) t s (0xFFFF8000 ∷ hs)).full ≡ lacks_room (Some u) t s (0xFFFF8000 ∷ hs)
      thread-made =
          ap (λ (y : ObjectStore). y.full)
          (first ∙ ap (λ (y : ObjectStore). pick (eqb (kept_at y u) 0) y (resolve_store (Some u) t y hs)) thread-is ∙ ap (λ (o : ℕ). pick (eqb o 0) made (resolve_store (Some u) t made hs)) (kept-at s u h n))
          ∙ thread-full (eqb s.free 0) refl

    thread-there : eqb (kept_at s u) 0 ≡ false → (resolve_store (Some u) t s (0xFFFF8000 ∷ hs)).full ≡ lacks_room (Some u) t s (0xFFFF8000 ∷ hs)
    unfolding met thread_object ◌and◌
    thread-there k =
        let p : thread_object s u ≡ s = rw k in
        let r : lacks_room (Some u) t s hs ≡ lacks_room (Some u) t s (0xFFFF8000 ∷ hs) = rw k in
        ap (λ (y : ObjectStore). y.full)
        (first ∙ ap (λ (y : ObjectStore). pick (eqb (kept_at y u) 0) y (resolve_store (Some u) t y hs)) p ∙ ap (λ (q : Bool). pick q s (resolve_store (Some u) t s hs)) k)
        ∙ rest s e n ∙ r

    thread_any : (q : Bool) → eqb (kept_at s u) 0 ≡ q → (resolve_store (Some u) t s (0xFFFF8000 ∷ hs)).full ≡ lacks_room (Some u) t s (0xFFFF8000 ∷ hs)
    thread_any true k = thread-made k
    thread_any false k = thread-there k

  current : (c : Option ℕ) → CurrentIn c → ((s : ObjectStore) → Fits c t hs s) → (s : ObjectStore) → Fits c t (0xFFFF8000 ∷ hs) s
  current None h rest s e n = nobody s e n
  current (Some u) h rest s e n = thread_any u h rest s e n (eqb (kept_at s u) 0) refl

  -- ---- the process's
  module _ (c : Option ℕ) (rest : (s : ObjectStore) → Fits c t hs s) (s : ObjectStore) (e : s.full ≡ false) (n : length s.thread_objects ≡ 32) where
    abbrev new : ObjectStore
    new = process s

    start : resolve_store c t s (0xFFFF8001 ∷ hs) ≡ pick (eqb (process_object s).process_object.0 0) (process_object s) (resolve_store c t (process_object s) hs)
    unfolding resolve_store resolve
    start = refl

    same-current : (d : Option ℕ) → makes_current new d ≡ makes_current s d
    unfolding insert
    same-current None = refl
    same-current (Some u) = refl

    module _ (k : eqb s.process_object.0 0 ≡ true) where
      process-is : process_object s ≡ new
      unfolding process_object
      process-is = rw k

      process-full : (q : Bool) → eqb s.free 0 ≡ q → (pick q new (resolve_store c t new hs)).full ≡ lacks_room c t s (0xFFFF8001 ∷ hs)
      unfolding met insert ◌and◌ ◌or◌
      process-full true f =
          let r : lacks_room c t s (0xFFFF8001 ∷ hs) ≡ (makes_current s c and met c t 0xFFFF8000 hs) or true = rw (k, f) in
          made-full s Process (eqb-true s.free 0 f) ∙ sym (r ∙ or-true (makes_current s c and met c t 0xFFFF8000 hs))
      process-full false f =
          let a : Bool = makes_current s c and met c t 0xFFFF8000 hs in
          let r : lacks_room c t s (0xFFFF8001 ∷ hs) ≡ lacking false (eqb new.free 0) a true = rw (k, f) in
          rest new (made-fits s Process e (eqb-false s.free 0 f)) n
          ∙ (λ i. lacking (eqb new.free 0) (eqb (next_of (object_at new new.free)) 0) (same-current c i and met c t 0xFFFF8000 hs) (f i and met c t 0xFFFF8001 hs))
          ∙ one-process (eqb new.free 0) (eqb (next_of (object_at new new.free)) 0) a ∙ sym r

      process-made : (resolve_store c t s (0xFFFF8001 ∷ hs)).full ≡ lacks_room c t s (0xFFFF8001 ∷ hs)
      process-made =
          ap (λ (y : ObjectStore). y.full) (start ∙ ap (λ (y : ObjectStore). pick (eqb y.process_object.0 0) y (resolve_store c t y hs)) process-is)
          ∙ process-full (eqb s.free 0) refl

    process-there : eqb s.process_object.0 0 ≡ false → (resolve_store c t s (0xFFFF8001 ∷ hs)).full ≡ lacks_room c t s (0xFFFF8001 ∷ hs)
    unfolding met process_object ◌and◌
    process-there k =
        let p : process_object s ≡ s = rw k in
        let r : lacks_room c t s hs ≡ lacks_room c t s (0xFFFF8001 ∷ hs) = rw k in
        ap (λ (y : ObjectStore). y.full)
        (start ∙ ap (λ (y : ObjectStore). pick (eqb y.process_object.0 0) y (resolve_store c t y hs)) p ∙ ap (λ (q : Bool). pick q s (resolve_store c t s hs)) k)
        ∙ rest s e n ∙ r

    process_any : (q : Bool) → eqb s.process_object.0 0 ≡ q → (resolve_store c t s (0xFFFF8001 ∷ hs)).full ≡ lacks_room c t s (0xFFFF8001 ∷ hs)
    process_any true k = process-made k
    process_any false k = process-there k

    -- ---- one of the table
    module _ (h : ℕ) (p : h ≢ 0xFFFF8000) (r : h ≢ 0xFFFF8001) where
      plain_if : (q : Bool) → eqb (object_of t h) 0 ≡ q → (resolve_store c t s (h ∷ hs)).full ≡ lacks_room c t s (h ∷ hs)
      unfolding resolve_store resolve met
      plain_if true k = rw (ne_eqb h 0xFFFF8000 p, ne_eqb h 0xFFFF8001 r, k) (e ∙ sym (wants-none c s))
      plain_if false k = rw (ne_eqb h 0xFFFF8000 p, ne_eqb h 0xFFFF8001 r, k) (rest s e n)

-- the store is full afterwards exactly if room is lacking
pub full_is : (c : Option ℕ) (t : HandleTable) → CurrentIn c → (hs : List ℕ) (s : ObjectStore) → Fits c t hs s
unfolding resolve_store met
full_is c t h [] s e n = e ∙ sym (wants-none c s)
full_is c t h (x ∷ hs) s e n = elim (ℕ_discrete x 0xFFFF8000) [
  | yes p ↦ subst (λ (y : ℕ). (resolve_store c t s (y ∷ hs)).full ≡ lacks_room c t s (y ∷ hs)) (sym p) (current t hs c h (full_is c t h hs) s e n)
  | no p ↦ elim (ℕ_discrete x 0xFFFF8001) [
    | yes r ↦ subst (λ (y : ℕ). (resolve_store c t s (y ∷ hs)).full ≡ lacks_room c t s (y ∷ hs)) (sym r) (process_any t hs c (full_is c t h hs) s e n (eqb s.process_object.0 0) refl)
    | no r ↦ plain_if t hs c (full_is c t h hs) s e n x p r (eqb (object_of t x) 0) refl
  ]
]
