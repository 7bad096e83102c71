-- A handle that is resolved and an object that is made leave the clock of every object in use; timers that are fired first move it.
use Rattle.std.specs.Prelude.{◌≡◌, Bool, ◌≢◌, ◌⊎◌, List, [], ◌∷◌, ℕ, suc, ◌<◌, eqb, length, set, get_or, Option, Some}
use Rattle.std.specs.Prelude.{None}
use Rattle.std.proofs.Math.Path.{refl, ap}
use Rattle.std.proofs.Common.{sym, subst, ◌∙◌, arith, length-set, get_or-set_same, eqb-true}
use Rattle.std.proofs.Math.Bool.{true, false}
use Rattle.std.proofs.Math.Logic.{inl, inr}
use Rattle.std.proofs.Math.ListN.{get_or-eq_default}
use Rattle.std.proofs.lemmas.Bool.{eqb-false}
use Rattle.laws.specs.Logic.{pick, lt-cases}
use Rattle.units.specs.declared.ObjectId.{ObjectId}
use Rattle.types.specs.declared.thread.Thread as th
use Rattle.types.specs.declared.object.KObject.{KObject}
use Rattle.types.specs.declared.object.KObject.TheVariants.{Thread, Process}
use Rattle.types.specs.declared.object.HandleEntry.{HandleEntry}
use Rattle.types.specs.declared.object.HandleTable.{HandleTable}
use Rattle.types.specs.declared.object.ObjectStore.{ObjectStore}
use Rattle.types.specs.declared.kernel.Kernel.{Kernel}
use Rattle.types.specs.Object.{kind_number}
use Rattle.sound.specs.View.{ids, slot_at, object_at}
use Rattle.sound.specs.Objects.{names, kept_at}
use Rattle.object.specs.declared.kept.Resolved.{Resolved}
use Rattle.object.specs.Slots.{with_slots, with_kept, with_process}
use Rattle.object.specs.Store.{insert}
use Rattle.object.specs.Handles.{no_entry, place_of, object_of}
use Rattle.object.specs.Kept.{thread_object, process_object, of_current, resolve}
use Rattle.soundness.specs.Slots.{map-set, pick-both}
use Rattle.soundness.specs.Whole.{Parts}
use Rattle.pass.specs.Timers.{fire_timers, timer_due, lost_slots, catch_up_timers}
use Rattle.svc.specs.Call.{resolved, create_object}
use Rattle.svc.specs.Timers.{caught_up}
use Rattle.demand.specs.Words.{entry_of, own_object, named}
use Rattle.timing.specs.Clock.{Clock, clock_at}
use Rattle.timing.specs.Fires.{fired_clock, catch_clock}
use Rattle.timing.specs.Keeps.{FirstFree, first-free, insert-clock}

-- the object o is in use
abbrev pub Used : ObjectStore → ℕ → Type 0
Used s o = 0 < (clock_at s o).kind

pub used_as : (s s' : ObjectStore) (o : ℕ) → clock_at s' o ≡ clock_at s o → Used s o → Used s' o
used_as s s' o e u = subst (λ (c : Clock). 0 < c.kind) (sym e) u

pub parts_free : (k : Kernel) → Parts k → FirstFree k.objects
parts_free k p = first-free k.objects (names k.handles k.threads) p.ob

-- ---- an object is made, or found
module _ (s : ObjectStore) (f : FirstFree s) (o : ℕ) (u : Used s o) where
  pub thread_object-clock : (t : ℕ) → clock_at (thread_object s t) o ≡ clock_at s o
  unfolding thread_object
  thread_object-clock t =
      pick-both (λ (y : ObjectStore). clock_at y o ≡ clock_at s o) (eqb (kept_at s t) 0) (with_kept (insert s (Thread t)) (set s.thread_objects t (record { 0 = s.free }))) s
      (insert-clock s (Thread t) f o u) refl

  process_object-clock : clock_at (process_object s) o ≡ clock_at s o
  unfolding process_object
  process_object-clock =
      pick-both (λ (y : ObjectStore). clock_at y o ≡ clock_at s o) (eqb s.process_object.0 0) (with_process (insert s Process) (record { 0 = s.free })) s (insert-clock s Process f o u) refl

  current-clock : (c : Option ℕ) → clock_at (of_current s c).store o ≡ clock_at s o
  current-clock None = refl
  current-clock (Some t) = thread_object-clock t

  pub resolve-clock : (c : Option ℕ) (t : HandleTable) (h : ℕ) → clock_at (resolve c t s h).store o ≡ clock_at s o
  unfolding resolve
  resolve-clock c t h =
      pick-both (λ (x : Resolved). clock_at x.store o ≡ clock_at s o) (eqb h 0xFFFF8000) (of_current s c)
      (pick (eqb h 0xFFFF8001) (record { object = (process_object s).process_object; store = process_object s }) (record { object = record { 0 = object_of t h }; store = s })) (current-clock c)
      (pick-both (λ (x : Resolved). clock_at x.store o ≡ clock_at s o) (eqb h 0xFFFF8001) (record { object = (process_object s).process_object; store = process_object s })
      (record { object = record { 0 = object_of t h }; store = s }) process_object-clock refl)

module _ (k : Kernel) (f : FirstFree k.objects) (o : ℕ) (u : Used k.objects o) where
  pub create_object-clock : (v : KObject) → clock_at (create_object k v).kernel.objects o ≡ clock_at k.objects o
  unfolding create_object
  create_object-clock v = insert-clock k.objects v f o u

  pub resolved-clock : (h : ℕ) → clock_at (resolved k h).store o ≡ clock_at k.objects o
  resolved-clock h = resolve-clock k.objects f o u k.current_thread k.handles h

-- ---- a handle is resolved to what the demand says it names, or else to an object that is made for it
abbrev pub Named : ObjectStore → ℕ → ℕ → Type 0
Named s a b = (b ≡ a) ⊎ ((a ≡ 0) × (b ≡ s.free))

entry_if : (q : Bool) (e : HandleEntry) (es : List HandleEntry) (n m : ℕ) → (get_or es n no_entry).object.0 ≡ m → (get_or (e ∷ es) (pick q 0 (suc n)) no_entry).object.0 ≡ pick q e.object.0 m
entry_if true e es n m h = refl
entry_if false e es n m h = h

pub entry-is : (es : List HandleEntry) (h : ℕ) → (get_or es (place_of es h) no_entry).object.0 ≡ entry_of es h
unfolding place_of entry_of
entry-is [] h = refl
entry-is (e ∷ es) h = entry_if (eqb e.handle.0 h) e es (place_of es h) (entry_of es h) (entry-is es h)

module _ (s : ObjectStore) where
  kept-made : (t : ℕ) → kept_at s t ≡ 0 → Named s (kept_at s t) (get_or (ids (set s.thread_objects t (record { 0 = s.free }))) t 0)
  kept-made t z =
      let l : List ℕ = ids s.thread_objects in
      let e : ids (set s.thread_objects t (record { 0 = s.free })) ≡ set l t s.free = map-set (λ (o : ObjectId). o.0) s.thread_objects t (record { 0 = s.free }) in
      elim (lt-cases t (length l)) [
        | inl h ↦ inr (z, ap (λ (x : List ℕ). get_or x t 0) e ∙ get_or-set_same l t s.free 0 h)
        | inr h ↦ inl (ap (λ (x : List ℕ). get_or x t 0) e ∙ get_or-eq_default (set l t s.free) 0 {n = t} (omega (arith, length-set l t s.free)) ∙ sym z)
      ]

  kept_if : (t : ℕ) (q : Bool) → eqb (kept_at s t) 0 ≡ q
      → Named s (kept_at s t) (kept_at (pick q (with_kept (insert s (Thread t)) (set s.thread_objects t (record { 0 = s.free }))) s) t)
  kept_if t true e = kept-made t (eqb-true (kept_at s t) 0 e)
  kept_if t false e = inl refl

  current-named : (c : Option ℕ) → Named s (own_object c s.thread_objects) (of_current s c).object.0
  unfolding thread_object
  current-named None = inl refl
  current-named (Some t) = kept_if t (eqb (kept_at s t) 0) refl

  process_if : (q : Bool) → eqb s.process_object.0 0 ≡ q → Named s s.process_object.0 (pick q (with_process (insert s Process) (record { 0 = s.free })) s).process_object.0
  process_if true e = inr (eqb-true s.process_object.0 0 e, refl)
  process_if false e = inl refl

  pub resolve-named : (c : Option ℕ) (t : HandleTable) (h : ℕ) → Named s (named c t s h) (resolve c t s h).object.0
  unfolding resolve process_object object_of
  resolve-named c t h = go (eqb h 0xFFFF8000) (eqb h 0xFFFF8001)
    where
      go : (p q : Bool)
          → Named s (pick p (own_object c s.thread_objects) (pick q s.process_object.0 (entry_of t.entries h)))
          (pick p (of_current s c) (pick q (record { object = (process_object s).process_object; store = process_object s }) (record { object = record { 0 = object_of t h }; store = s }))).object.0
      go true q = current-named c
      go false true = process_if (eqb s.process_object.0 0) refl
      go false false = inl (entry-is t.entries h)

-- ---- timers fired first
caught-kept_if : (b : Bool) (s : ObjectStore) (ts : List th.Thread) (tick : ℕ) (c : Option ℕ) (t : HandleTable) (h : ℕ)
    → named c t (pick b (with_slots (fire_timers s tick) (lost_slots ts 1 (fire_timers s tick).slots)) s) h ≡ named c t s h
unfolding fire_timers
caught-kept_if true s ts tick c t h = refl
caught-kept_if false s ts tick c t h = refl

caught-free_if : (b : Bool) (s : ObjectStore) (ts : List th.Thread) (tick : ℕ) → (pick b (with_slots (fire_timers s tick) (lost_slots ts 1 (fire_timers s tick).slots)) s).free ≡ s.free
unfolding fire_timers
caught-free_if true s ts tick = refl
caught-free_if false s ts tick = refl

module _ (s : ObjectStore) (ts : List th.Thread) (tick : ℕ) where
  caught-place : (catch_up_timers s ts tick).free ≡ s.free
  unfolding catch_up_timers
  caught-place = caught-free_if (timer_due tick s.slots) s ts tick

  pub caught-free : FirstFree s → FirstFree (catch_up_timers s ts tick)
  caught-free f =
      ap (λ (c : Clock). c.kind) (catch_clock s ts tick (catch_up_timers s ts tick).free) ∙ ap (λ (r : ℕ). kind_number (object_at s r)) caught-place ∙ f

  pub caught-used : (o : ℕ) → Used s o → Used (catch_up_timers s ts tick) o
  caught-used o u = subst (λ (c : Clock). 0 < c.kind) (sym (catch_clock s ts tick o)) u

-- what is named by a handle, and is in use, is what it is resolved to
module _ (k : Kernel) (tick h : ℕ) where
  caught-named : Named k.objects (named k.current_thread k.handles k.objects h) (resolved (caught_up k tick) h).object.0
  unfolding catch_up_timers
  caught-named =
      let c : (Option ℕ) = k.current_thread in
      let s : ObjectStore = catch_up_timers k.objects k.threads tick in
      let a : named c k.handles s h ≡ named c k.handles k.objects h = caught-kept_if (timer_due tick k.objects.slots) k.objects k.threads tick c k.handles h in
      let b : s.free ≡ k.objects.free = caught-place k.objects k.threads tick in
      elim (resolve-named s c k.handles h) [
        | inl e ↦ inl (e ∙ a)
        | inr e ↦ inr (sym a ∙ e.0, e.1 ∙ b)
      ]

  module _ (f : FirstFree k.objects) (o : ℕ) (u : Used k.objects o) where
    pub named-is : named k.current_thread k.handles k.objects h ≡ o → (resolved (caught_up k tick) h).object.0 ≡ o
    unfolding slot_at
    named-is e =
        elim caught-named [
          | inl x ↦ x ∙ e
          | inr x ↦ absurd (let z : kind_number (object_at k.objects o) ≡ 0 = ap (λ (i : ℕ). kind_number (object_at k.objects i)) (sym e ∙ x.0) in omega (arith, z, u))
        ]

    pub named-not : eqb (named k.current_thread k.handles k.objects h) o ≡ false → o ≢ (resolved (caught_up k tick) h).object.0
    named-not e d =
        elim caught-named [
          | inl x ↦ eqb-false (named k.current_thread k.handles k.objects h) o e (sym x ∙ sym d)
          | inr x ↦ absurd (let z : kind_number (object_at k.objects o) ≡ 0 = ap (λ (i : ℕ). kind_number (object_at k.objects i)) (d ∙ x.1) ∙ f in omega (arith, z, u))
        ]

module _ (k : Kernel) (f : FirstFree k.objects) (o : ℕ) (u : Used k.objects o) (tick : ℕ) where
  -- and then a handle resolved
  pub caught-resolved : (h : ℕ) → clock_at (resolved (caught_up k tick) h).store o ≡ fired_clock tick (clock_at k.objects o)
  caught-resolved h =
      resolved-clock (caught_up k tick) (caught-free k.objects k.threads tick f) o (caught-used k.objects k.threads tick o u) h ∙ catch_clock k.objects k.threads tick o
