-- What holds of every object stays so under each primitive, if what the primitive writes has it.
use Rattle.std.specs.Prelude.{Bool, eqb, leb, set, Option, Some, None}
use Rattle.std.proofs.Math.Bool.{true, false}
use mathlib.Core.List.{List, [], ◌∷◌}
use Prim.Native.Nat.{ℕ, zero, suc}
use Rattle.laws.specs.Logic.{pick}
use Rattle.types.specs.declared.thread.Thread as th
use Rattle.types.specs.declared.object.KObject.{KObject}
use Rattle.types.specs.declared.object.KObject.TheVariants.{Free, Thread, Event, Mutex, Semaphore, Timer, AddressArbiter, Process, ResourceLimit}
use Rattle.types.specs.declared.object.HandleTable.{HandleTable}
use Rattle.types.specs.declared.object.ObjectStore.{ObjectStore}
use Rattle.sound.specs.View.{slot_at, object_at, waiter_threads, waiter_addresses}
use Rattle.sound.specs.Objects.{kept_at, ContentOk, Each}
use Rattle.sound.specs.Records.{chain_of, has?}
use Rattle.object.specs.Slots.{with_kept, with_process}
use Rattle.object.specs.Waiters.{with_head, retain, of_others, drop_thread, is_arbiter, pushed, push}
use Rattle.object.specs.Store.{is_free, insert, add_ref, add_refs, release_if, release, releases}
use Rattle.object.specs.declared.handles.Both.{Both}
use Rattle.object.specs.Handles.{object_of, place_of, taken_out, create, close}
use Rattle.object.specs.Kept.{thread_object, process_object, of_current, resolve}
use Rattle.soundness.specs.Slots.{pick-both, each-slot}

module _ (P : KObject → Type 0) where
  pub each-add_ref : (s : ObjectStore) (o : ℕ) → Each P s → Each P (add_ref s o)
  unfolding add_ref
  each-add_ref s o h = pick-both (Each P) (is_free (object_at s o)) s _ h (each-slot P s.slots o _ (h o) h)

  pub each-add_refs : (os : List ℕ) (s : ObjectStore) → Each P s → Each P (add_refs s os)
  unfolding add_refs
  each-add_refs [] s h = h
  each-add_refs (o ∷ os) s h = each-add_refs os (add_ref s o) (each-add_ref s o h)

  pub each-insert : (s : ObjectStore) (v : KObject) → P v → Each P s → Each P (insert s v)
  unfolding insert
  each-insert s v p h = each-slot P s.slots s.free _ p h

  -- ---- kept objects
  each-thread_if : (q : Bool) (s : ObjectStore) (t : ℕ) → P (Thread t) → Each P s
      → Each P (pick q (with_kept (insert s (Thread t)) (set s.thread_objects t (record { 0 = s.free }))) s)
  each-thread_if true s t p h = each-insert s (Thread t) p h
  each-thread_if false s t p h = h

  pub each-thread_object : (s : ObjectStore) (t : ℕ) → P (Thread t) → Each P s → Each P (thread_object s t)
  unfolding thread_object
  each-thread_object s t p h = each-thread_if (eqb (kept_at s t) 0) s t p h

  each-process_if : (q : Bool) (s : ObjectStore) → P Process → Each P s → Each P (pick q (with_process (insert s Process) (record { 0 = s.free })) s)
  each-process_if true s p h = each-insert s Process p h
  each-process_if false s p h = h

  pub each-process_object : (s : ObjectStore) → P Process → Each P s → Each P (process_object s)
  unfolding process_object
  each-process_object s p h = each-process_if (eqb s.process_object.0 0) s p h

  -- the object of the current thread
  abbrev pub OfCurrent : Option ℕ → Type 0
  OfCurrent None = Unit {0}
  OfCurrent (Some t) = P (Thread t)

  each-current : (c : Option ℕ) (s : ObjectStore) → OfCurrent c → Each P s → Each P (of_current s c).store
  each-current None s p h = h
  each-current (Some t) s p h = each-thread_object s t p h

  each-resolve_if : (a b : Bool) (c : Option ℕ) (t : HandleTable) (s : ObjectStore) (h : ℕ) → OfCurrent c → P Process
      → Each P s
      → Each P (pick a (of_current s c) (pick b (record { object = (process_object s).process_object; store = process_object s }) (record { object = record { 0 = object_of t h }; store = s }))).store
  each-resolve_if true b c t s h p q e = each-current c s p e
  each-resolve_if false true c t s h p q e = each-process_object s q e
  each-resolve_if false false c t s h p q e = e

  pub each-resolve : (c : Option ℕ) (t : HandleTable) (s : ObjectStore) (h : ℕ) → OfCurrent c → P Process → Each P s
      → Each P (resolve c t s h).store
  unfolding resolve
  each-resolve c t s h p q e = each-resolve_if (eqb h 0xFFFF8000) (eqb h 0xFFFF8001) c t s h p q e

  -- ---- what frees a slot
  module _ (free : (n : ℕ) → P (Free n)) where
    each-release_if : (q : Bool) (s : ObjectStore) (o : ℕ) → Each P s → Each P (release_if q s o)
    unfolding release_if
    each-release_if true s o h = each-slot P s.slots o _ (h o) h
    each-release_if false s o h = each-slot P s.slots o _ (free s.free) h

    pub each-release : (s : ObjectStore) (o : ℕ) → Each P s → Each P (release s o)
    unfolding release
    each-release s o h = pick-both (Each P) (is_free (object_at s o)) s _ h (each-release_if (leb 2 (slot_at s.slots o).refcount) s o h)

    pub each-releases : (os : List ℕ) (s : ObjectStore) → Each P s → Each P (releases s os)
    unfolding releases
    each-releases [] s h = h
    each-releases (o ∷ os) s h = each-releases os (release s o) (each-release s o h)

    each-close_if : (q : Bool) (t : HandleTable) (s : ObjectStore) (h : ℕ) → Each P s
        → Each P (pick {A = Both} q (record { table = t; store = s }) (record { table = taken_out t (place_of t.entries h); store = release s (object_of t h) })).store
    each-close_if true t s h e = e
    each-close_if false t s h e = each-release s (object_of t h) e

    pub each-close : (t : HandleTable) (s : ObjectStore) (h : ℕ) → Each P s → Each P (close t s h).store
    unfolding close
    each-close t s h e = each-close_if (eqb (object_of t h) 0) t s h e

  pub each-create : (t : HandleTable) (s : ObjectStore) (o : ℕ) → Each P s → Each P (create t s o).store
  unfolding create
  each-create t s o e = each-add_ref s o e

  -- ---- what changes a chain
  module _ (heads : (x : KObject) (h : ℕ) → P x → P (with_head x h)) where
    pub each-retain : (keep : ℕ → Bool) (s : ObjectStore) (o : ℕ) → Each P s → Each P (retain keep s o)
    unfolding retain
    each-retain keep s o h = each-slot P s.slots o _ (heads (object_at s o) _ (h o)) h

    pub each-drop_thread : (n o t : ℕ) (s : ObjectStore) → Each P s → Each P (drop_thread n o t s)
    unfolding drop_thread
    each-drop_thread zero o t s h = h
    each-drop_thread (suc n) o t s h = each-drop_thread n (suc o) t (retain (of_others s t) s o) (each-retain (of_others s t) s o h)

    each-push_if : (p q : Bool) (s : ObjectStore) (o t a : ℕ) → Each P s → Each P (pick p (pick q s (pushed s o t a)) s)
    each-push_if true true s o t a h = h
    each-push_if true false s o t a h = each-slot P s.slots o _ (heads (object_at s o) _ (h o)) h
    each-push_if false q s o t a h = h

    pub each-push : (s : ObjectStore) (o t a : ℕ) → Each P s → Each P (push s o t a)
    unfolding push
    each-push s o t a h = each-push_if (is_arbiter (object_at s o)) (has? (waiter_threads s.waiters) (waiter_addresses s.waiters) t a (chain_of s o)) s o t a h

-- ---- what question 2 asks of every object
pub content-free : (n : ℕ) (ts : List th.Thread) (k : ℕ) → ContentOk n ts (Free k)
content-free n ts k = tt

pub content-head : (n : ℕ) (ts : List th.Thread) (x : KObject) (h : ℕ) → ContentOk n ts x → ContentOk n ts (with_head x h)
content-head n ts (Free k) h c = c
content-head n ts (Thread t) h c = c
content-head n ts (Event e) h c = c
content-head n ts (Mutex m) h c = c
content-head n ts (Semaphore x) h c = c
content-head n ts (Timer t) h c = c
content-head n ts (AddressArbiter a) h c = c
content-head n ts Process h c = c
content-head n ts ResourceLimit h c = c
