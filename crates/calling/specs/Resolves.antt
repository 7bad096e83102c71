-- Resolving a handle keeps a state sound, unless the store is full: every object that was named stays as it was, and the object found is live and named if its number is not 0.
use Rattle.std.specs.Prelude.{◌≡◌, refl, Bool, true, false, List, ℕ, ◌+◌, ◌≤◌, ◌<◌, eqb, set, Option, Some, None}
use Rattle.std.proofs.Common.{◌∙◌, arith}
use Rattle.laws.specs.Logic.{pick}
use Rattle.types.specs.declared.thread.Thread as th
use Rattle.types.specs.declared.object.KObject.TheVariants.{Thread, Process}
use Rattle.types.specs.declared.object.HandleTable.{HandleTable}
use Rattle.types.specs.declared.object.ObjectStore.{ObjectStore}
use Rattle.types.specs.declared.kernel.Kernel.{Kernel}
use Rattle.types.specs.Thread.{option_value}
use Rattle.sound.specs.Threads.{CurrentOk}
use Rattle.sound.specs.Objects.{names, kept_names, kept_at, ContentOk}
use Rattle.object.specs.Slots.{with_kept, with_process}
use Rattle.object.specs.Store.{insert}
use Rattle.object.specs.Handles.{object_of}
use Rattle.object.specs.Kept.{thread_object, process_object, of_current, resolve}
use Rattle.soundness.specs.Objects.{named-slot}
use Rattle.soundness.specs.Kept.{Found, CurrentIn, resolve-ok}
use Rattle.soundness.specs.Records.{chains-same}
use Rattle.soundness.specs.Each.{OfCurrent, each-resolve}
use Rattle.soundness.specs.Fits.{Word, CurrentFits, resolve-fits}
use Rattle.soundness.specs.Whole.{Parts, names_of}
use Rattle.soundness.specs.Creates.{StoreOk}
use Rattle.passing.specs.Alike.{store-parts}
use Rattle.svc.specs.Call.{with_objects, resolved}

-- ---- the current thread of a sound state
current_in : (c : Option ℕ) (n : ℕ) → n ≤ 32 → CurrentOk c n → CurrentIn c
current_in None n m h = tt
current_in (Some t) n m h = omega arith

current-word : (c : Option ℕ) → Word (option_value c) → CurrentFits c
current-word None w = tt
current-word (Some t) w = w

current-content : (n : ℕ) (ts : List th.Thread) (c : Option ℕ) → CurrentOk c n → OfCurrent (ContentOk n ts) c
current-content n ts None h = tt
current-content n ts (Some t) h = h

-- ---- the finding `overflow` is left alone
thread-overflow_if : (q : Bool) (s : ObjectStore) (t : ℕ) → (pick q (with_kept (insert s (Thread t)) (set s.thread_objects t (record { 0 = s.free }))) s).overflow ≡ s.overflow
unfolding insert
thread-overflow_if true s t = refl
thread-overflow_if false s t = refl

pub thread_object-overflow : (s : ObjectStore) (t : ℕ) → (thread_object s t).overflow ≡ s.overflow
unfolding thread_object
thread_object-overflow s t = thread-overflow_if (eqb (kept_at s t) 0) s t

process-overflow_if : (q : Bool) (s : ObjectStore) → (pick q (with_process (insert s Process) (record { 0 = s.free })) s).overflow ≡ s.overflow
unfolding insert
process-overflow_if true s = refl
process-overflow_if false s = refl

pub process_object-overflow : (s : ObjectStore) → (process_object s).overflow ≡ s.overflow
unfolding process_object
process_object-overflow s = process-overflow_if (eqb s.process_object.0 0) s

current-overflow : (c : Option ℕ) (s : ObjectStore) → (of_current s c).store.overflow ≡ s.overflow
current-overflow None s = refl
current-overflow (Some t) s = thread_object-overflow s t

resolve-overflow_if : (p q : Bool) (c : Option ℕ) (t : HandleTable) (s : ObjectStore) (h : ℕ)
    → (pick p (of_current s c) (pick q (record { object = (process_object s).process_object; store = process_object s }) (record { object = record { 0 = object_of t h }; store = s }))).store.overflow ≡ s.overflow
resolve-overflow_if true q c t s h = current-overflow c s
resolve-overflow_if false true c t s h = process_object-overflow s
resolve-overflow_if false false c t s h = refl

pub resolve-overflow : (c : Option ℕ) (t : HandleTable) (s : ObjectStore) (h : ℕ)
    → (resolve c t s h).store.overflow ≡ s.overflow
unfolding resolve
resolve-overflow c t s h = resolve-overflow_if (eqb h 0xFFFF8000) (eqb h 0xFFFF8001) c t s h

-- ---- `resolve` in a sound state: h is the handle, and the store is not full after
module _ (k : Kernel) (p : Parts k) (h : ℕ) (e : (resolved k h).store.full ≡ false) where
  -- every law of Found: counts, records as they were, what had a name stays, the object found has a name or is 0
  pub resolved-found : Found k.objects (names k.handles k.threads) (resolved k h).store (resolved k h).object.0
  resolved-found =
      resolve-ok k.current_thread k.handles k.objects h (names k.handles k.threads) (current_in k.current_thread k.thread_count p.threads.many p.threads.current)
      (λ o z. omega (arith, names_of k o)) (λ q. p.ob) e

  pub resolved-store : StoreOk k.thread_count k.threads (names k.handles k.threads) (resolved k h).store
  resolved-store =
      let n : ℕ = k.thread_count in
      let c : (Option ℕ) = k.current_thread in
      record {
        ob = resolved-found.ok;
        contents = each-resolve (ContentOk n k.threads) c k.handles k.objects h (current-content n k.threads c p.threads.current) tt p.contents;
        chains = chains-same n k.objects (resolved k h).store resolved-found.same p.chains;
        fits = resolve-fits c k.handles k.objects h (current-word c p.current) p.store_fits;
        full = e;
        overflow = resolve-overflow c k.handles k.objects h ∙ p.clean.3;
      }

  pub resolved-parts : Parts (with_objects k (resolved k h).store)
  resolved-parts = store-parts k (resolved k h).store resolved-store p

  -- the object found, if it is one
  module _ (z : 0 < (resolved k h).object.0) where
    pub resolved-named : 0 < names k.handles k.threads (resolved k h).object.0 + kept_names (resolved k h).store (resolved k h).object.0
    resolved-named = resolved-found.known z

    pub resolved-slot : (resolved k h).object.0 ≤ 128
    resolved-slot = omega (arith, named-slot (resolved k h).store (names k.handles k.threads) resolved-found.ok (resolved k h).object.0 z resolved-named, resolved-found.ok.ns)
