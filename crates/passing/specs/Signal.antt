-- Signals, and what a wait takes of them, leave a state sound.
use Rattle.std.specs.Prelude.{◌≡◌, Bool, true, false, not, ℕ, ◌<◌, length}
use Rattle.std.proofs.Common.{sym, inl, inr, arith}
use mathlib.Core.List.{List, [], ◌∷◌}
use Rattle.std.proofs.Math.ListN.{get_or-eq_default}
use Rattle.laws.specs.Logic.{◌and◌, ◌or◌, or-false, lt-cases, false-true}
use Rattle.types.specs.declared.thread.Thread as th
use Rattle.types.specs.declared.object.KObject.{KObject}
use Rattle.types.specs.declared.object.KObject.TheVariants.{Free, Thread, Event, Mutex, Semaphore, Timer, AddressArbiter, Process, ResourceLimit}
use Rattle.types.specs.declared.object.Slot.{Slot}
use Rattle.types.specs.declared.object.ObjectStore.{ObjectStore}
use Rattle.types.specs.declared.kernel.Kernel.{Kernel}
use Rattle.sound.specs.View.{no_thread, slot_at, object_at}
use Rattle.sound.specs.Objects.{names, Live}
use Rattle.object.specs.Slots.{with_object, content}
use Rattle.thread.specs.Threads.{with_threads}
use Rattle.soundness.specs.Slots.{pick-both}
use Rattle.soundness.specs.Fits.{Word}
use Rattle.soundness.specs.Whole.{Parts}
use Rattle.soundness.specs.Creates.{StoreOk, parts-store}
use Rattle.pass.specs.Signal.{acquired, acquire_over, acquire, acquires, waited_sync, is_pulse, signaled_event, signaled_slot, signal_event, cleared_event, clear_event}
use Rattle.passing.specs.Alike.{Like, Alike, alike_same, alike_of, put-store, overflow-store, store-parts}
use Rattle.passing.specs.Objects.{event-like, cleared-like, acquired-like}

-- a thread that is not Dead has a place
pub live_in : (ts : List th.Thread) (t : ℕ) → Live ts t → t < length ts
live_in ts t h = elim (lt-cases t (length ts)) [ inl l ↦ l | inr l ↦ false-true (sym (rw (get_or-eq_default ts no_thread l) at h)) ]

module _ (n : ℕ) (ts : List th.Thread) (f : ℕ → ℕ) where
  -- one object anew, alike
  pub content-store : (s : ObjectStore) (o : ℕ) (y : KObject) → Like n ts (object_at s o) y → StoreOk n ts f s → StoreOk n ts f (content s o y)
  unfolding content
  content-store s o y e h = put-store n ts f s o (with_object (slot_at s.slots o) y) (alike_of n ts (slot_at s.slots o) y (slot_at s.slots o).pulsed e) h

  -- ---- `signal_event`
  signaled_as : (waited : Bool) (r : ℕ) (p : Bool) (x : KObject)
      → Alike n ts (record { object = x; refcount = r; pulsed = p }) (signaled_slot waited (record { object = x; refcount = r; pulsed = p }) x)
  signaled_as waited r p (Free m) = alike_same n ts _
  signaled_as waited r p (Thread u) = alike_same n ts _
  signaled_as waited r p (Event e) =
      pick-both (Alike n ts (record { object = Event e; refcount = r; pulsed = p })) (is_pulse e.reset_type and not waited) _ _ (alike_same n ts _)
      (alike_of n ts (record { object = Event e; refcount = r; pulsed = p }) (Event (signaled_event e)) (p or is_pulse e.reset_type) (event-like n ts e true))
  signaled_as waited r p (Mutex m) = alike_same n ts _
  signaled_as waited r p (Semaphore s) = alike_same n ts _
  signaled_as waited r p (Timer t) = alike_same n ts _
  signaled_as waited r p (AddressArbiter a) = alike_same n ts _
  signaled_as waited r p Process = alike_same n ts _
  signaled_as waited r p ResourceLimit = alike_same n ts _

  pub signal-store : (s : ObjectStore) (ws : List th.Thread) (o : ℕ) → StoreOk n ts f s → StoreOk n ts f (signal_event s ws o)
  unfolding signal_event
  signal-store s ws o h =
      let x : Slot = slot_at s.slots o in
      put-store n ts f s o (signaled_slot (waited_sync ws o) x x.object) (signaled_as (waited_sync ws o) x.refcount x.pulsed x.object) h

  -- ---- `clear_event`
  pub clear_event-store : (s : ObjectStore) (o : ℕ) → StoreOk n ts f s → StoreOk n ts f (clear_event s o)
  unfolding clear_event
  clear_event-store s o h = content-store s o (cleared_event (object_at s o)) (cleared-like n ts (object_at s o)) h

pub acquire-sticks : (s : ObjectStore) (o w : ℕ) → (acquire s o w).overflow ≡ false → s.overflow ≡ false
unfolding acquire
acquire-sticks s o w e = (or-false s.overflow (acquire_over (object_at s o)) e).0

pub acquires-sticks : (os : List ℕ) (s : ObjectStore) (w : ℕ) → (acquires s os w).overflow ≡ false → s.overflow ≡ false
unfolding acquires
acquires-sticks [] s w e = e
acquires-sticks (o ∷ os) s w e = acquire-sticks s o w (acquires-sticks os (acquire s o w) w e)

-- ---- for a thread that is not Dead
module _ (n : ℕ) (ts : List th.Thread) (f : ℕ → ℕ) (w : ℕ) (live : Live ts w) (small : Word w) where
  pub acquire-store : (s : ObjectStore) (o : ℕ) → (acquire s o w).overflow ≡ false → StoreOk n ts f s → StoreOk n ts f (acquire s o w)
  unfolding acquire
  acquire-store s o e h =
      overflow-store n ts f (content s o (acquired (object_at s o) w)) (s.overflow or acquire_over (object_at s o)) e
      (content-store n ts f s o (acquired (object_at s o) w) (acquired-like n ts w live small (object_at s o)) h)

  pub acquires-store : (os : List ℕ) (s : ObjectStore) → (acquires s os w).overflow ≡ false → StoreOk n ts f s → StoreOk n ts f (acquires s os w)
  unfolding acquires
  acquires-store [] s e h = h
  acquires-store (o ∷ os) s e h = acquires-store os (acquire s o w) e (acquire-store s o (acquires-sticks os (acquire s o w) w e) h)

-- ---- as parts of a state
module _ (k : Kernel) (p : Parts k) where
  -- its number fits a word
  pub live-word : (w : ℕ) → Live k.threads w → Word w
  live-word w l = omega (arith, live_in k.threads w l, p.nt)

  pub acquires-parts : (os : List ℕ) (w : ℕ) → Live k.threads w → (acquires k.objects os w).overflow ≡ false → Parts (with_threads k k.threads (acquires k.objects os w))
  acquires-parts os w l e =
      store-parts k (acquires k.objects os w)
      (acquires-store k.thread_count k.threads (names k.handles k.threads) w l (live-word w l) os k.objects e (parts-store k p)) p

  pub acquire-parts : (o w : ℕ) → Live k.threads w → (acquire k.objects o w).overflow ≡ false → Parts (with_threads k k.threads (acquire k.objects o w))
  acquire-parts o w l e =
      store-parts k (acquire k.objects o w)
      (acquire-store k.thread_count k.threads (names k.handles k.threads) w l (live-word w l) k.objects o e (parts-store k p)) p

  pub signal_event-parts : (ws : List th.Thread) (o : ℕ) → Parts (with_threads k k.threads (signal_event k.objects ws o))
  signal_event-parts ws o = store-parts k (signal_event k.objects ws o) (signal-store k.thread_count k.threads (names k.handles k.threads) k.objects ws o (parts-store k p)) p

  pub clear_event-parts : (o : ℕ) → Parts (with_threads k k.threads (clear_event k.objects o))
  clear_event-parts o = store-parts k (clear_event k.objects o) (clear_event-store k.thread_count k.threads (names k.handles k.threads) k.objects o (parts-store k p)) p
