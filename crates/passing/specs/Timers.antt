-- Timers that fire, pulses that end, and pulses that are lost leave a state sound.
use Rattle.units.specs.declared.Ticks.{Ticks}
use Rattle.std.specs.Prelude.{◌≡◌, refl, Bool, true, false, not, ℕ, suc, ◌+◌, ◌-◌, ◌/◌, ◌^◌, ◌<◌, leb, ltb, Option}
use Rattle.std.specs.Prelude.{Some, None}
use mathlib.Core.List.{List, [], ◌∷◌, map}
use Rattle.std.proofs.Common.{arith}
use Rattle.laws.specs.Logic.{pick, ◌and◌, ◌or◌}
use Rattle.types.specs.declared.thread.Thread as th
use Rattle.types.specs.declared.sync.Timer as ti
use Rattle.types.specs.declared.object.KObject.{KObject}
use Rattle.types.specs.declared.object.KObject.TheVariants.{Free, Thread, Event, Mutex, Semaphore, Timer, AddressArbiter, Process, ResourceLimit}
use Rattle.types.specs.declared.object.Slot.{Slot}
use Rattle.types.specs.declared.object.ObjectStore.{ObjectStore}
use Rattle.types.specs.declared.kernel.Kernel.{Kernel}
use Rattle.types.specs.Thread.{tick_value}
use Rattle.sound.specs.Objects.{names}
use Rattle.object.specs.Slots.{with_slots}
use Rattle.thread.specs.Threads.{with_threads}
use Rattle.thread.specs.Marks.{least-le}
use Rattle.soundness.specs.Slots.{pick-both}
use Rattle.soundness.specs.Fits.{z8}
use Rattle.soundness.specs.Whole.{Parts}
use Rattle.soundness.specs.Creates.{StoreOk, parts-store}
use Rattle.pass.specs.Signal.{is_pulse, waited_sync, quieted, unpulsed_slot, clear_pulses}
use Rattle.pass.specs.Timers.{max_tick, saturating_add, saturating_mul, due_again, fired_timer, fired_at, fired_as, fired_slot, any_over, fire_timers, timer_due, lost_object, lost_slot, lost_slots, catch_up_timers}
use Rattle.passing.specs.Alike.{Pairs, Like, Alike, alike_same, alike_of, alike_store, map-store, overflow-store, store-parts}
use Rattle.passing.specs.Objects.{timer_like, quiet-like, lost_like}

-- a sum that saturates fits
pub saturating_fits : (a b : ℕ) → saturating_add a b < 256 ^ 8
saturating_fits a b = omega (arith, least-le (a + b) max_tick)

again_fits : (at interval tick : ℕ) → tick_value (due_again at interval tick) < 256 ^ 8
again_fits at interval tick =
    pick-both (λ (o : Option Ticks). tick_value o < 256 ^ 8) (ltb 0 interval) _ None
    (saturating_fits at (saturating_mul interval ((tick - at) / interval + 1))) z8

module _ (n : ℕ) (ts : List th.Thread) where
  -- ---- `fire_timers`
  fired-at : (tick : ℕ) (r : ℕ) (p : Bool) (t : ti.Timer) (at : Option Ticks)
      → Alike n ts (record { object = Timer t; refcount = r; pulsed = p }) (fired_at (record { object = Timer t; refcount = r; pulsed = p }) t at tick)
  fired-at tick r p t None = alike_same n ts _
  fired-at tick r p t (Some at) =
      pick-both (Alike n ts (record { object = Timer t; refcount = r; pulsed = p })) (leb at.0 tick) _ _
      (alike_of n ts (record { object = Timer t; refcount = r; pulsed = p }) (Timer (fired_timer t at.0 tick)) (p or is_pulse t.reset_type)
      (timer_like n ts t true (due_again at.0 t.interval.0 tick) (λ f. again_fits at.0 t.interval.0 tick)))
      (alike_same n ts _)

  fired-as : (tick : ℕ) (r : ℕ) (p : Bool) (x : KObject)
      → Alike n ts (record { object = x; refcount = r; pulsed = p }) (fired_as (record { object = x; refcount = r; pulsed = p }) x tick)
  fired-as tick r p (Free m) = alike_same n ts _
  fired-as tick r p (Thread u) = alike_same n ts _
  fired-as tick r p (Event e) = alike_same n ts _
  fired-as tick r p (Mutex m) = alike_same n ts _
  fired-as tick r p (Semaphore s) = alike_same n ts _
  fired-as tick r p (Timer t) = fired-at tick r p t t.fire_at
  fired-as tick r p (AddressArbiter a) = alike_same n ts _
  fired-as tick r p Process = alike_same n ts _
  fired-as tick r p ResourceLimit = alike_same n ts _

  pub fired_alike : (tick : ℕ) (x : Slot) → Alike n ts x (fired_slot tick x)
  fired_alike tick x = fired-as tick x.refcount x.pulsed x.object

  pub fire-store : (f : ℕ → ℕ) (s : ObjectStore) (tick : ℕ) → (fire_timers s tick).overflow ≡ false → StoreOk n ts f s → StoreOk n ts f (fire_timers s tick)
  unfolding fire_timers
  fire-store f s tick e h = overflow-store n ts f (with_slots s (map (fired_slot tick) s.slots)) (s.overflow or any_over tick s.slots) e (map-store n ts f s (fired_slot tick) (fired_alike tick) h)

  -- ---- the end of all pulses
  pub unpulsed_alike : (x : Slot) → Alike n ts x (unpulsed_slot x)
  unpulsed_alike x =
      alike_of n ts x (pick x.pulsed (quieted x.object) x.object) false
      (pick-both (Like n ts x.object) x.pulsed (quieted x.object) x.object (quiet-like n ts x.object) (alike_same n ts x).like)

  pub clear-store : (f : ℕ → ℕ) (s : ObjectStore) → StoreOk n ts f s → StoreOk n ts f (clear_pulses s)
  unfolding clear_pulses
  clear-store f s h = map-store n ts f s unpulsed_slot unpulsed_alike h

  -- ---- `catch_up_timers`, whichever threads wait
  lost_alike : (waited : Bool) (x : Slot) → Alike n ts x (lost_slot waited x)
  lost_alike waited x =
      pick-both (Alike n ts x) (x.pulsed and not waited) _ x (alike_of n ts x (lost_object x.object) false (lost_like n ts x.object)) (alike_same n ts x)

  lost_pairs : (ws : List th.Thread) (o : ℕ) (l : List Slot) → Pairs (Alike n ts) l (lost_slots ws o l)
  unfolding lost_slots
  lost_pairs ws o [] = tt
  lost_pairs ws o (x ∷ l) = (lost_alike (waited_sync ws o) x, lost_pairs ws (suc o) l)

  pub lost_store : (f : ℕ → ℕ) (s : ObjectStore) (ws : List th.Thread) (o : ℕ) → StoreOk n ts f s → StoreOk n ts f (with_slots s (lost_slots ws o s.slots))
  lost_store f s ws o h = alike_store n ts f s (lost_slots ws o s.slots) (lost_pairs ws o s.slots) h

  catch_as : (b : Bool) (f : ℕ → ℕ) (s : ObjectStore) (ws : List th.Thread) (tick : ℕ)
      → (pick b (with_slots (fire_timers s tick) (lost_slots ws 1 (fire_timers s tick).slots)) s).overflow ≡ false
      → StoreOk n ts f s → StoreOk n ts f (pick b (with_slots (fire_timers s tick) (lost_slots ws 1 (fire_timers s tick).slots)) s)
  catch_as true f s ws tick e h = lost_store f (fire_timers s tick) ws 1 (fire-store f s tick e h)
  catch_as false f s ws tick e h = h

  pub catch_store : (f : ℕ → ℕ) (s : ObjectStore) (ws : List th.Thread) (tick : ℕ) → (catch_up_timers s ws tick).overflow ≡ false → StoreOk n ts f s → StoreOk n ts f (catch_up_timers s ws tick)
  unfolding catch_up_timers
  catch_store f s ws tick e h = catch_as (timer_due tick s.slots) f s ws tick e h

-- ---- the finding is left alone
pub clear-overflow : (s : ObjectStore) → (clear_pulses s).overflow ≡ s.overflow
unfolding clear_pulses
clear-overflow s = refl

-- ---- as parts of a state
module _ (k : Kernel) (p : Parts k) where
  pub fire_timers-parts : (tick : ℕ) → (fire_timers k.objects tick).overflow ≡ false → Parts (with_threads k k.threads (fire_timers k.objects tick))
  fire_timers-parts tick e =
      store-parts k (fire_timers k.objects tick) (fire-store k.thread_count k.threads (names k.handles k.threads) k.objects tick e (parts-store k p)) p

  pub clear_pulses-parts : Parts (with_threads k k.threads (clear_pulses k.objects))
  clear_pulses-parts = store-parts k (clear_pulses k.objects) (clear-store k.thread_count k.threads (names k.handles k.threads) k.objects (parts-store k p)) p

  pub catch_up_timers-parts : (ws : List th.Thread) (tick : ℕ) → (catch_up_timers k.objects ws tick).overflow ≡ false → Parts (with_threads k k.threads (catch_up_timers k.objects ws tick))
  catch_up_timers-parts ws tick e =
      store-parts k (catch_up_timers k.objects ws tick) (catch_store k.thread_count k.threads (names k.handles k.threads) k.objects ws tick e (parts-store k p)) p
