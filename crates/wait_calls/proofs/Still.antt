-- Catching up with the timers changes nothing but timers. Assumes nothing.
use Rattle.std.specs.Prelude.{Option, Some, None}
use Rattle.units.specs.declared.Ticks.{Ticks}
use mathlib.Core.Path.{◌≡◌, refl, sym, ap, ◌∙◌}
use mathlib.Core.Bool.{Bool, true, false, not}
use mathlib.Core.List.{List, [], ◌∷◌, map}
use Prim.Native.Nat.{ℕ, zero, suc}
use lib.Dec.{leb}
use lib.ListN.{get_or, get_or-map}
use Rattle.laws.specs.Logic.{pick, ◌and◌, ◌or◌}
use Rattle.types.specs.declared.thread.Thread as th
use Rattle.types.specs.declared.sync.Timer as ti
use Rattle.types.specs.declared.object.KObject.{KObject}
use Rattle.types.specs.declared.object.KObject.TheVariants.{Free, Thread, Event, Mutex, Semaphore, Timer, AddressArbiter, Process, ResourceLimit}
use Rattle.types.specs.declared.object.Slot.{Slot}
use Rattle.types.specs.declared.object.ObjectStore.{ObjectStore}
use Rattle.sound.specs.View.{no_slot, slot_at, object_at}
use Rattle.pass.specs.Signal.{is_pulse, waited_sync}
use Rattle.pass.specs.Timers.{fired_timer, fired_at, fired_as, fired_slot, fire_timers, timer_due, lost_object, lost_slot, lost_slots, catch_up_timers}

-- an object with its timer left out
abbrev untimed : KObject → KObject
untimed (Free n) = Free n
untimed (Thread u) = Thread u
untimed (Event e) = Event e
untimed (Mutex m) = Mutex m
untimed (Semaphore s) = Semaphore s
untimed (Timer t) = Process
untimed (AddressArbiter a) = AddressArbiter a
untimed Process = Process
untimed ResourceLimit = ResourceLimit

-- ---- a timer that fires
fired-at : (s : Slot) (t : ti.Timer) (at : Option Ticks) (tick : ℕ) → untimed s.object ≡ Process → untimed (fired_at s t at tick).object ≡ Process
fired-at s t None tick e = e
fired-at s t (Some at) tick e = go (leb at.0 tick)
  where
    go : (b : Bool) → untimed (pick b (record { object = Timer (fired_timer t at.0 tick); refcount = s.refcount; pulsed = s.pulsed or is_pulse t.reset_type }) s).object ≡ Process
    go true = refl
    go false = e

fired-as : (s : Slot) (x : KObject) (tick : ℕ) → s.object ≡ x → untimed (fired_as s x tick).object ≡ untimed x
fired-as s (Free n) tick e = ap untimed e
fired-as s (Thread u) tick e = ap untimed e
fired-as s (Event v) tick e = ap untimed e
fired-as s (Mutex m) tick e = ap untimed e
fired-as s (Semaphore x) tick e = ap untimed e
fired-as s (Timer t) tick e = fired-at s t t.fire_at tick (ap untimed e)
fired-as s (AddressArbiter a) tick e = ap untimed e
fired-as s Process tick e = ap untimed e
fired-as s ResourceLimit tick e = ap untimed e

-- ---- a pulse that is lost
lost-object : (x : KObject) → untimed (lost_object x) ≡ untimed x
lost-object (Free n) = refl
lost-object (Thread u) = refl
lost-object (Event e) = refl
lost-object (Mutex m) = refl
lost-object (Semaphore s) = refl
lost-object (Timer t) = refl
lost-object (AddressArbiter a) = refl
lost-object Process = refl
lost-object ResourceLimit = refl

lost-slot : (waited : Bool) (s : Slot) → untimed (lost_slot waited s).object ≡ untimed s.object
lost-slot waited s = go (s.pulsed and not waited)
  where
    go : (b : Bool) → untimed (pick b (record { object = lost_object s.object; refcount = s.refcount; pulsed = false }) s).object ≡ untimed s.object
    go true = lost-object s.object
    go false = refl

-- ---- the slots
abbrev still : Slot → KObject
still s = untimed s.object

fired-all : (tick : ℕ) (l : List Slot) → map still (map (fired_slot tick) l) ≡ map still l
fired-all tick [] = refl
fired-all tick (s ∷ ss) = λ i. fired-as s s.object tick refl i ∷ fired-all tick ss i

lost_all : (ts : List th.Thread) (o : ℕ) (l : List Slot) → map still (lost_slots ts o l) ≡ map still l
unfolding lost_slots
lost_all ts o [] = refl
lost_all ts o (s ∷ ss) = λ i. lost-slot (waited_sync ts o) s i ∷ lost_all ts (suc o) ss i

caught-all : (s : ObjectStore) (ts : List th.Thread) (tick : ℕ) → map still (catch_up_timers s ts tick).slots ≡ map still s.slots
unfolding catch_up_timers fire_timers
caught-all s ts tick = go (timer_due tick s.slots) refl
  where
    go : (b : Bool) → timer_due tick s.slots ≡ b → map still (catch_up_timers s ts tick).slots ≡ map still s.slots
    go true e = rw e (lost_all ts 1 (map (fired_slot tick) s.slots) ∙ fired-all tick s.slots)
    go false e = rw e

-- the object at a number
at-number : (l m : List Slot) → map still l ≡ map still m → (o : ℕ) → still (slot_at l o) ≡ still (slot_at m o)
unfolding slot_at
at-number l m e zero = refl
at-number l m e (suc i) = sym (get_or-map still l i no_slot) ∙ ap (λ (z : List KObject). get_or z i (still no_slot)) e ∙ get_or-map still m i no_slot

untimed-same : {A : Type 0} (f : KObject → A) → ((t : ti.Timer) → f Process ≡ f (Timer t)) → (x : KObject) → f (untimed x) ≡ f x
untimed-same f e (Free n) = refl
untimed-same f e (Thread u) = refl
untimed-same f e (Event v) = refl
untimed-same f e (Mutex m) = refl
untimed-same f e (Semaphore s) = refl
untimed-same f e (Timer t) = e t
untimed-same f e (AddressArbiter a) = refl
untimed-same f e Process = refl
untimed-same f e ResourceLimit = refl

-- what f tells of an object is the same after, if it tells nothing of timers
pub caught-same : {A : Type 0} (f : KObject → A) → ((t : ti.Timer) → f Process ≡ f (Timer t)) → (s : ObjectStore) (ts : List th.Thread) (tick o : ℕ) → f (object_at (catch_up_timers s ts tick) o) ≡ f (object_at s o)
caught-same f e s ts tick o =
    sym (untimed-same f e (object_at (catch_up_timers s ts tick) o)) ∙ ap f (at-number (catch_up_timers s ts tick).slots s.slots (caught-all s ts tick) o) ∙ untimed-same f e (object_at s o)
