-- Firing moves the clock of every timer as `fired_due` says, in a pass and where a call catches up.
use Rattle.units.specs.declared.Ticks.{Ticks}
use Rattle.std.specs.Prelude.{◌≡◌, Bool, true, false, not, List, [], ◌∷◌, map, ℕ, zero, suc, leb, get_or, Option, Some}
use Rattle.std.specs.Prelude.{None}
use Rattle.std.proofs.Math.Path.{refl, ap}
use Rattle.std.proofs.Common.{sym, ◌∙◌}
use Rattle.std.proofs.Math.ListN.{get_or-map}
use Rattle.laws.specs.Logic.{pick, ◌and◌, ◌or◌, or-false, pick_no}
use Rattle.types.specs.declared.thread.Thread as th
use Rattle.types.specs.declared.sync.Timer as ti
use Rattle.types.specs.declared.object.KObject.{KObject}
use Rattle.types.specs.declared.object.KObject.TheVariants.{Free, Thread, Event, Mutex, Semaphore, Timer, AddressArbiter, Process, ResourceLimit}
use Rattle.types.specs.declared.object.Slot.{Slot}
use Rattle.types.specs.declared.object.ObjectStore.{ObjectStore}
use Rattle.types.specs.Object.{kind_number}
use Rattle.sound.specs.View.{no_slot, slot_at, object_at}
use Rattle.kernel.specs.NextEvent.{due_of}
use Rattle.object.specs.Slots.{with_slots}
use Rattle.soundness.specs.Slots.{pick-both}
use Rattle.pass.specs.Signal.{waited_sync, is_pulse}
use Rattle.pass.specs.Timers.{due_by, fired_timer, fired_at, fired_as, fired_slot, fire_timers, timer_due, lost_object, lost_slot, lost_slots, catch_up_timers}
use Rattle.timing.specs.Grid.{fired_due, fired_dues}
use Rattle.timing.specs.Clock.{Clock, clock_of, clock_at, clock_in}

-- ---- the clock after timers were fired at a tick
abbrev pub fired_clock : ℕ → Clock → Clock
fired_clock tick c = record { kind = c.kind; due = fired_due c.interval tick c.due; interval = c.interval }

-- at each tick of a list
unfoldable pub fired_clocks : List ℕ → Clock → Clock
fired_clocks [] c = c
fired_clocks (tick ∷ ticks) c = fired_clocks ticks (fired_clock tick c)

pub clocks_due : (ticks : List ℕ) (c : Clock) → fired_clocks ticks c ≡ record { kind = c.kind; due = fired_dues c.interval ticks c.due; interval = c.interval }
unfolding fired_clocks fired_dues
clocks_due [] c = refl
clocks_due (tick ∷ ticks) c = clocks_due ticks (fired_clock tick c)

-- ---- every slot at once
map_at : (g : Slot → Slot) → g no_slot ≡ no_slot → (l : List Slot) (o : ℕ) → slot_at (map g l) o ≡ g (slot_at l o)
unfolding slot_at
map_at g e l zero = sym e
map_at g e l (suc i) = ap (λ (d : Slot). get_or (map g l) i d) (sym e) ∙ get_or-map g l i no_slot

-- ---- `fire_timers`
module _ (tick : ℕ) where
  fired-at : (r : ℕ) (p : Bool) (t : ti.Timer) (at : Option Ticks) → t.fire_at ≡ at
      → clock_in (fired_at (record { object = Timer t; refcount = r; pulsed = p }) t at tick) ≡ record { kind = kind_number (Timer t); due = fired_due t.interval.0 tick at; interval = t.interval.0 }
  fired-at r p t None e = ap (λ (d : Option Ticks). record {
    kind = kind_number
        (Timer t);
    due = d;
    interval = t.interval.0;
  }) e
  fired-at r p t (Some at) e = go (leb at.0 tick)
    where
      go : (b : Bool)
          → clock_in (pick b (record { object = Timer (fired_timer t at.0 tick); refcount = r; pulsed = p or is_pulse t.reset_type }) (record { object = Timer t; refcount = r; pulsed = p }))
          ≡ record {
            kind = kind_number (Timer t);
            due = pick b (fired_timer t at.0 tick).fire_at
                (Some at);
            interval = t.interval.0;
          }
      go true = refl
      go false = ap (λ (d : Option Ticks). record { kind = kind_number (Timer t); due = d; interval = t.interval.0 }) e

  fired-as : (r : ℕ) (p : Bool) (x : KObject) → clock_in (fired_as (record { object = x; refcount = r; pulsed = p }) x tick) ≡ fired_clock tick (clock_of x)
  fired-as r p (Free n) = refl
  fired-as r p (Thread u) = refl
  fired-as r p (Event e) = refl
  fired-as r p (Mutex m) = refl
  fired-as r p (Semaphore s) = refl
  fired-as r p (Timer t) = fired-at r p t t.fire_at refl
  fired-as r p (AddressArbiter a) = refl
  fired-as r p Process = refl
  fired-as r p ResourceLimit = refl

  pub fired-clock : (x : Slot) → clock_of (fired_slot tick x).object ≡ fired_clock tick (clock_of x.object)
  fired-clock x = fired-as x.refcount x.pulsed x.object

  pub fire-clock : (s : ObjectStore) (o : ℕ) → clock_at (fire_timers s tick) o ≡ fired_clock tick (clock_at s o)
  unfolding fire_timers
  fire-clock s o = ap clock_in (map_at (fired_slot tick) refl s.slots o) ∙ fired-clock (slot_at s.slots o)

-- ---- `catch_up_timers` fires too, if any timer is due; what it loses is no part of a clock
pub lost-object : (x : KObject) → clock_of (lost_object x) ≡ clock_of x
lost-object (Free n) = refl
lost-object (Thread u) = refl
lost-object (Event e) = refl
lost-object (Mutex m) = refl
lost-object (Semaphore s) = refl
lost-object (Timer t) = refl
lost-object (AddressArbiter a) = refl
lost-object Process = refl
lost-object ResourceLimit = refl

lost-slot : (waited : Bool) (x : Slot) → clock_in (lost_slot waited x) ≡ clock_in x
lost-slot waited x = pick-both (λ (y : Slot). clock_in y ≡ clock_in x) (x.pulsed and not waited) _ x (lost-object x.object) refl

lost-slots : (ts : List th.Thread) (n : ℕ) (l : List Slot) (o : ℕ) → clock_in (slot_at (lost_slots ts n l) o) ≡ clock_in (slot_at l o)
unfolding lost_slots slot_at
lost-slots ts n l zero = refl
lost-slots ts n [] (suc i) = refl
lost-slots ts n (x ∷ l) (suc zero) = lost-slot (waited_sync ts n) x
lost-slots ts n (x ∷ l) (suc (suc i)) = lost-slots ts (suc n) l (suc i)

not-due : (tick : ℕ) (l : List Slot) → timer_due tick l ≡ false → (o : ℕ) → due_by (due_of (slot_at l o).object) tick ≡ false
unfolding timer_due slot_at
not-due tick l e zero = refl
not-due tick [] e (suc i) = refl
not-due tick (x ∷ l) e (suc zero) = (or-false (due_by (due_of x.object) tick) (timer_due tick l) e).0
not-due tick (x ∷ l) e (suc (suc i)) = not-due tick l (or-false (due_by (due_of x.object) tick) (timer_due tick l) e).1 (suc i)

unfired : (B tick : ℕ) (due : Option Ticks) → due_by due tick ≡ false → fired_due B tick due ≡ due
unfired B tick None e = refl
unfired B tick (Some at) e = pick_no (leb at.0 tick) _ (Some at) e

unfired-clock : (tick : ℕ) (x : KObject) → due_by (due_of x) tick ≡ false → clock_of x ≡ fired_clock tick (clock_of x)
unfired-clock tick x e =
    let c : Clock = clock_of x in
    ap (λ (d : Option Ticks). record { kind = c.kind; due = d; interval = c.interval })
    (sym (unfired c.interval tick c.due e))

catch_as : (b : Bool) (s : ObjectStore) (ts : List th.Thread) (tick o : ℕ) → timer_due tick s.slots ≡ b
    → clock_at (pick b (with_slots (fire_timers s tick) (lost_slots ts 1 (fire_timers s tick).slots)) s) o ≡ fired_clock tick (clock_at s o)
catch_as true s ts tick o e = lost-slots ts 1 (fire_timers s tick).slots o ∙ fire-clock tick s o
catch_as false s ts tick o e = unfired-clock tick (object_at s o) (not-due tick s.slots e o)

pub catch_clock : (s : ObjectStore) (ts : List th.Thread) (tick o : ℕ) → clock_at (catch_up_timers s ts tick) o ≡ fired_clock tick (clock_at s o)
unfolding catch_up_timers
catch_clock s ts tick o = catch_as (timer_due tick s.slots) s ts tick o refl
