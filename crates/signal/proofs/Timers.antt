-- One turn of `fire_timers`, and of the loss of pulses in `catch_up_timers`. Assumes nothing.
use Rattle.std.specs.Prelude.{Option, Some, None}
use Rattle.units.specs.declared.Ticks.{Ticks}
use mathlib.Core.Path.{◌≡◌, refl, ap, sym, ◌∙◌}
use mathlib.Core.Bool.{Bool, true, false}
use mathlib.Core.List.{List}
use Prim.Native.Nat.{ℕ, ◌≤◌}
use native.Mathlib.Omega.{arith}
use lib.ListN.{length, replicate}
use Rattle.laws.specs.Logic.{◌and◌, pick_yes}
use Rattle.laws.specs.All.{All}
use Rattle.laws.specs.Tally.{tally_all}
use Rattle.types.specs.declared.object.KObject.{KObject}
use Rattle.types.specs.declared.object.KObject.TheVariants.{Free, Event, Mutex, Semaphore, Timer, AddressArbiter, Process, ResourceLimit}
use Rattle.types.specs.declared.object.KObject.TheVariants as kind
use Rattle.types.specs.declared.thread.Thread.{Thread}
use Rattle.types.specs.declared.sync.Timer as ti
use Rattle.types.specs.declared.object.Slot.{Slot}
use Rattle.types.specs.declared.object.ObjectStore.{ObjectStore}
use Rattle.types.specs.Thread.{wait_list}
use Rattle.object.specs.Slots.{with_slots}
use Rattle.kernel.specs.NextEvent.{due_of}
use Rattle.pass.specs.Timers.{due_by, fired_at, fired_as, over_at, over_of, fire_timers, timer_due, lost_slot, lost_slots, catch_up_timers}
use Rattle.signal.specs.Marks.{sync_lists, lost_marked, lost_is}

-- ---- what is not due yet
at_same : (s : Slot) (t : ti.Timer) (at : Option Ticks) (tick : ℕ) → due_by at tick ≡ false → fired_at s t at tick ≡ s
at_same s t None tick e = refl
at_same s t (Some at) tick e = rw e

pub fired-same : (s : Slot) (x : KObject) (tick : ℕ) → due_by (due_of x) tick ≡ false → fired_as s x tick ≡ s
fired-same s (Free n) tick e = refl
fired-same s (kind.Thread u) tick e = refl
fired-same s (Event v) tick e = refl
fired-same s (Mutex m) tick e = refl
fired-same s (Semaphore x) tick e = refl
fired-same s (Timer t) tick e = at_same s t t.fire_at tick e
fired-same s (AddressArbiter a) tick e = refl
fired-same s Process tick e = refl
fired-same s ResourceLimit tick e = refl

at-fits : (at : Option Ticks) (interval tick : ℕ) → due_by at tick ≡ false → over_at at interval tick ≡ false
unfolding ◌and◌
at-fits None interval tick e = refl
at-fits (Some at) interval tick e = rw e

pub over_none : (x : KObject) (tick : ℕ) → due_by (due_of x) tick ≡ false → over_of x tick ≡ false
over_none (Free n) tick e = refl
over_none (kind.Thread u) tick e = refl
over_none (Event v) tick e = refl
over_none (Mutex m) tick e = refl
over_none (Semaphore x) tick e = refl
over_none (Timer t) tick e = at-fits t.fire_at t.interval.0 tick e
over_none (AddressArbiter a) tick e = refl
over_none Process tick e = refl
over_none ResourceLimit tick e = refl

-- ---- a pulse that is not there is not lost
pub lost_same : (waited : Bool) (s : Slot) → s.pulsed ≡ false → lost_slot waited s ≡ s
unfolding ◌and◌
lost_same waited s e = rw e

-- ---- by the marks, those that no thread waits on
module _ (s : ObjectStore) (ts : List Thread) (tick : ℕ) where
  pub caught : timer_due tick s.slots ≡ true → length ts ≡ 32 → All (λ l. length l ≤ wait_list) (sync_lists ts)
      → (f : ObjectStore) → f ≡ fire_timers s tick → length f.slots ≡ 128
      → (m : List ℕ) → m ≡ tally_all 129 (replicate 129 0) (sync_lists ts) → with_slots f (lost_marked m 1 f.slots) ≡ catch_up_timers s ts tick
  unfolding catch_up_timers
  caught due n a f e l m g =
      ap (λ z. with_slots f z) (ap (λ z. lost_marked z 1 f.slots) g ∙ lost_is ts n a 1 f.slots (omega arith))
      ∙ ap (λ z. with_slots z (lost_slots ts 1 z.slots)) e
      ∙ sym (pick_yes (timer_due tick s.slots) (with_slots (fire_timers s tick) (lost_slots ts 1 (fire_timers s tick).slots)) s due)
