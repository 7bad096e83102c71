-- Slots caught up with one by one, and whether a count of periods does not fit. Assumes nothing.
use mathlib.Core.Path.{◌≡◌, refl, sym, ap, ◌∙◌}
use mathlib.Core.Bool.{Bool, true, false}
use mathlib.Core.List.{List, [], ◌∷◌, map}
use Prim.Native.Nat.{ℕ, suc}
use lib.Dec.{ltb}
use lib.ListN.{get_or}
use Rattle.laws.specs.Logic.{◌or◌, or_no, or-false}
use Rattle.types.specs.declared.thread.Thread.{Thread}
use Rattle.types.specs.declared.object.Slot.{Slot}
use Rattle.types.specs.declared.object.ObjectStore.{ObjectStore}
use Rattle.sound.specs.View.{no_slot}
use Rattle.kernel.specs.NextEvent.{due_of}
use Rattle.pass.specs.Timers.{due_by, fired_slot, any_over, fire_timers, timer_due, lost_slot, catch_up_timers}
use Rattle.rows.specs.Mapped.{map_from}
use Rattle.signal.specs.Marks.{lost_marked}
use Rattle.signal.proofs.Timers.{fired-same, over_none, lost_same}

-- ---- a count that does not fit is that of a timer that is due
none_over : (tick : ℕ) (l : List Slot) → timer_due tick l ≡ false → any_over tick l ≡ false
unfolding timer_due any_over
none_over tick [] e = refl
none_over tick (s ∷ ss) e =
    let d = or-false (due_by (due_of s.object) tick) (timer_due tick ss) e in
    or_no _ _ (over_none s.object tick d.0) ∙ none_over tick ss d.1

module _ (s : ObjectStore) (ts : List Thread) (tick : ℕ) (c : s.overflow ≡ false) where
  over-as : (t : Bool) → timer_due tick s.slots ≡ t → (catch_up_timers s ts tick).overflow ≡ any_over tick s.slots
  unfolding catch_up_timers fire_timers
  over-as true e = rw e (or_no s.overflow (any_over tick s.slots) c)
  over-as false e = rw e (c ∙ sym (none_over tick s.slots e))

  pub over-is : (catch_up_timers s ts tick).overflow ≡ any_over tick s.slots
  over-is = over-as (timer_due tick s.slots) refl

-- ---- by the marks m
module _ (m : List ℕ) (tick : ℕ) where
  -- of object o
  abbrev pub caught_slot : ℕ → Slot → Slot
  caught_slot o s = lost_slot (ltb 0 (get_or m o 0)) (fired_slot tick s)

  -- neither due nor pulsed
  pub caught-same : (o : ℕ) (s : Slot) → s.pulsed or due_by (due_of s.object) tick ≡ false → caught_slot o s ≡ s
  caught-same o s e =
      let d = or-false s.pulsed (due_by (due_of s.object) tick) e in
      ap (lost_slot (ltb 0 (get_or m o 0))) (fired-same s s.object tick d.1) ∙ lost_same (ltb 0 (get_or m o 0)) s d.0

  -- every one, from object n + 1 on
  pub caught-from : (n : ℕ) (l : List Slot) → map_from no_slot (λ i. caught_slot (suc i)) n l ≡ lost_marked m (suc n) (map (fired_slot tick) l)
  unfolding map_from lost_marked
  caught-from n [] = refl
  caught-from n (s ∷ ss) = ap (λ x. caught_slot (suc n) s ∷ x) (caught-from (suc n) ss)
