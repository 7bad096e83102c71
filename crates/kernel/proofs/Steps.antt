-- One turn of each loop. Assumes nothing.
use Rattle.std.specs.Prelude.{Option}
use Rattle.units.specs.declared.Ticks.{Ticks}
use mathlib.Core.Path.{◌≡◌}
use mathlib.Core.List.{List}
use Prim.Native.Nat.{ℕ, ◌+◌, ◌≤◌, ◌<◌}
use native.Mathlib.Numerals.{add-one}
use lib.Dec.{ltb}
use lib.ListN.{length, get_or, drop, drop_of_length-le}
use lib.Seq.{drop-cons}
use Rattle.types.specs.declared.thread.Thread.{Thread}
use Rattle.types.specs.declared.object.Slot.{Slot}
use Rattle.sound.specs.View.{no_thread, no_slot}
use Rattle.kernel.specs.NextEvent.{wake_after, next_wake, due_after}
use Rattle.kernel.specs.Marks.{due_marked}

pub wake-step : (ts : List Thread) (i : ℕ) (best : Option Ticks) → i < length ts
    → next_wake best (drop i ts) ≡ next_wake (wake_after best (get_or ts i no_thread)) (drop (i + 1) ts)
unfolding next_wake
wake-step ts i best h = rw (drop-cons ts i no_thread h, add-one)

pub wake-end : (ts : List Thread) (i : ℕ) (best : Option Ticks) → length ts ≤ i → next_wake best (drop i ts) ≡ best
unfolding next_wake
wake-end ts i best h = rw (drop_of_length-le ts h)

pub due-step : (m : List ℕ) (l : List Slot) (i : ℕ) (best : Option Ticks) → i < length l
    → due_marked m best (i + 1) (drop i l) ≡ due_marked m (due_after (ltb 0 (get_or m (i + 1) 0)) best (get_or l i no_slot)) (i + 1 + 1) (drop (i + 1) l)
unfolding due_marked
due-step m l i best h = rw (drop-cons l i no_slot h, add-one (i + 1), add-one i)

pub due-end : (m : List ℕ) (l : List Slot) (i o : ℕ) (best : Option Ticks) → length l ≤ i → due_marked m best o (drop i l) ≡ best
unfolding due_marked
due-end m l i o best h = rw (drop_of_length-le l h)
