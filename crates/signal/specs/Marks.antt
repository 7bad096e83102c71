-- `catch_up_timers` as it is computed: the objects that threads wait on are marked in an array.
use Rattle.std.specs.Prelude.{◌≡◌, ℕ, suc, ◌+◌, ◌≤◌, ◌<◌, ltb, length, get_or, replicate}
use Rattle.std.proofs.Math.Path.{refl}
use mathlib.Core.List.{List, [], ◌∷◌, map}
use Rattle.std.proofs.Common.{arith}
use Rattle.laws.specs.All.{All}
use Rattle.laws.specs.Tally.{tally_all}
use Rattle.types.specs.declared.thread.Thread.{Thread}
use Rattle.types.specs.declared.object.Slot.{Slot}
use Rattle.types.specs.Thread.{wait_list}
use Rattle.kernel.specs.Marks.{list_by, marks_tell}
use Rattle.pass.specs.Signal.{waits_sync, waited_sync}
use Rattle.pass.specs.Timers.{lost_slot, lost_slots}

-- the list of a thread, if it waits on objects
abbrev pub sync_list : Thread → List ℕ
sync_list t = list_by waits_sync t

abbrev pub sync_lists : List Thread → List (List ℕ)
sync_lists ts = map sync_list ts

-- the slots from object o on
unfoldable pub lost_marked : List ℕ → ℕ → List Slot → List Slot
lost_marked m o [] = []
lost_marked m o (s ∷ ss) = lost_slot (ltb 0 (get_or m o 0)) s ∷ lost_marked m (suc o) ss

module _ (ts : List Thread) (n : length ts ≡ 32) (a : All (λ l. length l ≤ wait_list) (sync_lists ts)) where
  marked : (o : ℕ) → o < 129 → ltb 0 (get_or (tally_all 129 (replicate 129 0) (sync_lists ts)) o 0) ≡ waited_sync ts o
  unfolding waited_sync
  marked o h = marks_tell waits_sync waited_sync (λ o. refl) (λ t ts o. refl) ts n a o h

  pub lost_is : (o : ℕ) (l : List Slot) → o + length l ≤ 129 → lost_marked (tally_all 129 (replicate 129 0) (sync_lists ts)) o l ≡ lost_slots ts o l
  unfolding lost_marked lost_slots
  lost_is o [] h = refl
  lost_is o (s ∷ ss) h = rw (marked o (omega arith), lost_is (suc o) ss (omega arith))
