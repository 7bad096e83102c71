-- A list of objects as it is looked over: the first that is signalled, or the first that is not.
use Rattle.std.specs.Prelude.{◌≡◌, refl, Bool, true, false, not, List, [], ◌∷◌, ℕ, ◌+◌, Option, Some, None}
use Rattle.std.proofs.Common.{ap}
use Rattle.laws.specs.Logic.{pick, ◌and◌}
use Rattle.types.specs.declared.thread.Thread as th
use Rattle.types.specs.declared.object.Slot.{Slot}
use Rattle.types.specs.declared.object.ObjectStore.{ObjectStore}
use Rattle.sound.specs.View.{object_at, slot_at}
use Rattle.pass.specs.Signal.{is_signaled}
use Rattle.pass.specs.Waits.{all_signaled, first_signaled, satisfied_at}

-- the place of the first whose signal is as wanted
abbrev pub as_wanted : Bool → Bool → Bool
as_wanted true b = b
as_wanted false b = not b

unfoldable pub first_where : List th.Thread → List Slot → ℕ → Bool → ℕ → List ℕ → Option ℕ
first_where ts l w want i [] = None
first_where ts l w want i (o ∷ os) = pick (as_wanted want (is_signaled ts (slot_at l o).object w)) (Some i)
    (first_where ts l w want (i + 1) os)

abbrev pub none : Option ℕ → Bool
none None = true
none (Some i) = false

pub first-is : (ts : List th.Thread) (s : ObjectStore) (w i : ℕ) (os : List ℕ) → first_where ts s.slots w true i os ≡ first_signaled ts s w i os
unfolding first_where first_signaled
first-is ts s w i [] = refl
first-is ts s w i (o ∷ os) = rw (first-is ts s w (i + 1) os)

pub all-is : (ts : List th.Thread) (s : ObjectStore) (w i : ℕ) (os : List ℕ) → none (first_where ts s.slots w false i os) ≡ all_signaled ts s w os
unfolding first_where all_signaled ◌and◌
all-is ts s w i [] = refl
all-is ts s w i (o ∷ os) = go (is_signaled ts (object_at s o) w) (all-is ts s w (i + 1) os)
  where
    go : (b : Bool) → none (first_where ts s.slots w false (i + 1) os) ≡ all_signaled ts s w os
        → none (pick (not b) (Some i) (first_where ts s.slots w false (i + 1) os)) ≡ b and all_signaled ts s w os
    go true e = e
    go false e = refl

-- a wait for all looks for a place that is not signalled
abbrev pub index_for : Bool → Option ℕ → Option ℕ
index_for true first = pick (none first) (Some 0) None
index_for false first = first

pub index_is : (ts : List th.Thread) (s : ObjectStore) (w : ℕ) (all : Bool) (os : List ℕ) → index_for all (first_where ts s.slots w (not all) 0 os) ≡ satisfied_at ts s w all os
index_is ts s w true os = ap (λ b. pick b (Some 0) None) (all-is ts s w 0 os)
index_is ts s w false os = first-is ts s w 0 os

-- ---- an object's signal for a thread, with the look at its slot x and at the thread y that it names
