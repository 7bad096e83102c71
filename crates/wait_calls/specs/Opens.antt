-- A list of handles, before the wait and opened in the block. Assumes nothing.
use Rattle.std.specs.Prelude.{◌≡◌, Bool, true, false, not, List, map, ℕ, length, take, Option, Some, None}
use Rattle.laws.specs.Logic.{pick}
use Rattle.units.specs.declared.ObjectId.{ObjectId}
use Rattle.types.specs.declared.object.ObjectStore.{ObjectStore}
use Rattle.types.specs.declared.kernel.Kernel.{Kernel}
use Rattle.types.specs.Thread.{wait_list}
use Rattle.block.specs.Block.{dec_block}
use Rattle.sound.specs.Question.{sound?}
use Rattle.kernel.specs.NextEvent.{contains}
use Rattle.pass.specs.Asks.{padded, open_object}
use Rattle.pass.specs.Timers.{timer_due}
use Rattle.svc.specs.Call.{with_objects}
use Rattle.svc.specs.Timers.{caught_up}
use Rattle.svc.specs.Waits.{resolve_all, resolve_store}
use Rattle.lent.specs.Operations.{out_of_handles?}

abbrev pub objects_of : Kernel → List ℕ → List ℕ
objects_of k hs = resolve_all k.current_thread k.handles k.objects hs

abbrev pub store_of : Kernel → List ℕ → ObjectStore
store_of k hs = resolve_store k.current_thread k.handles k.objects hs

-- opened from the state k on; e is the block afterwards
pub record Opens (k : Kernel) (hs : List ℕ) (e : List ℕ) (o : Option (List ObjectId)) : Type 0 where
  pub sound : sound? e ≡ true
  pub state : dec_block e ≡ with_objects k (store_of k hs)
  -- none where a handle is unknown
  pub objects : o ≡ pick (contains (objects_of k hs) 0) None (Some (padded wait_list (objects_of k hs)))

-- what is known of the first n words before the first write: nothing is found until the wait takes objects
pub record Ready (k : Kernel) (words : List ℕ) (n : ℕ) (l : List ObjectId) (known fires : Bool) (tick : ℕ) : Type 0 where
  pub size : length words ≡ wait_list
  pub objects : l ≡ padded wait_list (map (open_object k) (take n words))
  pub looked : known ≡ not (contains (map (open_object k) (take n words)) 0)
  pub due : fires ≡ timer_due tick k.objects.slots
  pub fits : (caught_up k tick).objects.overflow ≡ false
  pub handles : out_of_handles? k ≡ false
  pub room : (store_of (caught_up k tick) (take n words)).full ≡ false
