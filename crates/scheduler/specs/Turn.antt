-- What a pass chooses, and the state that it is put into.
use Rattle.std.specs.Prelude.{◌≡◌, Bool, List, ℕ, Option}
use Rattle.types.specs.declared.thread.Thread.{Thread}
use Rattle.types.specs.declared.object.ObjectStore.{ObjectStore}
use Rattle.types.specs.declared.kernel.Kernel.{Kernel}
use Rattle.pass.specs.declared.Passed.{Passed}
use Rattle.pass.specs.Schedule.{scheduled, choose}
use Rattle.scheduler.specs.declared.choose.Turned.{Turned}

-- a state in which c runs, with this relief
abbrev pub turning : Kernel → Option ℕ → Bool → Kernel
turning k c relief = record {
  status_word = k.status_word;
  objects = k.objects;
  handles = k.handles;
  threads = k.threads;
  thread_count = k.thread_count;
  current_thread = c;
  next_tls_slot = k.next_tls_slot;
  next_guest_id = k.next_guest_id;
  all_blocked = k.all_blocked;
  relief = relief;
  full = k.full;
  overflow = k.overflow;
}

abbrev pub passed : Kernel → ObjectStore → Turned → Passed
passed k s t = record { kernel = scheduled k s t.threads t.current t.relief; saved = t.saved; restored = t.restored; switched = t.switched }

-- in every state it is the choice of the definition
abbrev pub Chooses : List Thread → Option ℕ → Bool → ℕ → Turned → Type 0
Chooses ts c relief tick r = (k : Kernel) (s : ObjectStore) → passed (turning k c relief) s r ≡ choose (turning k c relief) (record { objects = s; threads = ts }) tick
