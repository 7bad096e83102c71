-- A kernel as it starts (`Kernel::new` of mod.rs): no threads, no objects, no handles; the free chains run 1, 2, 3 ..
use Rattle.std.specs.Prelude.{false, List, [], ◌∷◌, ℕ, zero, suc, ◌+◌, eqb, replicate, None}
use Rattle.laws.specs.Logic.{pick}
use Rattle.types.specs.declared.thread.ThreadStatus.TheVariants.{Dead}
use Rattle.types.specs.declared.thread.Thread.{Thread}
use Rattle.types.specs.declared.object.KObject.TheVariants.{Free}
use Rattle.types.specs.declared.object.Slot.{Slot}
use Rattle.types.specs.declared.object.Waiter.{Waiter}
use Rattle.types.specs.declared.object.ObjectStore.{ObjectStore}
use Rattle.types.specs.declared.object.HandleTable.{HandleTable}
use Rattle.types.specs.declared.kernel.Kernel.{Kernel}
use Rattle.types.specs.Thread.{wait_list}

-- n cells in a row, each naming the next, the first of them k; the last names 0
unfoldable pub in_row : {A : Type 0} → (ℕ → A) → ℕ → ℕ → List A
in_row cell zero k = []
in_row cell (suc n) k = cell (pick (eqb n 0) 0 k) ∷ in_row cell n (k + 1)

abbrev pub free_slot : ℕ → Slot
free_slot n = record { object = Free n; refcount = 0; pulsed = false }

unfoldable pub free_slots : List Slot
free_slots = in_row free_slot 128 2

abbrev pub free_waiter : ℕ → Waiter
free_waiter n = record { thread = 0; address = 0; next = n }

unfoldable pub free_waiters : List Waiter
free_waiters = in_row free_waiter 64 2

-- a place not in use
abbrev pub blank_thread : Thread
blank_thread = record {
  status = Dead;
  priority = 0;
  entry = 0;
  stack_top = 0;
  tls = 0;
  processor_id = 0;
  wait_objects = replicate wait_list (record { 0 = 0 });
  wait_count = 0;
  wait_all = false;
  wakeup_at = None;
  running_since = record { 0 = 0 };
  waited = false;
  wait_address = None;
  wait_result = None;
  wait_syscall = None;
  guest_id = 0;
}

abbrev pub fresh_objects : ObjectStore
fresh_objects = record {
  slots = free_slots;
  free = 1;
  waiters = free_waiters;
  free_waiter = 1;
  thread_objects = replicate 32 (record { 0 = 0 });
  process_object = record { 0 = 0 };
  full = false;
  overflow = false;
}

abbrev pub fresh_handles : HandleTable
fresh_handles = record { entries = replicate 256 (record { handle = record { 0 = 0 }; object = record { 0 = 0 } }); count = 0; next = record { 0 = 0x10000 }; full = false; overflow = false }

-- w is the status word that new threads start with
unfoldable pub fresh : ℕ → Kernel
fresh w = record {
  status_word = w;
  objects = fresh_objects;
  handles = fresh_handles;
  threads = replicate 32 blank_thread;
  thread_count = 0;
  current_thread = None;
  next_tls_slot = 0;
  next_guest_id = 0;
  all_blocked = false;
  relief = false;
  full = false;
  overflow = false;
}
