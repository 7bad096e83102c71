-- What the guest calls of svc.rs have in common.
use Rattle.std.specs.Prelude.{Bool, ℕ, ◌+◌, ◌*◌, ltb, Some, None}
use Rattle.types.specs.declared.object.KObject.{KObject}
use Rattle.types.specs.declared.object.HandleTable.{HandleTable}
use Rattle.types.specs.declared.object.ObjectStore.{ObjectStore}
use Rattle.types.specs.declared.kernel.Kernel.{Kernel}
use Rattle.object.specs.declared.kept.Resolved.{Resolved}
use Rattle.object.specs.Store.{insert}
use Rattle.object.specs.Handles.{give}
use Rattle.object.specs.Kept.{resolve}
use Rattle.thread.specs.Threads.{with_threads}
use Rattle.svc.specs.declared.Served.{Served}

-- ---- what a call leaves
-- done: r0 gets 0
abbrev pub done : Kernel → Served
done k = record { kernel = k; answer = 0; r0 = Some 0; r1 = None; word = None }

-- done, and r1 gets v
abbrev pub gives : Kernel → ℕ → Served
gives k v = record { kernel = k; answer = 0; r0 = Some 0; r1 = Some v; word = None }

-- the answer n, which r0 gets too
abbrev pub answers : ℕ → Kernel → Served
answers n k = record { kernel = k; answer = n; r0 = Some n; r1 = None; word = None }

-- no register is written
abbrev pub silent : Kernel → Served
silent k = record { kernel = k; answer = 0; r0 = None; r1 = None; word = None }

-- the answers: a handle unknown or of the wrong kind, a time-out of 0 not satisfied, an unknown kind of arbitration
abbrev pub invalid_handle : ℕ
invalid_handle = 16

abbrev pub timeout : ℕ
timeout = 17

abbrev pub invalid_enum_value : ℕ
invalid_enum_value = 18

-- ---- parts of the kernel anew
abbrev pub with_objects : Kernel → ObjectStore → Kernel
with_objects k s = with_threads k k.threads s

abbrev pub with_handles : Kernel → HandleTable → ObjectStore → Kernel
with_handles k t s = record {
  status_word = k.status_word;
  objects = s;
  handles = t;
  threads = k.threads;
  thread_count = k.thread_count;
  current_thread = k.current_thread;
  next_tls_slot = k.next_tls_slot;
  next_guest_id = k.next_guest_id;
  all_blocked = k.all_blocked;
  relief = k.relief;
  full = k.full;
  overflow = k.overflow;
}

-- question 8: a sum of the call does not fit its type
abbrev pub with_over : Kernel → Bool → Kernel
with_over k b = record {
  status_word = k.status_word;
  objects = k.objects;
  handles = k.handles;
  threads = k.threads;
  thread_count = k.thread_count;
  current_thread = k.current_thread;
  next_tls_slot = k.next_tls_slot;
  next_guest_id = k.next_guest_id;
  all_blocked = k.all_blocked;
  relief = k.relief;
  full = k.full;
  overflow = b;
}

-- ---- two registers as a number of 64 bits
abbrev pub pair : ℕ → ℕ → ℕ
pair low high = low + high * 4294967296

-- below 0 as a signed number of 64 bits
abbrev pub negative : ℕ → Bool
negative n = ltb 9223372036854775807 n

-- ---- handles
-- the object that a handle names, 0 if none; that of a pseudo-handle may be made on the way
abbrev pub resolved : Kernel → ℕ → Resolved
resolved k h = resolve k.current_thread k.handles k.objects h

-- a new object with a handle, which r1 gets
unfoldable pub create_object : Kernel → KObject → Served
create_object k v = gives (with_handles k (give k.handles k.objects.free) (insert k.objects v)) k.handles.next.0
