-- The state once a thread that waits for nothing has ended.
use Rattle.std.specs.Prelude.{set}
use Prim.Native.Nat.{ℕ}
use Rattle.types.specs.declared.kernel.Kernel.{Kernel}
use Rattle.sound.specs.View.{thread_at}
use Rattle.thread.specs.Threads.{disown, ended, left_by}

-- ---- a thread that waits for nothing ends
abbrev pub killed : Kernel → ℕ → Kernel
killed k t = record {
  status_word = k.status_word;
  objects = disown k.objects t;
  handles = k.handles;
  threads = set k.threads t (ended (thread_at k.threads t));
  thread_count = k.thread_count;
  current_thread = left_by k.current_thread t;
  next_tls_slot = k.next_tls_slot;
  next_guest_id = k.next_guest_id;
  all_blocked = k.all_blocked;
  relief = k.relief;
  full = k.full;
  overflow = k.overflow;
}
