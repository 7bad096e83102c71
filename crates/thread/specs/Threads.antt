-- The thread part of mod.rs: TLS slots, places, making and ending a thread.
use Rattle.std.specs.Prelude.{Bool, List, map, ℕ, zero, suc, ◌+◌, eqb, leb, ltb, set, take, Option, None}
use Rattle.laws.specs.Logic.{pick, ◌and◌, ◌or◌}
use Rattle.laws.specs.Count.{count}
use Rattle.types.specs.declared.thread.ThreadStatus.TheVariants.{Dead}
use Rattle.types.specs.declared.thread.Thread as th
use Rattle.types.specs.declared.sync.Mutex as mu
use Rattle.types.specs.declared.object.KObject.{KObject}
use Rattle.types.specs.declared.object.KObject.TheVariants.{Free, Thread, Event, Mutex, Semaphore, Timer, AddressArbiter, Process, ResourceLimit}
use Rattle.types.specs.declared.object.Slot.{Slot}
use Rattle.types.specs.declared.object.ObjectStore.{ObjectStore}
use Rattle.types.specs.declared.kernel.Kernel.{Kernel}
use Rattle.types.specs.Thread.{is_dead}
use Rattle.sound.specs.View.{ids, thread_at}
use Rattle.sound.specs.Threads.{is_current}
use Rattle.sound.specs.Tls.{held}
use Rattle.sound.specs.Objects.{kept_at}
use Rattle.object.specs.Slots.{with_kept, with_slots, with_object}
use Rattle.object.specs.Store.{release, releases, refcount}
use Rattle.object.specs.Waiters.{drop_thread}
use Rattle.thread.specs.Thread.{new_thread, clear_wait, with_status, with_result, with_priority}

-- ---- parts of the kernel anew
abbrev pub with_threads : Kernel → List th.Thread → ObjectStore → Kernel
with_threads k ts s = record {
  status_word = k.status_word;
  objects = s;
  handles = k.handles;
  threads = ts;
  thread_count = k.thread_count;
  current_thread = k.current_thread;
  next_tls_slot = k.next_tls_slot;
  next_guest_id = k.next_guest_id;
  all_blocked = k.all_blocked;
  relief = k.relief;
  full = k.full;
  overflow = k.overflow;
}

-- no table has more than 32 places
abbrev pub least : ℕ → ℕ → ℕ
least a b = pick (ltb a b) a b

-- ---- `allocate_tls`: the lowest slot that no live thread holds, of those given out; else the next
unfoldable pub free_from : List ℕ → ℕ → ℕ → ℕ
free_from l zero s = s
free_from l (suc n) s = pick (eqb (count s l) 0) s (free_from l n (s + 1))

unfoldable pub tls_slot : Kernel → ℕ
tls_slot k = free_from (held k.threads) (least k.next_tls_slot 32) 0

-- ---- `ended_thread`: the first Dead thread that no handle or wait names any more, or the number of places
abbrev pub unnamed : ObjectStore → ℕ → Bool
unnamed s t = eqb (kept_at s t) 0 or leb (refcount s (kept_at s t)) 1

unfoldable pub ended_from : Kernel → ℕ → ℕ → ℕ
ended_from k zero t = t
ended_from k (suc n) t = pick (is_dead (thread_at k.threads t).status and unnamed k.objects t) t (ended_from k n (t + 1))

unfoldable pub ended_thread : Kernel → ℕ
ended_thread k = ended_from k (least k.thread_count 32) 0

-- ---- `forget_thread`: its kept object and its records go
abbrev pub let_go : ObjectStore → ℕ → ObjectStore
let_go s t = pick (eqb (kept_at s t) 0) s (release (with_kept s (set s.thread_objects t (record { 0 = 0 }))) (kept_at s t))

unfoldable pub forget_thread : ObjectStore → ℕ → ObjectStore
forget_thread s t = drop_thread 128 1 t (let_go s t)

-- ---- `create_thread`: in the place of an ended thread, or in a new one
abbrev pub create_at : Bool → ℕ → ℕ → Kernel → ℕ → ℕ → ℕ → ℕ → Kernel
create_at reused id tls k entry stack priority processor = record {
  status_word = k.status_word;
  objects = pick reused (forget_thread k.objects id) k.objects;
  handles = k.handles;
  threads = set k.threads id (new_thread entry stack (least priority 63) processor tls k.next_guest_id);
  thread_count = pick (reused or leb 32 k.thread_count) k.thread_count (k.thread_count + 1);
  current_thread = k.current_thread;
  next_tls_slot = pick (ltb tls k.next_tls_slot) k.next_tls_slot (tls + 1);
  next_guest_id = pick (ltb k.next_guest_id 4294967295) (k.next_guest_id + 1) k.next_guest_id;
  all_blocked = k.all_blocked;
  relief = k.relief;
  full = k.full or leb 32 id;
  overflow = k.overflow or leb 4294967295 k.next_guest_id;
}

-- the thread's number is `ended_thread k`
unfoldable pub create_thread : Kernel → ℕ → ℕ → ℕ → ℕ → Kernel
create_thread k entry stack priority processor = create_at (ltb (ended_thread k) k.thread_count) (ended_thread k) (tls_slot k) k entry stack priority processor

-- ---- the priority of a thread, which `set_thread_priority` of svc.rs cuts to the lowest
unfoldable pub set_priority : Kernel → ℕ → ℕ → Kernel
set_priority k t p = with_threads k (set k.threads t (with_priority (thread_at k.threads t) (least p 63))) k.objects

-- ---- `end_wait`: the objects of its list are let go, in list order
abbrev pub release_waits : ObjectStore → List th.Thread → ℕ → ObjectStore
release_waits s ts t = releases s (take (thread_at ts t).wait_count (ids (thread_at ts t).wait_objects))

unfoldable pub end_wait : Kernel → ℕ → Kernel
end_wait k t = with_threads k (set k.threads t (clear_wait (thread_at k.threads t))) (release_waits k.objects k.threads t)

-- ---- `end_thread`: every mutex that it owns is given back, all the way down
abbrev pub disowned_mutex : ℕ → mu.Mutex → mu.Mutex
disowned_mutex t m = pick (is_current m.owner t) (record { owner = None; lock_count = 0 }) m

abbrev pub disowned : ℕ → KObject → KObject
disowned t (Free n) = Free n
disowned t (Thread u) = Thread u
disowned t (Event e) = Event e
disowned t (Mutex m) = Mutex (disowned_mutex t m)
disowned t (Semaphore s) = Semaphore s
disowned t (Timer u) = Timer u
disowned t (AddressArbiter a) = AddressArbiter a
disowned t Process = Process
disowned t ResourceLimit = ResourceLimit

abbrev pub disowned_slots : ℕ → List Slot → List Slot
disowned_slots t l = map (λ (x : Slot). with_object x (disowned t x.object)) l

unfoldable pub disown : ObjectStore → ℕ → ObjectStore
disown s t = with_slots s (disowned_slots t s.slots)

abbrev pub ended : th.Thread → th.Thread
ended t = with_result (with_status t Dead) None None

abbrev pub left_by : Option ℕ → ℕ → Option ℕ
left_by c t = pick (is_current c t) None c

unfoldable pub end_thread : Kernel → ℕ → Kernel
end_thread k t =
    let w : Kernel = end_wait k t in
    record {
      status_word = w.status_word;
      objects = disown w.objects t;
      handles = w.handles;
      threads = set w.threads t (ended (thread_at w.threads t));
      thread_count = w.thread_count;
      current_thread = left_by w.current_thread t;
      next_tls_slot = w.next_tls_slot;
      next_guest_id = w.next_guest_id;
      all_blocked = w.all_blocked;
      relief = w.relief;
      full = w.full;
      overflow = w.overflow;
    }
