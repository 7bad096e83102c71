-- The records of address arbiters: a chain each, and the free one. The Rust keeps a list in each arbiter, in order of arrival.
use Rattle.std.specs.Prelude.{Bool, true, false, not, List, [], ◌∷◌, ℕ, zero, suc, eqb, get_or, set}
use Rattle.laws.specs.Logic.{pick, ◌or◌}
use Rattle.types.specs.declared.object.KObject.{KObject}
use Rattle.types.specs.declared.object.KObject.TheVariants.{Free, Thread, Event, Mutex, Semaphore, Timer, AddressArbiter, Process, ResourceLimit}
use Rattle.types.specs.declared.object.Waiter.{Waiter}
use Rattle.types.specs.declared.object.ObjectStore.{ObjectStore}
use Rattle.sound.specs.View.{waiter_threads, waiter_addresses, slot_at, object_at}
use Rattle.sound.specs.Records.{chain_of, has?}
use Rattle.object.specs.declared.waiters.Links.{Links}
use Rattle.object.specs.Slots.{slot_put, with_object}

-- ---- records, numbered from 1
abbrev pub no_waiter : Waiter
no_waiter = record { thread = 0; address = 0; next = 0 }

unfoldable pub waiter_at : List Waiter → ℕ → Waiter
waiter_at l zero = no_waiter
waiter_at l (suc i) = get_or l i no_waiter

unfoldable pub waiter_put : List Waiter → ℕ → Waiter → List Waiter
waiter_put l zero v = l
waiter_put l (suc i) v = set l i v

abbrev pub with_next : Waiter → ℕ → Waiter
with_next w n = record { thread = w.thread; address = w.address; next = n }

-- a record on the free chain is blank
abbrev pub freed : ℕ → Waiter
freed n = record { thread = 0; address = 0; next = n }

-- ---- the records, the first free one, and the first that a chain keeps: Links
-- the record x goes in front of what is kept, or of the free chain
abbrev pub link : Bool → ℕ → Links → Links
link true x u = record { waiters = waiter_put u.waiters x (with_next (waiter_at u.waiters x) u.head); free = u.free; head = x }
link false x u = record { waiters = waiter_put u.waiters x (freed u.free); free = x; head = u.head }

-- the Rust's `retain` on the chain with the members xs: the order of the rest is kept, what goes is free again, the first of it on top
unfoldable pub unlink : (ℕ → Bool) → List Waiter → ℕ → List ℕ → Links
unlink keep ws free [] = record { waiters = ws; free = free; head = 0 }
unlink keep ws free (x ∷ xs) = link (keep x) x (unlink keep ws free xs)

-- only an arbiter has a chain
abbrev pub with_head : KObject → ℕ → KObject
with_head (Free n) h = Free n
with_head (Thread t) h = Thread t
with_head (Event e) h = Event e
with_head (Mutex m) h = Mutex m
with_head (Semaphore s) h = Semaphore s
with_head (Timer t) h = Timer t
with_head (AddressArbiter a) h = AddressArbiter (record { waiters = h })
with_head Process h = Process
with_head ResourceLimit h = ResourceLimit

-- every record of the object o that `keep` leaves out is taken out
abbrev pub unlinked : (ℕ → Bool) → ObjectStore → ℕ → Links
unlinked keep s o = unlink keep s.waiters s.free_waiter (chain_of s o)

abbrev pub relinked : ObjectStore → ℕ → Links → ObjectStore
relinked s o u = record {
  slots = slot_put s.slots o (with_object (slot_at s.slots o) (with_head (object_at s o) u.head));
  free = s.free;
  waiters = u.waiters;
  free_waiter = u.free;
  thread_objects = s.thread_objects;
  process_object = s.process_object;
  full = s.full;
  overflow = s.overflow;
}

unfoldable pub retain : (ℕ → Bool) → ObjectStore → ℕ → ObjectStore
retain keep s o = relinked s o (unlinked keep s o)

-- ---- all records of one thread, in every arbiter: what is left of the slots from o on
abbrev pub of_others : ObjectStore → ℕ → ℕ → Bool
of_others s t r = not (eqb (waiter_at s.waiters r).thread t)

unfoldable pub drop_thread : ℕ → ℕ → ℕ → ObjectStore → ObjectStore
drop_thread zero o t s = s
drop_thread (suc n) o t s = drop_thread n (suc o) t (retain (of_others s t) s o)

-- ---- a record more at the end of a chain
unfoldable pub last_of : List ℕ → ℕ
last_of [] = 0
last_of (x ∷ []) = x
last_of (x ∷ y ∷ ys) = last_of (y ∷ ys)

abbrev pub first_of : List ℕ → ℕ → ℕ
first_of [] r = r
first_of (x ∷ xs) r = x

-- the record r hung on the end of the chain with the members xs
abbrev pub hung : List Waiter → List ℕ → ℕ → Waiter → List Waiter
hung ws xs r w = waiter_put (waiter_put ws (last_of xs) (with_next (waiter_at ws (last_of xs)) r)) r w

abbrev pub is_arbiter : KObject → Bool
is_arbiter (Free n) = false
is_arbiter (Thread t) = false
is_arbiter (Event e) = false
is_arbiter (Mutex m) = false
is_arbiter (Semaphore s) = false
is_arbiter (Timer t) = false
is_arbiter (AddressArbiter a) = true
is_arbiter Process = false
is_arbiter ResourceLimit = false

abbrev pub pushed : ObjectStore → ℕ → ℕ → ℕ → ObjectStore
pushed s o t a = record {
  slots = slot_put s.slots o (with_object (slot_at s.slots o) (with_head (object_at s o) (first_of (chain_of s o) s.free_waiter)));
  free = s.free;
  waiters = hung s.waiters (chain_of s o) s.free_waiter (record { thread = t; address = a; next = 0 });
  free_waiter = (waiter_at s.waiters s.free_waiter).next;
  thread_objects = s.thread_objects;
  process_object = s.process_object;
  full = s.full or eqb s.free_waiter 0;
  overflow = s.overflow;
}

-- a thread's second record in one arbiter for one address is not stored; another kind of object stores none
unfoldable pub push : ObjectStore → ℕ → ℕ → ℕ → ObjectStore
push s o t a =
    pick (is_arbiter (object_at s o))
    (pick (has? (waiter_threads s.waiters) (waiter_addresses s.waiters) t a (chain_of s o)) s (pushed s o t a))
    s
