-- The tests of objects and records as they are computed, over columns that one pass makes.
use Rattle.std.specs.Prelude.{Bool, true, List, [], ◌∷◌, map, ℕ, eqb, leb, ltb, get_or, replicate, Option, Some}
use Rattle.std.specs.Prelude.{None}
use Rattle.laws.specs.Logic.{◌and◌, ◌or◌}
use Rattle.laws.specs.Count.{one?, at}
use Rattle.laws.specs.Numbers.{all_to, all_below}
use Rattle.laws.specs.Walk.{walk, ends?}
use Rattle.laws.specs.Tally.{bump, tally, tally_all}
use Rattle.units.specs.declared.ObjectId.{ObjectId}
use Rattle.tally.specs.Place.{slot_index}
use Rattle.types.specs.declared.thread.ThreadStatus.{ThreadStatus}
use Rattle.types.specs.declared.thread.Thread as th
use Rattle.types.specs.declared.object.KObject.{KObject}
use Rattle.types.specs.declared.object.KObject.TheVariants.{Free, Thread, Event, Mutex, Semaphore, Timer, AddressArbiter, Process, ResourceLimit}
use Rattle.types.specs.declared.object.Slot.{Slot}
use Rattle.types.specs.declared.object.Waiter.{Waiter}
use Rattle.types.specs.declared.object.HandleEntry.{HandleEntry}
use Rattle.types.specs.declared.kernel.Kernel.{Kernel}
use Rattle.types.specs.Thread.{is_dead}
use Rattle.sound.specs.View.{kinds, refs, nexts, heads, ids, waiter_nexts, waiter_threads, waiter_addresses, slot_at}
use Rattle.sound.specs.Threads.{threads?}
use Rattle.sound.specs.Tls.{tls?}
use Rattle.sound.specs.Handles.{rising?}
use Rattle.sound.specs.Objects.{up_to128}
use Rattle.sound.specs.Records.{chain?, blanks?}
use Rattle.tally.specs.Lists.{names, handle_names, list_names}
use Rattle.question.specs.Linear.{slots?}

-- ---- the thread that a thread object names
abbrev pub named_of : KObject → ℕ
named_of (Free x) = 0
named_of (Thread t) = t
named_of (Event e) = 0
named_of (Mutex m) = 0
named_of (Semaphore c) = 0
named_of (Timer t) = 0
named_of (AddressArbiter a) = 0
named_of Process = 0
named_of ResourceLimit = 0

abbrev pub named : List Slot → List ℕ
named l = map (λ (s : Slot). named_of s.object) l

-- ---- how often each object is named, and how often each slot stands on the free chain
abbrev pub counts_of : List HandleEntry → List th.Thread → List ObjectId → ℕ → List ℕ
counts_of es ts kept p = bump 129 (tally 129 (tally_all 129 (tally 129 (replicate 129 0) (handle_names es)) (list_names ts)) (names kept)) p

abbrev pub marks_of : List ℕ → ℕ → List ℕ
marks_of ns free = tally 129 (replicate 129 0) (walk ns 128 free)

-- ---- kept objects: a number past the last slot reads the first one, and fails by the number
unfoldable pub kept_thread? : ℕ → ℕ → ℕ → ℕ → Bool
kept_thread? x kind u t = eqb x 0 or (leb x 128 and (eqb kind 1 and eqb u t))

unfoldable pub kept_process? : ℕ → ℕ → Bool
kept_process? x kind = eqb x 0 or (leb x 128 and eqb kind 7)

-- what a column has at the index of object x
abbrev pub indexed : List ℕ → ℕ → ℕ
indexed l x = get_or l (slot_index x) 0

unfoldable pub kept_threads? : List ℕ → List ℕ → List ℕ → ℕ → Bool
kept_threads? ks us k n = all_below n (λ t. kept_thread? (get_or k t 0) (indexed ks (get_or k t 0)) (indexed us (get_or k t 0)) t)

unfoldable pub kept_by? : List ℕ → List ℕ → List ℕ → ℕ → Bool
kept_by? ks us k p = kept_threads? ks us k 32 and kept_process? p (indexed ks p)

-- ---- every clause about objects that asks their columns: kinds, counts, nexts, threads of thread objects
unfoldable pub objects_by? : List ℕ → List ℕ → List ℕ → List ℕ → ℕ → List ℕ → List ℕ → ℕ → Bool
objects_by? ks rs ns us free c k p =
    (up_to128 k and leb p 128) and ((ends? ns 128 free and slots? ks rs c (marks_of ns free) 128) and kept_by? ks us k p)

-- ---- contents: 1 for a thread that is Dead or is none
abbrev pub dead_mark : ThreadStatus → ℕ
dead_mark s = one? (is_dead s)

abbrev pub dead_marks : List th.Thread → List ℕ
dead_marks l = map (λ (t : th.Thread). dead_mark t.status) l

unfoldable pub live? : List ℕ → ℕ → Bool
live? d t = eqb (get_or d t 1) 0

abbrev pub owner_by? : List ℕ → Option ℕ → Bool
owner_by? d None = true
owner_by? d (Some t) = live? d t

abbrev pub content_by? : ℕ → List ℕ → KObject → Bool
content_by? n d (Free x) = true
content_by? n d (Thread t) = ltb t n
content_by? n d (Event e) = true
content_by? n d (Mutex m) = owner_by? d m.owner
content_by? n d (Semaphore c) = true
content_by? n d (Timer t) = true
content_by? n d (AddressArbiter a) = true
content_by? n d Process = true
content_by? n d ResourceLimit = true

unfoldable pub contents_by? : ℕ → List ℕ → List Slot → ℕ → Bool
contents_by? n d l k = all_to k (λ o. content_by? n d (slot_at l o).object)

-- ---- records: chains of at most 64
unfoldable pub end_all? : List ℕ → List ℕ → Bool
end_all? nx [] = true
end_all? nx (h ∷ hs) = ends? nx 64 h and end_all? nx hs

abbrev pub walk_all : List ℕ → List ℕ → List (List ℕ)
walk_all nx hs = map (walk nx 64) hs

-- chains one after the other, counted in m: each ends, and has only cells that were not counted before
unfoldable pub new? : List ℕ → List ℕ → Bool
new? m [] = true
new? m (i ∷ l) = eqb (get_or m i 0) 0 and new? (bump 129 m i) l

abbrev pub lone? : List ℕ → List ℕ → ℕ → ℕ → Bool
lone? nx m left h = ends? nx left h and new? m (walk nx left h)

unfoldable pub lone_all? : List ℕ → List ℕ → List ℕ → Bool
lone_all? nx m [] = true
lone_all? nx m (h ∷ hs) = lone? nx m 64 h and lone_all? nx (tally 129 m (walk nx 64 h)) hs

-- each of the cells 1 to n of m is 1
unfoldable pub once_all? : List ℕ → ℕ → Bool
once_all? m n = all_to n (λ i. eqb (get_or m i 0) 1)

unfoldable pub shared_out? : List ℕ → List ℕ → ℕ → Bool
shared_out? nx hs free =
    end_all? nx hs and (ends? nx 64 free and once_all? (tally 129 (tally_all 129 (replicate 129 0) (walk_all nx hs)) (walk nx 64 free)) 64)

unfoldable pub chains_by? : List ℕ → List ℕ → List ℕ → ℕ → List ℕ → ℕ → Bool
chains_by? nx ts ad n hs k = all_to k (λ o. chain? ts ad n (walk nx 64 (at hs o)))

unfoldable pub fine_pool? : List ℕ → List ℕ → List ℕ → ℕ → List ℕ → ℕ → Bool
fine_pool? nx ts ad n hs free = shared_out? nx hs free and chains_by? nx ts ad n hs 128

unfoldable pub records_by? : ℕ → List ℕ → List Waiter → ℕ → Bool
records_by? n hs w free =
    fine_pool? (waiter_nexts w) (waiter_threads w) (waiter_addresses w) n hs free
    and blanks? (waiter_threads w) (waiter_addresses w) (walk (waiter_nexts w) 64 free)

-- ---- the clauses in two parts: threads, TLS slots and handles; objects, by the counts c of their names, and records
unfoldable pub tables? : Kernel → Bool
tables? k =
    rising? k.handles.count 0x10000 k.handles.entries k.handles.next.0
    and (threads? k.thread_count k.current_thread k.threads and tls? k.threads k.next_tls_slot)

unfoldable pub store? : Kernel → List ℕ → Bool
store? k c =
    let l = k.objects.slots in
    objects_by? (kinds l) (refs l) (nexts l) (named l) k.objects.free c (ids k.objects.thread_objects) k.objects.process_object.0
    and (contents_by? k.thread_count (dead_marks k.threads) l 128
    and records_by? k.thread_count (heads l) k.objects.waiters k.objects.free_waiter)
