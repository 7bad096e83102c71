-- Widths: each primitive keeps every number of the component within its field.
use Rattle.std.specs.Prelude.{◌≡◌, refl, Bool, List, [], ◌∷◌, ◌++◌, map, ℕ, zero, suc, ◌+◌, ◌^◌, ◌<◌, eqb, leb, set}
use Rattle.std.specs.Prelude.{replicate, Option, Some, None}
use Rattle.std.proofs.Math.Bool.{true, false}
use Rattle.std.proofs.Common.{arith}
use Rattle.std.proofs.Math.Dec.{ltb}
use borrow.Author.Tests.{ltb-true}
use Rattle.laws.specs.Logic.{pick}
use Rattle.laws.specs.All.{All, all_set, all_get, all_map, all_as, all_replicate}
use Rattle.laws.specs.Count.{at}
use Rattle.laws.specs.Walk.{walk}
use Rattle.types.specs.declared.object.KObject.{KObject}
use Rattle.types.specs.declared.object.KObject.TheVariants.{Free, Thread, Event, Mutex, Semaphore, Timer, AddressArbiter, Process, ResourceLimit}
use Rattle.types.specs.declared.object.Slot.{Slot}
use Rattle.types.specs.declared.object.Waiter.{Waiter}
use Rattle.types.specs.declared.object.HandleEntry.{HandleEntry}
use Rattle.types.specs.declared.object.HandleTable.{HandleTable}
use Rattle.types.specs.declared.object.ObjectStore.{ObjectStore}
use Rattle.types.specs.Object.{next_of, head_of}
use Rattle.types.specs.Thread.{wait_list}
use Rattle.codec.proofs.Fit.{flag-fits}
use Rattle.block.specs.Slot.{object_words}
use Rattle.block.proofs.Enums.{ObjectFits}
use Rattle.block.proofs.Fits.{IdFits, EntryFits, WaiterFits, SlotFits}
use Rattle.sound.specs.View.{ids, waiter_nexts, waiter_threads, waiter_addresses, no_slot, slot_at, object_at}
use Rattle.sound.specs.Threads.{Zeros}
use Rattle.sound.specs.Objects.{kept_at}
use Rattle.sound.specs.Records.{chain_of, has?}
use Rattle.object.specs.Slots.{slot_put, with_slots, with_kept, with_process}
use Rattle.object.specs.declared.waiters.Links.{Links}
use Rattle.object.specs.Waiters.{no_waiter, waiter_at, link, unlink, with_head, unlinked, retain, of_others, drop_thread, last_of, first_of, is_arbiter, pushed, push}
use Rattle.object.specs.Store.{is_free, insert, add_ref, add_refs, release_if, release, releases}
use Rattle.object.specs.declared.handles.Both.{Both}
use Rattle.object.specs.Handles.{no_entry, give, place_of, object_of, without, taken_out, create, close}
use Rattle.object.specs.Kept.{thread_object, process_object, of_current, resolve}
use Rattle.soundness.specs.Slots.{pick-both, all-slot_put}
use Rattle.soundness.specs.Waiters.{all-waiter_put}
use Rattle.soundness.specs.Kept.{unkept}

-- a 32-bit number
abbrev pub Word : ℕ → Type 0
Word n = n < 256 ^ 4

pub record StoreFits (s : ObjectStore) : Type 0 where
  pub slots : All SlotFits s.slots
  pub free : Word s.free
  pub waiters : All WaiterFits s.waiters
  pub free_waiter : Word s.free_waiter
  pub ids : All IdFits s.thread_objects
  pub process : Word s.process_object.0

pub record TableFits (t : HandleTable) : Type 0 where
  pub entries : All EntryFits t.entries
  pub count : Word t.count
  pub next : Word t.next.0

-- ---- one slot
abbrev pub KeepsFit : KObject → Type 0
KeepsFit x = ObjectFits (object_words x)

pub slot_of : (x : KObject) (r : ℕ) (p : Bool) → KeepsFit x → Word r → SlotFits (record { object = x; refcount = r; pulsed = p })
slot_of x r p f w = (f.kind, (w, (flag-fits p, (f.a, (f.b, (f.c, (f.x, (f.y, tt))))))))

pub of-slot : (x : Slot) → SlotFits x → KeepsFit x.object
of-slot x f = record { kind = f.0; a = f.1.1.1.0; b = f.1.1.1.1.0; c = f.1.1.1.1.1.0; x = f.1.1.1.1.1.1.0; y = f.1.1.1.1.1.1.1.0 }

-- 0 fits a field of 4 bytes, and one of 8
pub z4 : 0 < 256 ^ 4
z4 = omega arith

pub z8 : 0 < 256 ^ 8
z8 = omega arith

-- the list of a thread that waits for nothing
zeros_none : (n : ℕ) → Zeros (ids (replicate n (record { 0 = 0 })))
zeros_none zero = tt
zeros_none (suc n) = (refl, zeros_none n)

pub no-objects : Zeros (ids (replicate wait_list (record { 0 = 0 })))
no-objects = zeros_none wait_list

pub none_fit : All IdFits (replicate wait_list (record { 0 = 0 }))
none_fit = all_replicate IdFits wait_list (record { 0 = 0 }) z4

pub free-fits : (n : ℕ) → Word n → KeepsFit (Free n)
free-fits n w = record { kind = z4; a = w; b = z4; c = z4; x = z8; y = z8 }

pub thread-fits : (n : ℕ) → Word n → KeepsFit (Thread n)
thread-fits n w = record { kind = omega arith; a = w; b = z4; c = z4; x = z8; y = z8 }

pub process-fits : KeepsFit Process
process-fits = record { kind = omega arith; a = z4; b = z4; c = z4; x = z8; y = z8 }

pub next_fits : (x : KObject) → KeepsFit x → Word (next_of x)
next_fits (Free n) f = f.a
next_fits (Thread t) f = z4
next_fits (Event e) f = z4
next_fits (Mutex m) f = z4
next_fits (Semaphore c) f = z4
next_fits (Timer t) f = z4
next_fits (AddressArbiter a) f = z4
next_fits Process f = z4
next_fits ResourceLimit f = z4

pub head-fits : (x : KObject) → KeepsFit x → Word (head_of x)
head-fits (Free n) f = z4
head-fits (Thread t) f = z4
head-fits (Event e) f = z4
head-fits (Mutex m) f = z4
head-fits (Semaphore c) f = z4
head-fits (Timer t) f = z4
head-fits (AddressArbiter a) f = f.a
head-fits Process f = z4
head-fits ResourceLimit f = z4

pub with_head-fits : (x : KObject) (h : ℕ) → KeepsFit x → Word h → KeepsFit (with_head x h)
with_head-fits (Free n) h f w = f
with_head-fits (Thread t) h f w = f
with_head-fits (Event e) h f w = f
with_head-fits (Mutex m) h f w = f
with_head-fits (Semaphore c) h f w = f
with_head-fits (Timer t) h f w = f
with_head-fits (AddressArbiter a) h f w = record { kind = omega arith; a = w; b = z4; c = z4; x = z8; y = z8 }
with_head-fits Process h f w = f
with_head-fits ResourceLimit h f w = f

slot_at-fits : (l : List Slot) (o : ℕ) → All SlotFits l → SlotFits (slot_at l o)
unfolding slot_at
slot_at-fits l zero a = slot_of (Free 0) 0 false (free-fits 0 z4) z4
slot_at-fits l (suc i) a = all_get SlotFits l i no_slot (slot_of (Free 0) 0 false (free-fits 0 z4) z4) a

module _ (s : ObjectStore) (f : StoreFits s) where
  at-fits : (o : ℕ) → SlotFits (slot_at s.slots o)
  at-fits o = slot_at-fits s.slots o f.slots

  object-at-fits : (o : ℕ) → KeepsFit (object_at s o)
  object-at-fits o = of-slot (slot_at s.slots o) (at-fits o)

  ref-at-fits : (o : ℕ) → Word (slot_at s.slots o).refcount
  ref-at-fits o = (at-fits o).1.0

  -- ---- slots anew
  pub with_slots-fits : (l : List Slot) → All SlotFits l → StoreFits (with_slots s l)
  with_slots-fits l a = record { slots = a; free = f.free; waiters = f.waiters; free_waiter = f.free_waiter; ids = f.ids; process = f.process }

  put-fits : (o : ℕ) (x : KObject) (r : ℕ) → KeepsFit x → Word r → All SlotFits (slot_put s.slots o (record { object = x; refcount = r; pulsed = (slot_at s.slots o).pulsed }))
  put-fits o x r k w = all-slot_put SlotFits s.slots o _ (slot_of x r (slot_at s.slots o).pulsed k w) f.slots

  pub add_ref-fits : (o : ℕ) → StoreFits (add_ref s o)
  unfolding add_ref
  add_ref-fits o =
      pick-both StoreFits (is_free (object_at s o)) s _ f
      (with_slots-fits _ (put-fits o (object_at s o) _ (object-at-fits o) (go (ltb (slot_at s.slots o).refcount 4294967295) refl)))
    where
      go : (q : Bool) → ltb (slot_at s.slots o).refcount 4294967295 ≡ q → Word (pick q ((slot_at s.slots o).refcount + 1) (slot_at s.slots o).refcount)
      go true e = omega (arith, ltb-true (slot_at s.slots o).refcount 4294967295 e)
      go false e = ref-at-fits o

  pub insert-fits : (v : KObject) → KeepsFit v → StoreFits (insert s v)
  unfolding insert
  insert-fits v k = record {
    slots = put-fits s.free v 1 k (omega arith);
    free = next_fits (object_at s s.free) (object-at-fits s.free);
    waiters = f.waiters;
    free_waiter = f.free_waiter;
    ids = f.ids;
    process = f.process;
  }

pub add_refs-fits : (os : List ℕ) (s : ObjectStore) → StoreFits s → StoreFits (add_refs s os)
unfolding add_refs
add_refs-fits [] s f = f
add_refs-fits (o ∷ os) s f = add_refs-fits os (add_ref s o) (add_ref-fits s f o)

-- every slot at once
pub all_slots : (g : Slot → Slot) → ((x : Slot) → SlotFits x → SlotFits (g x)) → (l : List Slot) → All SlotFits l → All SlotFits (map g l)
all_slots g e [] a = tt
all_slots g e (x ∷ l) a = (e x a.0, all_slots g e l a.1)

-- ---- records
waiter_at-fits : (l : List Waiter) (r : ℕ) → All WaiterFits l → WaiterFits (waiter_at l r)
unfolding waiter_at
waiter_at-fits l zero a = (z4, (z4, (z4, tt)))
waiter_at-fits l (suc i) a = all_get WaiterFits l i no_waiter (z4, (z4, (z4, tt))) a

at_small : (l : List ℕ) (r : ℕ) → All Word l → Word (at l r)
unfolding at
at_small l zero a = z4
at_small l (suc i) a = all_get Word l i 0 z4 a

walk-small : (nx : List ℕ) (n h : ℕ) → All Word nx → Word h → All Word (walk nx n h)
unfolding walk
walk-small nx zero h a w = tt
walk-small nx (suc n) zero a w = tt
walk-small nx (suc n) (suc h) a w = (w, walk-small nx n (at nx (suc h)) a (at_small nx (suc h) a))

nexts-small : (l : List Waiter) → All WaiterFits l → All Word (waiter_nexts l)
nexts-small l a = all_map Word (λ (w : Waiter). w.next) l (all_as WaiterFits (λ w. Word w.next) (λ w f. f.1.1.0) l a)

record LinksFit (u : Links) : Type 0 where
  waiters : All WaiterFits u.waiters
  free : Word u.free
  head : Word u.head

link_fits : (b : Bool) (x : ℕ) (u : Links) → Word x → LinksFit u → LinksFit (link b x u)
link_fits true x u w f =
    let g = waiter_at-fits u.waiters x f.waiters in
    record { waiters = all-waiter_put WaiterFits u.waiters x _ (g.0, (g.1.0, (f.head, tt))) f.waiters; free = f.free; head = w }
link_fits false x u w f =
    record { waiters = all-waiter_put WaiterFits u.waiters x _ (z4, (z4, (f.free, tt))) f.waiters; free = w; head = f.head }

unlink-fits : (keep : ℕ → Bool) (ws : List Waiter) (free : ℕ) (xs : List ℕ) → All Word xs → All WaiterFits ws → Word free → LinksFit (unlink keep ws free xs)
unfolding unlink
unlink-fits keep ws free [] a w f = record { waiters = w; free = f; head = z4 }
unlink-fits keep ws free (x ∷ xs) a w f = link_fits (keep x) x (unlink keep ws free xs) a.0 (unlink-fits keep ws free xs a.1 w f)

first_small : (xs : List ℕ) (r : ℕ) → All Word xs → Word r → Word (first_of xs r)
first_small [] r a w = w
first_small (x ∷ xs) r a w = a.0

module _ (s : ObjectStore) (f : StoreFits s) where
  chain-small : (o : ℕ) → All Word (chain_of s o)
  chain-small o = walk-small (waiter_nexts s.waiters) 64 (head_of (object_at s o)) (nexts-small s.waiters f.waiters) (head-fits (object_at s o) (object-at-fits s f o))

  unlinked-fits : (keep : ℕ → Bool) (o : ℕ) → LinksFit (unlinked keep s o)
  unlinked-fits keep o = unlink-fits keep s.waiters s.free_waiter (chain_of s o) (chain-small o) f.waiters f.free_waiter

  release-fits_if : (q : Bool) (o : ℕ) → Word o → StoreFits (release_if q s o)
  unfolding release_if
  release-fits_if true o w = with_slots-fits s f _ (put-fits s f o (object_at s o) _ (object-at-fits s f o) (omega (arith, ref-at-fits s f o)))
  release-fits_if false o w =
      let u = unlinked-fits (λ r. false) o in
      record { slots = put-fits s f o (Free s.free) 0 (free-fits s.free f.free) z4; free = w; waiters = u.waiters; free_waiter = u.free; ids = f.ids; process = f.process }

  pub release-fits : (o : ℕ) → Word o → StoreFits (release s o)
  unfolding release
  release-fits o w = pick-both StoreFits (is_free (object_at s o)) s _ f (release-fits_if (leb 2 (slot_at s.slots o).refcount) o w)

  pub retain-fits : (keep : ℕ → Bool) (o : ℕ) → StoreFits (retain keep s o)
  unfolding retain
  retain-fits keep o =
      let u = unlinked-fits keep o in
      record {
        slots = put-fits s f o _ _ (with_head-fits (object_at s o) _ (object-at-fits s f o) u.head) (ref-at-fits s f o);
        free = f.free;
        waiters = u.waiters;
        free_waiter = u.free;
        ids = f.ids;
        process = f.process;
      }

  pushed-fits : (o t a : ℕ) → Word t → Word a → StoreFits (pushed s o t a)
  pushed-fits o t a wt wa =
      let l = waiter_at-fits s.waiters (last_of (chain_of s o)) f.waiters in
      record {
        slots = put-fits s f o _ _ (with_head-fits (object_at s o) _ (object-at-fits s f o) (first_small (chain_of s o) s.free_waiter (chain-small o) f.free_waiter)) (ref-at-fits s f o);
        free = f.free;
        waiters = all-waiter_put WaiterFits _ s.free_waiter _ (wt, (wa, (z4, tt))) (all-waiter_put WaiterFits s.waiters (last_of (chain_of s o)) _ (l.0, (l.1.0, (f.free_waiter, tt))) f.waiters);
        free_waiter = (waiter_at-fits s.waiters s.free_waiter f.waiters).1.1.0;
        ids = f.ids;
        process = f.process;
      }

  push-fits_if : (p q : Bool) (o t a : ℕ) → Word t → Word a → StoreFits (pick p (pick q s (pushed s o t a)) s)
  push-fits_if true true o t a wt wa = f
  push-fits_if true false o t a wt wa = pushed-fits o t a wt wa
  push-fits_if false q o t a wt wa = f

  pub push-fits : (o t a : ℕ) → Word t → Word a → StoreFits (push s o t a)
  unfolding push
  push-fits o t a wt wa = push-fits_if (is_arbiter (object_at s o)) (has? (waiter_threads s.waiters) (waiter_addresses s.waiters) t a (chain_of s o)) o t a wt wa

  -- ---- kept objects
  thread-fits_if : (q : Bool) (t : ℕ) → Word t → StoreFits (pick q (with_kept (insert s (Thread t)) (set s.thread_objects t (record { 0 = s.free }))) s)
  thread-fits_if true t w =
      let i = insert-fits s f (Thread t) (thread-fits t w) in
      record { slots = i.slots; free = i.free; waiters = i.waiters; free_waiter = i.free_waiter; ids = all_set IdFits s.thread_objects t f.free f.ids; process = i.process }
  thread-fits_if false t w = f

  pub thread_object-fits : (t : ℕ) → Word t → StoreFits (thread_object s t)
  unfolding thread_object
  thread_object-fits t w = thread-fits_if (eqb (kept_at s t) 0) t w

  process-fits_if : (q : Bool) → StoreFits (pick q (with_process (insert s Process) (record { 0 = s.free })) s)
  process-fits_if true =
      let i = insert-fits s f Process process-fits in
      record { slots = i.slots; free = i.free; waiters = i.waiters; free_waiter = i.free_waiter; ids = i.ids; process = f.free }
  process-fits_if false = f

  pub process_object-fits : StoreFits (process_object s)
  unfolding process_object
  process_object-fits = process-fits_if (eqb s.process_object.0 0)

-- a kept object let go
pub unkept-fits : (s : ObjectStore) (t : ℕ) → StoreFits s → StoreFits (unkept s t)
unkept-fits s t f = record { slots = f.slots; free = f.free; waiters = f.waiters; free_waiter = f.free_waiter; ids = all_set IdFits s.thread_objects t z4 f.ids; process = f.process }

abbrev pub CurrentFits : Option ℕ → Type 0
CurrentFits None = Unit {0}
CurrentFits (Some t) = Word t

current-fits : (c : Option ℕ) (s : ObjectStore) → CurrentFits c → StoreFits s → StoreFits (of_current s c).store
current-fits None s w f = f
current-fits (Some t) s w f = thread_object-fits s f t w

resolve-fits_if : (a b : Bool) (c : Option ℕ) (t : HandleTable) (s : ObjectStore) (h : ℕ) → CurrentFits c → StoreFits s
    → StoreFits (pick a (of_current s c) (pick b (record { object = (process_object s).process_object; store = process_object s }) (record { object = record { 0 = object_of t h }; store = s }))).store
resolve-fits_if true b c t s h w f = current-fits c s w f
resolve-fits_if false true c t s h w f = process_object-fits s f
resolve-fits_if false false c t s h w f = f

pub resolve-fits : (c : Option ℕ) (t : HandleTable) (s : ObjectStore) (h : ℕ) → CurrentFits c → StoreFits s
    → StoreFits (resolve c t s h).store
unfolding resolve
resolve-fits c t s h w f = resolve-fits_if (eqb h 0xFFFF8000) (eqb h 0xFFFF8001) c t s h w f

pub releases-fits : (os : List ℕ) (s : ObjectStore) → All Word os → StoreFits s → StoreFits (releases s os)
unfolding releases
releases-fits [] s w f = f
releases-fits (o ∷ os) s w f = releases-fits os (release s o) w.1 (release-fits s f o w.0)

pub drop_thread-fits : (n o t : ℕ) (s : ObjectStore) → StoreFits s → StoreFits (drop_thread n o t s)
unfolding drop_thread
drop_thread-fits zero o t s f = f
drop_thread-fits (suc n) o t s f = drop_thread-fits n (suc o) t (retain (of_others s t) s o) (retain-fits s f (of_others s t) o)

-- ---- the table
pub give-fits : (t : HandleTable) (o : ℕ) → Word o → TableFits t → TableFits (give t o)
unfolding give
give-fits t o w f = record {
  entries = all_set EntryFits t.entries t.count (f.next, (w, tt)) f.entries;
  count = go (ltb t.count 256) refl;
  next = next (ltb t.next.0 0xFFFF8000) refl;
}
  where
    go : (q : Bool) → ltb t.count 256 ≡ q → Word (pick q (t.count + 1) t.count)
    go true e = omega (arith, ltb-true t.count 256 e)
    go false e = f.count

    next : (q : Bool) → ltb t.next.0 0xFFFF8000 ≡ q → Word (pick q (t.next.0 + 1) t.next.0)
    next true e = omega (arith, ltb-true t.next.0 0xFFFF8000 e)
    next false e = f.next

entries-end : (es : List HandleEntry) → All EntryFits es → All EntryFits (es ++ (no_entry ∷ []))
entries-end [] a = ((z4, (z4, tt)), tt)
entries-end (e ∷ es) a = (a.0, entries-end es a.1)

without-fits : (es : List HandleEntry) (k : ℕ) → All EntryFits es → All EntryFits (without es k)
unfolding without
without-fits [] k a = a
without-fits (e ∷ es) zero a = entries-end es a.1
without-fits (e ∷ es) (suc k) a = (a.0, without-fits es k a.1)

pub taken_out-fits : (t : HandleTable) (k : ℕ) → TableFits t → TableFits (taken_out t k)
taken_out-fits t k f = record { entries = without-fits t.entries k f.entries; count = omega (arith, f.count); next = f.next }

pub object_of-fits : (t : HandleTable) (h : ℕ) → TableFits t → Word (object_of t h)
unfolding object_of
object_of-fits t h f = (all_get EntryFits t.entries (place_of t.entries h) no_entry (z4, (z4, tt)) f.entries).1.0

pub create-fits : (t : HandleTable) (s : ObjectStore) (o : ℕ) → Word o → TableFits t → StoreFits s → TableFits (create t s o).table × StoreFits (create t s o).store
unfolding create
create-fits t s o w f g = (give-fits t o w f, add_ref-fits s g o)

close-fits_if : (q : Bool) (t : HandleTable) (s : ObjectStore) (h : ℕ) → TableFits t → StoreFits s
    → TableFits (pick {A = Both} q (record { table = t; store = s }) (record { table = taken_out t (place_of t.entries h); store = release s (object_of t h) })).table
    × StoreFits (pick {A = Both} q (record { table = t; store = s }) (record { table = taken_out t (place_of t.entries h); store = release s (object_of t h) })).store
close-fits_if true t s h f g = (f, g)
close-fits_if false t s h f g = (taken_out-fits t (place_of t.entries h) f, release-fits s g (object_of t h) (object_of-fits t h f))

pub close-fits : (t : HandleTable) (s : ObjectStore) (h : ℕ) → TableFits t → StoreFits s → TableFits (close t s h).table × StoreFits (close t s h).store
unfolding close
close-fits t s h f g = close-fits_if (eqb (object_of t h) 0) t s h f g
