-- When a timer is due and how often, object by object, and what leaves that alone.
use Rattle.units.specs.declared.Ticks.{Ticks}
use Rattle.std.specs.Prelude.{◌≡◌, refl, Bool, not, ◌≢◌, List, [], ◌∷◌, ℕ, zero, suc, ◌≤◌, ◌<◌, length, Option}
use Rattle.std.proofs.Common.{ap, ◌∙◌}
use Rattle.laws.specs.Logic.{◌and◌, ◌or◌}
use Rattle.types.specs.declared.thread.Thread as th
use Rattle.types.specs.declared.object.KObject.{KObject}
use Rattle.types.specs.declared.object.KObject.TheVariants.{Free, Thread, Event, Mutex, Semaphore, Timer, AddressArbiter, Process, ResourceLimit}
use Rattle.types.specs.declared.object.Slot.{Slot}
use Rattle.types.specs.declared.object.ObjectStore.{ObjectStore}
use Rattle.types.specs.Object.{kind_number}
use Rattle.sound.specs.View.{waiter_threads, waiter_addresses, slot_at, object_at}
use Rattle.sound.specs.Records.{chain_of, has?}
use Rattle.kernel.specs.NextEvent.{due_of}
use Rattle.object.specs.Slots.{with_object, content}
use Rattle.object.specs.Store.{is_free, add_ref, add_refs}
use Rattle.object.specs.declared.waiters.Links.{Links}
use Rattle.object.specs.Waiters.{with_head, unlinked, relinked, retain, of_others, drop_thread, is_arbiter, pushed, push}
use Rattle.thread.specs.Threads.{disowned, disown}
use Rattle.soundness.specs.Slots.{pick-both, slot-f, slot-other, slot_same}
use Rattle.soundness.specs.Objects.{slot_at-map}
use Rattle.pass.specs.Signal.{acquired, acquire, acquires, quieted, unpulsed_slot, clear_pulses, waited_sync, is_pulse, signaled_event, signaled_slot, signal_event, cleared_event, clear_event}

-- ---- what of an object its clock is: a free slot has kind 0, and what is no timer is never due
abbrev pub interval_of : KObject → ℕ
interval_of (Free n) = 0
interval_of (Thread u) = 0
interval_of (Event e) = 0
interval_of (Mutex m) = 0
interval_of (Semaphore s) = 0
interval_of (Timer t) = t.interval.0
interval_of (AddressArbiter a) = 0
interval_of Process = 0
interval_of ResourceLimit = 0

pub record Clock : Type 0 where
  pub kind : ℕ
  pub due : Option Ticks
  pub interval : ℕ

abbrev pub clock_of : KObject → Clock
clock_of x = record { kind = kind_number x; due = due_of x; interval = interval_of x }

abbrev pub clock_at : ObjectStore → ℕ → Clock
clock_at s o = clock_of (object_at s o)

abbrev pub clock_in : Slot → Clock
clock_in s = clock_of s.object

-- ---- what only touches a signal, an owner or a count leaves every clock
pub content-clock : (s : ObjectStore) (r : ℕ) (x : KObject) → clock_of x ≡ clock_at s r → (o : ℕ) → clock_at (content s r x) o ≡ clock_at s o
unfolding content
content-clock s r x e o = slot-f clock_in s.slots r (with_object (slot_at s.slots r) x) o e

-- what an object holds anew is its own clock, and no other's
pub content-other : (s : ObjectStore) (r : ℕ) (x : KObject) (o : ℕ) → o ≢ r → clock_at (content s r x) o ≡ clock_at s o
unfolding content
content-other s r x o n = ap clock_in (slot-other s.slots r (with_object (slot_at s.slots r) x) o n)

pub content-own : (s : ObjectStore) (o : ℕ) (x : KObject) → 0 < o → o ≤ length s.slots → clock_at (content s o x) o ≡ clock_of x
unfolding content
content-own s o x z l = ap clock_in (slot_same s.slots o (with_object (slot_at s.slots o) x) z l)

acquired-clock : (x : KObject) (w : ℕ) → clock_of (acquired x w) ≡ clock_of x
acquired-clock (Free n) w = refl
acquired-clock (Thread u) w = refl
acquired-clock (Event e) w = refl
acquired-clock (Mutex m) w = refl
acquired-clock (Semaphore s) w = refl
acquired-clock (Timer t) w = refl
acquired-clock (AddressArbiter a) w = refl
acquired-clock Process w = refl
acquired-clock ResourceLimit w = refl

pub acquire-clock : (s : ObjectStore) (r w o : ℕ) → clock_at (acquire s r w) o ≡ clock_at s o
unfolding acquire
acquire-clock s r w o = content-clock s r (acquired (object_at s r) w) (acquired-clock (object_at s r) w) o

pub acquires-clock : (os : List ℕ) (s : ObjectStore) (w o : ℕ) → clock_at (acquires s os w) o ≡ clock_at s o
unfolding acquires
acquires-clock [] s w o = refl
acquires-clock (r ∷ os) s w o = acquires-clock os (acquire s r w) w o ∙ acquire-clock s r w o

quieted-clock : (x : KObject) → clock_of (quieted x) ≡ clock_of x
quieted-clock (Free n) = refl
quieted-clock (Thread u) = refl
quieted-clock (Event e) = refl
quieted-clock (Mutex m) = refl
quieted-clock (Semaphore s) = refl
quieted-clock (Timer t) = refl
quieted-clock (AddressArbiter a) = refl
quieted-clock Process = refl
quieted-clock ResourceLimit = refl

pub clear-clock : (s : ObjectStore) (o : ℕ) → clock_at (clear_pulses s) o ≡ clock_at s o
unfolding clear_pulses
clear-clock s o =
    slot_at-map clock_in unpulsed_slot (λ x. pick-both (λ (y : KObject). clock_of y ≡ clock_in x) x.pulsed (quieted x.object) x.object (quieted-clock x.object) refl) s.slots o

signaled-clock : (waited : Bool) (r : ℕ) (p : Bool) (x : KObject) → clock_in (signaled_slot waited (record { object = x; refcount = r; pulsed = p }) x) ≡ clock_of x
signaled-clock waited r p (Free n) = refl
signaled-clock waited r p (Thread u) = refl
signaled-clock waited r p (Event e) =
    pick-both (λ (y : Slot). clock_in y ≡ clock_of (Event e)) (is_pulse e.reset_type and not waited) (record { object = Event e; refcount = r; pulsed = p })
    (record { object = Event (signaled_event e); refcount = r; pulsed = p or is_pulse e.reset_type }) refl refl
signaled-clock waited r p (Mutex m) = refl
signaled-clock waited r p (Semaphore s) = refl
signaled-clock waited r p (Timer t) = refl
signaled-clock waited r p (AddressArbiter a) = refl
signaled-clock waited r p Process = refl
signaled-clock waited r p ResourceLimit = refl

pub signal-clock : (s : ObjectStore) (ts : List th.Thread) (r o : ℕ) → clock_at (signal_event s ts r) o ≡ clock_at s o
unfolding signal_event
signal-clock s ts r o =
    let x : Slot = slot_at s.slots r in
    slot-f clock_in s.slots r (signaled_slot (waited_sync ts r) x x.object) o (signaled-clock (waited_sync ts r) x.refcount x.pulsed x.object)

cleared-clock : (x : KObject) → clock_of (cleared_event x) ≡ clock_of x
cleared-clock (Free n) = refl
cleared-clock (Thread u) = refl
cleared-clock (Event e) = refl
cleared-clock (Mutex m) = refl
cleared-clock (Semaphore s) = refl
cleared-clock (Timer t) = refl
cleared-clock (AddressArbiter a) = refl
cleared-clock Process = refl
cleared-clock ResourceLimit = refl

pub clear_event-clock : (s : ObjectStore) (r o : ℕ) → clock_at (clear_event s r) o ≡ clock_at s o
unfolding clear_event
clear_event-clock s r o = content-clock s r (cleared_event (object_at s r)) (cleared-clock (object_at s r)) o

disowned-clock : (t : ℕ) (x : KObject) → clock_of (disowned t x) ≡ clock_of x
disowned-clock t (Free n) = refl
disowned-clock t (Thread u) = refl
disowned-clock t (Event e) = refl
disowned-clock t (Mutex m) = refl
disowned-clock t (Semaphore s) = refl
disowned-clock t (Timer u) = refl
disowned-clock t (AddressArbiter a) = refl
disowned-clock t Process = refl
disowned-clock t ResourceLimit = refl

pub disown-clock : (s : ObjectStore) (t o : ℕ) → clock_at (disown s t) o ≡ clock_at s o
unfolding disown
disown-clock s t o = slot_at-map clock_in (λ (x : Slot). with_object x (disowned t x.object)) (λ x. disowned-clock t x.object) s.slots o

-- ---- holders
pub add_ref-clock : (s : ObjectStore) (r o : ℕ) → clock_at (add_ref s r) o ≡ clock_at s o
unfolding add_ref
add_ref-clock s r o = pick-both (λ (y : ObjectStore). clock_at y o ≡ clock_at s o) (is_free (object_at s r)) s _ refl (slot-f clock_in s.slots r _ o refl)

pub add_refs-clock : (rs : List ℕ) (s : ObjectStore) (o : ℕ) → clock_at (add_refs s rs) o ≡ clock_at s o
unfolding add_refs
add_refs-clock [] s o = refl
add_refs-clock (r ∷ rs) s o = add_refs-clock rs (add_ref s r) o ∙ add_ref-clock s r o

-- ---- records of an arbiter
head-clock : (x : KObject) (n : ℕ) → clock_of (with_head x n) ≡ clock_of x
head-clock (Free m) n = refl
head-clock (Thread u) n = refl
head-clock (Event e) n = refl
head-clock (Mutex m) n = refl
head-clock (Semaphore s) n = refl
head-clock (Timer t) n = refl
head-clock (AddressArbiter a) n = refl
head-clock Process n = refl
head-clock ResourceLimit n = refl

pub relinked-clock : (s : ObjectStore) (r : ℕ) (u : Links) (o : ℕ) → clock_at (relinked s r u) o ≡ clock_at s o
relinked-clock s r u o = slot-f clock_in s.slots r _ o (head-clock (object_at s r) _)

pub retain-clock : (keep : ℕ → Bool) (s : ObjectStore) (r o : ℕ) → clock_at (retain keep s r) o ≡ clock_at s o
unfolding retain
retain-clock keep s r o = relinked-clock s r (unlinked keep s r) o

pub push-clock : (s : ObjectStore) (r t a o : ℕ) → clock_at (push s r t a) o ≡ clock_at s o
unfolding push
push-clock s r t a o =
    pick-both (λ (y : ObjectStore). clock_at y o ≡ clock_at s o) (is_arbiter (object_at s r)) _ s
    (pick-both (λ (y : ObjectStore). clock_at y o ≡ clock_at s o) (has? (waiter_threads s.waiters) (waiter_addresses s.waiters) t a (chain_of s r)) s (pushed s r t a) refl
    (slot-f clock_in s.slots r _ o (head-clock (object_at s r) _))) refl

pub drop-clock : (n r t : ℕ) (s : ObjectStore) (o : ℕ) → clock_at (drop_thread n r t s) o ≡ clock_at s o
unfolding drop_thread
drop-clock zero r t s o = refl
drop-clock (suc n) r t s o = drop-clock n (suc r) t (retain (of_others s t) s r) o ∙ retain-clock (of_others s t) s r o
