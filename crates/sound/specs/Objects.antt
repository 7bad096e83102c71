-- "each named object live ..; each count = handles + list places + 1 for a kept thread or process object, at least 1; free chain exactly the dead slots;
-- every thread number named exists, mutex owners not Dead; a kept object is a thread object naming its own thread, or the process object".
-- `timers` is the set of live timer slots by definition, so nothing is asked of it.
use Rattle.std.specs.Prelude.{◌≡◌, refl, Bool, true, false, not, List, [], ◌∷◌, ℕ, ◌+◌, ◌-◌, ◌≤◌, ◌<◌, eqb, leb, ltb}
use Rattle.std.specs.Prelude.{length, get_or, Option, Some, None}
use Rattle.std.proofs.Common.{ap, sym, subst, ◌∙◌, inl, inr, arith}
use Rattle.std.proofs.lemmas.List.{length-map}
use Rattle.std.proofs.Math.ListN.{get_or-eq_default}
use Rattle.laws.specs.Logic.{◌and◌, ◌or◌, and-true, true-and, lt-cases}
use Rattle.laws.specs.Test.{Test, t-yes, t_never, t-eq, t-le, t-lt, t-and, t_as, t_not, t-zero-or}
use Rattle.laws.specs.Numbers.{all_to, all_below, t-all_below}
use Rattle.laws.specs.Count.{count, count_all, ind, ind-other, ind-same}
use Rattle.laws.specs.Store.{Store}
use Rattle.laws.specs.StoreTest.{store?, store-yes, yes-store, at_out}
use Rattle.units.specs.declared.ObjectId.{ObjectId}
use Rattle.types.specs.declared.thread.Thread as th
use Rattle.types.specs.declared.object.KObject.{KObject}
use Rattle.types.specs.declared.object.KObject.TheVariants.{Free, Thread, Event, Mutex, Semaphore, Timer, AddressArbiter, Process, ResourceLimit}
use Rattle.types.specs.declared.object.Slot.{Slot}
use Rattle.types.specs.declared.object.HandleTable.{HandleTable}
use Rattle.types.specs.declared.object.ObjectStore.{ObjectStore}
use Rattle.types.specs.Thread.{is_dead}
use Rattle.types.specs.Object.{kind_number}
use Rattle.sound.specs.View.{kinds, refs, nexts, ids, handled, lists, object_at, thread_at, t-slots}

-- ---- how often the object i is named by handles and lists; an unused place names 0
unfoldable pub names : HandleTable → List th.Thread → ℕ → ℕ
names t ts i = count i (handled t.entries) + count_all i (lists ts)

-- by kept thread and process objects
unfoldable pub kept_names : ObjectStore → ℕ → ℕ
kept_names s i = count i (ids s.thread_objects) + ind s.process_object.0 i

-- ---- the counts are what `base` and the kept objects say, and the free chain has the dead slots
abbrev pub Held : ObjectStore → (ℕ → ℕ) → Type 0
Held s base = Store (kinds s.slots) (refs s.slots) (nexts s.slots) s.free (λ i. base i + kept_names s i)

unfoldable pub held? : ObjectStore → (ℕ → ℕ) → Bool
held? s base = store? (kinds s.slots) (refs s.slots) (nexts s.slots) s.free (λ i. base i + kept_names s i)

-- ---- kept numbers are numbers of slots
unfoldable pub up_to128 : List ℕ → Bool
up_to128 [] = true
up_to128 (x ∷ xs) = leb x 128 and up_to128 xs

t-up_to128 : (l : List ℕ) → Test (up_to128 l) ((o : ℕ) → 128 < o → count o l ≡ 0)
unfolding up_to128 count
t-up_to128 [] = record { yes = λ e o p. refl; has = λ h. refl }
t-up_to128 (x ∷ xs) =
    t_as (λ h o p. omega (arith, h.1 o p, ind-other x o (omega (arith, h.0))))
    (λ h. (elim (lt-cases 128 x) [ inl q ↦ absurd (omega (arith, h x q, ind-same x)) | inr q ↦ q ], λ o p. omega (arith, h o p)))
    (t-and (t-le x 128) (t-up_to128 xs))

t_one128 : (k : ℕ) → Test (leb k 128) ((o : ℕ) → 128 < o → ind k o ≡ 0)
t_one128 k =
    t_as (λ h o p. ind-other k o (omega (arith, h))) (λ h. elim (lt-cases 128 k) [ inl q ↦ absurd (omega (arith, h k q, ind-same k)) | inr q ↦ q ]) (t-le k 128)

unfoldable pub kept_in? : ObjectStore → Bool
kept_in? s = up_to128 (ids s.thread_objects) and leb s.process_object.0 128

pub t-kept_in : (s : ObjectStore) → Test (kept_in? s) ((o : ℕ) → 128 < o → kept_names s o ≡ 0)
unfolding kept_in? kept_names
t-kept_in s =
    t_as (λ h o p. omega (arith, h.0 o p, h.1 o p)) (λ h. ((λ o p. omega (arith, h o p)), (λ o p. omega (arith, h o p))))
    (t-and (t-up_to128 (ids s.thread_objects)) (t_one128 s.process_object.0))

-- the second test may lean on what the first tells
t-and_then : {a b : Bool} {P Q : Type 0} → Test a P → (P → Test b Q) → Test (a and b) (P × Q)
t-and_then t u = record {
  yes = λ x. let p = t.yes (and-true _ _ x).0 in (p, (u p).yes (and-true _ _ x).1);
  has = λ h. true-and _ _ (t.has h.0) ((u h.0).has h.1);
}

-- the counts, where no other name is past the last slot
pub t-held : (s : ObjectStore) (base : ℕ → ℕ) → length s.slots ≡ 128 → ((o : ℕ) → 128 < o → base o ≡ 0) → Test (kept_in? s and held? s base) (Held s base)
unfolding held?
t-held s base e far =
    let n : length (kinds s.slots) ≡ 128 = length-map s.slots (λ (x : Slot). kind_number x.object) ∙ e in
    t_as (λ h. h.1) (λ h. ((λ o p. omega (arith, sym (h.counted o (omega arith)) ∙ at_out (refs s.slots) o (omega (arith, h.lr)))), h))
    (with-far n)
  where
    with-far : length (kinds s.slots) ≡ 128
        → Test (kept_in? s and store? (kinds s.slots) (refs s.slots) (nexts s.slots) s.free (λ i. base i + kept_names s i))
        (((o : ℕ) → 128 < o → kept_names s o ≡ 0) × Store (kinds s.slots) (refs s.slots) (nexts s.slots) s.free (λ i. base i + kept_names s i))
    with-far n =
        t-and_then (t-kept_in s)
        (λ k. record {
          yes = store-yes (kinds s.slots) (refs s.slots) (nexts s.slots) s.free _ (λ o p. omega (arith, far o (omega arith), k o (omega arith)));
          has = yes-store (kinds s.slots) (refs s.slots) (nexts s.slots) s.free _;
        })

-- ---- what an object names of threads and of the process
pub data Ref : Type 0 where
  of_thread : ℕ → Ref
  of_process of_none : Ref

abbrev pub ref_of : KObject → Ref
ref_of (Free n) = of_none
ref_of (Thread t) = of_thread t
ref_of (Event e) = of_none
ref_of (Mutex m) = of_none
ref_of (Semaphore c) = of_none
ref_of (Timer t) = of_none
ref_of (AddressArbiter a) = of_none
ref_of Process = of_process
ref_of ResourceLimit = of_none

abbrev pub is_thread? : ℕ → KObject → Bool
is_thread? t (Free n) = false
is_thread? t (Thread u) = eqb u t
is_thread? t (Event e) = false
is_thread? t (Mutex m) = false
is_thread? t (Semaphore c) = false
is_thread? t (Timer x) = false
is_thread? t (AddressArbiter a) = false
is_thread? t Process = false
is_thread? t ResourceLimit = false

abbrev pub is_process? : KObject → Bool
is_process? (Free n) = false
is_process? (Thread u) = false
is_process? (Event e) = false
is_process? (Mutex m) = false
is_process? (Semaphore c) = false
is_process? (Timer x) = false
is_process? (AddressArbiter a) = false
is_process? Process = true
is_process? ResourceLimit = false

pub none-thread : (t : ℕ) → of_none ≡ of_thread t → ⊥
none-thread t e = let z : ◌≡◌ {A = ℕ} 0 1 = cc in omega arith

process-thread : (t : ℕ) → of_process ≡ of_thread t → ⊥
process-thread t e = let z : ◌≡◌ {A = ℕ} 0 1 = cc in omega arith

pub none-process : of_none ≡ of_process → ⊥
none-process e = let z : ◌≡◌ {A = ℕ} 0 1 = cc in omega arith

thread-process : (t : ℕ) → of_thread t ≡ of_process → ⊥
thread-process t e = let z : ◌≡◌ {A = ℕ} 0 1 = cc in omega arith

t_is_thread : (t : ℕ) (x : KObject) → Test (is_thread? t x) (ref_of x ≡ of_thread t)
t_is_thread t (Free n) = t_never (none-thread t)
t_is_thread t (Thread u) = t_as (λ e. ap of_thread e) (λ e. cc) (t-eq u t)
t_is_thread t (Event e) = t_never (none-thread t)
t_is_thread t (Mutex m) = t_never (none-thread t)
t_is_thread t (Semaphore c) = t_never (none-thread t)
t_is_thread t (Timer x) = t_never (none-thread t)
t_is_thread t (AddressArbiter a) = t_never (none-thread t)
t_is_thread t Process = t_never (process-thread t)
t_is_thread t ResourceLimit = t_never (none-thread t)

t_is_process : (x : KObject) → Test (is_process? x) (ref_of x ≡ of_process)
t_is_process (Free n) = t_never none-process
t_is_process (Thread u) = t_never (thread-process u)
t_is_process (Event e) = t_never none-process
t_is_process (Mutex m) = t_never none-process
t_is_process (Semaphore c) = t_never none-process
t_is_process (Timer x) = t_never none-process
t_is_process (AddressArbiter a) = t_never none-process
t_is_process Process = record { yes = λ e. refl; has = λ h. refl }
t_is_process ResourceLimit = t_never none-process

-- ---- a kept object is a thread object naming its own thread, or the process object
abbrev pub kept_at : ObjectStore → ℕ → ℕ
kept_at s t = get_or (ids s.thread_objects) t 0

pub record KeptOk (s : ObjectStore) : Type 0 where
  pub thread : (t : ℕ) → 0 < kept_at s t → ref_of (object_at s (kept_at s t)) ≡ of_thread t
  pub process : 0 < s.process_object.0 → ref_of (object_at s s.process_object.0) ≡ of_process

unfoldable pub kept? : ObjectStore → Bool
kept? s =
    all_below 32 (λ t. eqb (kept_at s t) 0 or is_thread? t (object_at s (kept_at s t)))
    and (eqb s.process_object.0 0 or is_process? (object_at s s.process_object.0))

pub t-kept : (s : ObjectStore) → length s.thread_objects ≡ 32 → Test (kept? s) (KeptOk s)
unfolding kept?
t-kept s e =
    t_as
    (λ h. record {
      thread = λ t z. elim (lt-cases t 32) [ inl l ↦ h.0 t l z | inr l ↦ absurd (omega (arith, z, out t l)) ];
      process = h.1;
    })
    (λ h. ((λ t l. h.thread t), h.process))
    (t-and (t-all_below 32 (λ t. t-zero-or (kept_at s t) _ (t_is_thread t (object_at s (kept_at s t)))))
    (t-zero-or s.process_object.0 _ (t_is_process (object_at s s.process_object.0))))
  where
    out : (t : ℕ) → 32 ≤ t → kept_at s t ≡ 0
    out t l = get_or-eq_default (ids s.thread_objects) 0 (omega (arith, e, length-map s.thread_objects (λ (o : ObjectId). o.0)))

-- ---- thread numbers that objects name exist, owners not Dead
abbrev pub Live : List th.Thread → ℕ → Type 0
Live ts t = is_dead (thread_at ts t).status ≡ false

abbrev pub OwnerOk : List th.Thread → Option ℕ → Type 0
OwnerOk ts None = Unit {0}
OwnerOk ts (Some t) = Live ts t

abbrev pub owner? : List th.Thread → Option ℕ → Bool
owner? ts None = true
owner? ts (Some t) = not (is_dead (thread_at ts t).status)

t-owner : (ts : List th.Thread) (w : Option ℕ) → Test (owner? ts w) (OwnerOk ts w)
t-owner ts None = t-yes
t-owner ts (Some t) = t_not (is_dead (thread_at ts t).status)

abbrev pub ContentOk : ℕ → List th.Thread → KObject → Type 0
ContentOk n ts (Free x) = Unit {0}
ContentOk n ts (Thread t) = t < n
ContentOk n ts (Event e) = Unit {0}
ContentOk n ts (Mutex m) = OwnerOk ts m.owner
ContentOk n ts (Semaphore c) = Unit {0}
ContentOk n ts (Timer t) = Unit {0}
ContentOk n ts (AddressArbiter a) = Unit {0}
ContentOk n ts Process = Unit {0}
ContentOk n ts ResourceLimit = Unit {0}

abbrev pub content? : ℕ → List th.Thread → KObject → Bool
content? n ts (Free x) = true
content? n ts (Thread t) = ltb t n
content? n ts (Event e) = true
content? n ts (Mutex m) = owner? ts m.owner
content? n ts (Semaphore c) = true
content? n ts (Timer t) = true
content? n ts (AddressArbiter a) = true
content? n ts Process = true
content? n ts ResourceLimit = true

t-content : (n : ℕ) (ts : List th.Thread) (x : KObject) → Test (content? n ts x) (ContentOk n ts x)
t-content n ts (Free x) = t-yes
t-content n ts (Thread t) = t-lt t n
t-content n ts (Event e) = t-yes
t-content n ts (Mutex m) = t-owner ts m.owner
t-content n ts (Semaphore c) = t-yes
t-content n ts (Timer t) = t-yes
t-content n ts (AddressArbiter a) = t-yes
t-content n ts Process = t-yes
t-content n ts ResourceLimit = t-yes

-- something of every object
abbrev pub Each : (KObject → Type 0) → ObjectStore → Type 0
Each P s = (o : ℕ) → P (object_at s o)

unfoldable pub contents? : ℕ → List th.Thread → ObjectStore → Bool
contents? n ts s = all_to 128 (λ o. content? n ts (object_at s o))

pub t-contents : (n : ℕ) (ts : List th.Thread) (s : ObjectStore) → length s.slots ≡ 128 → Test (contents? n ts s) (Each (ContentOk n ts) s)
unfolding contents?
t-contents n ts s e =
    t-slots 128 s.slots e (λ o. t-content n ts (object_at s o)) (λ o q. subst (λ (y : Slot). ContentOk n ts y.object) (sym q) tt)
