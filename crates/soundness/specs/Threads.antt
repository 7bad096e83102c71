-- The thread table after one place is changed: who may run, lists, names, and what objects say of threads.
use Rattle.std.specs.Prelude.{◌≡◌, true, false, ◌≢◌, List, ℕ, ◌-◌, ◌≤◌, ◌<◌, length, set, Option, Some, None}
use Rattle.std.proofs.Common.{sym, subst, inl, inr, arith, get_or-set_same, get_or-set_other}
use Rattle.laws.specs.Logic.{lt-cases}
use Rattle.laws.specs.Count.{ind-cases}
use Rattle.types.specs.declared.thread.ThreadStatus.{ThreadStatus}
use Rattle.types.specs.declared.thread.ThreadStatus.TheVariants.{Dead, Running, Ready, Sleeping, WaitSync, WaitArbiter, Dormant}
use Rattle.types.specs.declared.thread.Thread as th
use Rattle.types.specs.declared.object.KObject.{KObject}
use Rattle.types.specs.declared.object.KObject.TheVariants.{Free, Thread, Event, Mutex, Semaphore, Timer, AddressArbiter, Process, ResourceLimit}
use Rattle.types.specs.declared.object.HandleTable.{HandleTable}
use Rattle.types.specs.Thread.{is_dead}
use Rattle.sound.specs.View.{ids, no_thread, thread_at}
use Rattle.sound.specs.Threads.{Zeros, Places, Only, RunOk, PlaceOk, CurrentOk, ThreadsOk}
use Rattle.sound.specs.Objects.{names, Live, OwnerOk, ContentOk}
use Rattle.sound.specs.Sound.{zeros_count}
use Rattle.soundness.specs.Names.{waits-set}

-- ---- one place anew
pub thread-same : (ts : List th.Thread) (i : ℕ) (v : th.Thread) → i < length ts → thread_at (set ts i v) i ≡ v
thread-same ts i v h = get_or-set_same ts i v no_thread h

pub thread-other : (ts : List th.Thread) (i j : ℕ) (v : th.Thread) → j ≢ i → thread_at (set ts i v) j ≡ thread_at ts j
thread-other ts i j v n = get_or-set_other ts i j v no_thread n

module _ (n n' : ℕ) (c c' : Option ℕ) (ts : List th.Thread) (i : ℕ) (v : th.Thread) where
  -- what holds of the other places still holds of them
  pub record Others : Type 0 where
    pub run : (j : ℕ) → j ≢ i → (s : ThreadStatus) → RunOk s c j → RunOk s c' j
    pub used : (j : ℕ) → j ≢ i → j < n' → j < n
    pub unused : (j : ℕ) → j ≢ i → n' ≤ j → n ≤ j

  place_as : (o : Others) (j : ℕ) (t : th.Thread) → j ≢ i → PlaceOk n c j t → PlaceOk n' c' j t
  place_as o j t e p = record {
    used = λ l. let u = p.used (o.used j e l) in record { priority = u.priority; run = o.run j e t.status u.run; list = u.list; only = u.only };
    unused = λ l. p.unused (o.unused j e l);
  }

  pub threads-set : length ts ≡ 32 → i < 32 → n' ≤ 32 → CurrentOk c' n' → PlaceOk n' c' i v → Others → ThreadsOk n c ts → ThreadsOk n' c' (set ts i v)
  threads-set e l m q p o h = record {
    many = m;
    current = q;
    each = λ j z. elim (ind-cases j i) [
      | inl x ↦ subst (λ (k : ℕ). PlaceOk n' c' k (thread_at (set ts i v) k)) (sym x.0) (subst (PlaceOk n' c' i) (sym (thread-same ts i v (omega arith))) p)
      | inr x ↦ subst (PlaceOk n' c' j) (sym (thread-other ts i j v x.0)) (place_as o j (thread_at ts j) x.0 (h.each j z))
    ];
  }

-- ---- lists
-- a thread that is not waiting on objects has no list
pub no-list : (n : ℕ) (c : Option ℕ) (i : ℕ) (t : th.Thread) → t.wait_count ≡ 0 → PlaceOk n c i t
    → Zeros (ids t.wait_objects)
no-list n c i t e p =
    elim (lt-cases i n) [
      | inl l ↦ subst (λ (k : ℕ). Places k (ids t.wait_objects)) e (p.used l).list
      | inr l ↦ (p.unused l).1
    ]

pub dead-list : (n : ℕ) (c : Option ℕ) (i : ℕ) (t : th.Thread) → is_dead t.status ≡ true → PlaceOk n c i t
    → Zeros (ids t.wait_objects)
dead-list n c i t d p =
    elim (lt-cases i n) [
      | inl l ↦ subst (λ (k : ℕ). Places k (ids t.wait_objects)) (count-zero t.status t.wait_count d (p.used l).only) (p.used l).list
      | inr l ↦ (p.unused l).1
    ]
  where
    count-zero : (s : ThreadStatus) (m : ℕ) → is_dead s ≡ true → Only s m → m ≡ 0
    count-zero Dead m e o = o
    count-zero Running m e o = o
    count-zero Ready m e o = o
    count-zero Sleeping m e o = o
    count-zero WaitSync m e o = cc
    count-zero WaitArbiter m e o = o
    count-zero Dormant m e o = o

-- names after a place without a list gets a thread without one
pub names_same : (t : HandleTable) (ts : List th.Thread) (i : ℕ) (v : th.Thread) → i < length ts → Zeros (ids (thread_at ts i).wait_objects) → Zeros (ids v.wait_objects)
    → (o : ℕ) → 0 < o → names t (set ts i v) o ≡ names t ts o
unfolding names
names_same t ts i v l a b o p =
    omega (arith, waits-set o ts i v l, zeros_count o (ids (thread_at ts i).wait_objects) p a, zeros_count o (ids v.wait_objects) p b)

-- ---- what objects say of threads
pub content-more : (n n' : ℕ) (ts ts' : List th.Thread) → n ≤ n' → ((t : ℕ) → Live ts t → Live ts' t) → (x : KObject) → ContentOk n ts x → ContentOk n' ts' x
content-more n n' ts ts' h f (Free m) c = tt
content-more n n' ts ts' h f (Thread t) c = omega (arith, c)
content-more n n' ts ts' h f (Event e) c = tt
content-more n n' ts ts' h f (Mutex m) c = owner m.owner c
  where
    owner : (w : Option ℕ) → OwnerOk ts w → OwnerOk ts' w
    owner None o = tt
    owner (Some t) o = f t o
content-more n n' ts ts' h f (Semaphore s) c = tt
content-more n n' ts ts' h f (Timer t) c = tt
content-more n n' ts ts' h f (AddressArbiter a) c = tt
content-more n n' ts ts' h f Process c = tt
content-more n n' ts ts' h f ResourceLimit c = tt

-- a live thread in place of another leaves the live ones live
pub live-set : (ts : List th.Thread) (i : ℕ) (v : th.Thread) → i < length ts → is_dead v.status ≡ false → (t : ℕ) → Live ts t → Live (set ts i v) t
live-set ts i v l a t h =
    elim (ind-cases t i) [
      | inl e ↦ subst (λ (k : ℕ). Live (set ts i v) k) (sym e.0) (subst (λ (x : th.Thread). is_dead x.status ≡ false) (sym (thread-same ts i v l)) a)
      | inr e ↦ subst (λ (x : th.Thread). is_dead x.status ≡ false) (sym (thread-other ts i t v e.0)) h
    ]

-- a thread that ends leaves the others live
pub live-ended : (ts : List th.Thread) (i : ℕ) (v : th.Thread) (t : ℕ) → t ≢ i → Live ts t → Live (set ts i v) t
live-ended ts i v t n h = subst (λ (x : th.Thread). is_dead x.status ≡ false) (sym (thread-other ts i t v n)) h
