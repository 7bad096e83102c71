-- What the clauses of question 2 look at: columns of the tables, and the cells of slots.
use Rattle.std.specs.Prelude.{◌≡◌, refl, Bool, false, ◌≢◌, List, [], map, ℕ, zero, suc, ◌-◌, ◌≤◌, ◌<◌, length, get_or}
use Rattle.std.specs.Prelude.{take, None}
use Rattle.std.proofs.Common.{ap, sym, ◌∙◌, inl, inr, arith}
use Rattle.std.proofs.Math.ListN.{get_or-map, get_or-eq_default}
use Rattle.std.proofs.lemmas.List.{take-map}
use Rattle.laws.specs.Count.{at}
use Rattle.laws.specs.Numbers.{all_to, t-all_to, cell-cases}
use Rattle.laws.specs.Test.{Test, t_as}
use Rattle.units.specs.declared.ObjectId.{ObjectId}
use Rattle.types.specs.declared.thread.Thread.{Thread}
use Rattle.types.specs.declared.thread.ThreadStatus.TheVariants.{Dead}
use Rattle.types.specs.declared.object.KObject.{KObject}
use Rattle.types.specs.declared.object.KObject.TheVariants.{Free}
use Rattle.types.specs.declared.object.Slot.{Slot}
use Rattle.types.specs.declared.object.Waiter.{Waiter}
use Rattle.types.specs.declared.object.HandleEntry.{HandleEntry}
use Rattle.types.specs.declared.object.ObjectStore.{ObjectStore}
use Rattle.types.specs.Object.{kind_number, next_of, head_of}

-- ---- columns
abbrev pub kinds : List Slot → List ℕ
kinds l = map (λ (s : Slot). kind_number s.object) l

abbrev pub refs : List Slot → List ℕ
refs l = map (λ (s : Slot). s.refcount) l

abbrev pub nexts : List Slot → List ℕ
nexts l = map (λ (s : Slot). next_of s.object) l

-- the first record of each object; 0 for what is no arbiter
abbrev pub heads : List Slot → List ℕ
heads l = map (λ (s : Slot). head_of s.object) l

abbrev pub waiter_nexts : List Waiter → List ℕ
waiter_nexts l = map (λ (w : Waiter). w.next) l

abbrev pub waiter_threads : List Waiter → List ℕ
waiter_threads l = map (λ (w : Waiter). w.thread) l

abbrev pub waiter_addresses : List Waiter → List ℕ
waiter_addresses l = map (λ (w : Waiter). w.address) l

abbrev pub ids : List ObjectId → List ℕ
ids l = map (λ (o : ObjectId). o.0) l

-- the first n numbers are those of the first n objects
pub first_ids : (l : List ObjectId) (n : ℕ) → ids (take n l) ≡ take n (ids l)
first_ids l n = sym (take-map (λ (o : ObjectId). o.0) n l)

-- the object of each handle
abbrev pub handled : List HandleEntry → List ℕ
handled l = map (λ (e : HandleEntry). e.object.0) l

-- the list of each thread
abbrev pub lists : List Thread → List (List ℕ)
lists l = map (λ (t : Thread). ids t.wait_objects) l

-- ---- what lies past the end of a table
abbrev pub no_slot : Slot
no_slot = record { object = Free 0; refcount = 0; pulsed = false }

abbrev pub no_thread : Thread
no_thread = record {
  status = Dead;
  priority = 0;
  entry = 0;
  stack_top = 0;
  tls = 0;
  processor_id = 0;
  wait_objects = [];
  wait_count = 0;
  wait_all = false;
  wakeup_at = None;
  running_since = record { 0 = 0 };
  waited = false;
  wait_address = None;
  wait_result = None;
  wait_syscall = None;
  guest_id = 0;
}

-- the slot of an object, numbered from 1
unfoldable pub slot_at : List Slot → ℕ → Slot
slot_at l zero = no_slot
slot_at l (suc i) = get_or l i no_slot

abbrev pub object_at : ObjectStore → ℕ → KObject
object_at s o = (slot_at s.slots o).object

abbrev pub thread_at : List Thread → ℕ → Thread
thread_at l t = get_or l t no_thread

pub at_slots : (f : Slot → ℕ) (l : List Slot) (r : ℕ) → f no_slot ≡ 0 → at (map f l) r ≡ f (slot_at l r)
unfolding slot_at at
at_slots f l zero e = sym e
at_slots f l (suc i) e = ap (λ d. get_or (map f l) i d) (sym e) ∙ get_or-map f l i no_slot

-- a number that is not 0 has the slot before it in the list; 0 and a number past the end have none
pub slot_at-pos : (l : List Slot) (n : ℕ) → n ≢ 0 → slot_at l n ≡ get_or l (n - 1) no_slot
unfolding slot_at
slot_at-pos l zero p = absurd (p refl)
slot_at-pos l (suc n) p = let e : suc n - 1 ≡ n = omega arith in rw e

-- a number past the places reads as no thread
pub thread_at-out : (l : List Thread) (t : ℕ) → length l ≤ t → thread_at l t ≡ no_thread
thread_at-out l t h = get_or-eq_default l no_thread h

pub slot_at-out : (l : List Slot) (i : ℕ) → (0 < i → length l < i) → slot_at l i ≡ no_slot
unfolding slot_at
slot_at-out l zero h = refl
slot_at-out l (suc i) h = get_or-eq_default l no_slot (omega (arith, h (omega arith)))

-- ---- a test of every slot
pub t-slots : (n : ℕ) (l : List Slot) {f : ℕ → Bool} {P : ℕ → Type 0} → length l ≡ n → ((i : ℕ) → Test (f i) (P i)) → ((i : ℕ) → slot_at l i ≡ no_slot → P i)
    → Test (all_to n f) ((i : ℕ) → P i)
t-slots n l e t out =
    t_as (λ h i. elim (cell-cases n i) [ inl k ↦ h i k.0 k.1 | inr k ↦ out i (slot_at-out l i (λ p. omega (arith, k p))) ]) (λ h i a b. h i) (t-all_to n t)
