-- What the calls find from the state k on, in which the object of their handle is there. Assumes nothing.
use Rattle.std.specs.Prelude.{Some, None, if◌then◌else◌}
use mathlib.Core.Path.{◌≡◌, refl, sym, ◌∙◌}
use mathlib.Core.Bool.{Bool, true, false}
use mathlib.Core.List.{List}
use Prim.Native.Nat.{ℕ}
use lib.Dec.{eqb}
use Rattle.laws.specs.Logic.{◌or◌, or-false}
use Rattle.types.specs.declared.object.KObject.{KObject}
use Rattle.types.specs.declared.object.KObject.TheVariants.{Free, Thread, Event, Mutex, Semaphore, Timer, AddressArbiter, Process, ResourceLimit}
use Rattle.types.specs.declared.object.ObjectStore.{ObjectStore}
use Rattle.types.specs.declared.sync.Mutex as mu
use Rattle.types.specs.declared.sync.Semaphore as se
use Rattle.types.specs.declared.kernel.Kernel.{Kernel}
use Rattle.block.specs.Block.{dec_block, enc_block}
use Rattle.sound.specs.View.{object_at}
use Rattle.object.specs.Slots.{content}
use Rattle.pass.specs.Signal as pass
use Rattle.svc.specs.declared.Registers.{Registers}
use Rattle.svc.specs.Call.{with_objects, with_over, resolved, answers}
use Rattle.svc.specs.Sync.{release_mutex_as, release_mutex, sum_over, released_semaphore, release_semaphore_as, release_semaphore, signal_event, clear_event}
use Rattle.lent.specs.Operations.{finding, out_of_handles?}
use Rattle.outcome.specs.Findings.{found_of, none_found, parts-finding, over-finding, pick-finding}
use Rattle.objects.proofs.Changed.{slots-finding, content-finding}

-- another kind of object, and none
pub not_mutex : (x : KObject) (k : Kernel) (o : ℕ) → ((m : mu.Mutex) → x ≡ Mutex m → ⊥) → release_mutex_as x k o ≡ answers 16 k
not_mutex (Free n) k o z = refl
not_mutex (Thread t) k o z = refl
not_mutex (Event e) k o z = refl
not_mutex (Mutex m) k o z = absurd (z m refl)
not_mutex (Semaphore s) k o z = refl
not_mutex (Timer t) k o z = refl
not_mutex (AddressArbiter a) k o z = refl
not_mutex Process k o z = refl
not_mutex ResourceLimit k o z = refl

pub not_semaphore : (x : KObject) (k : Kernel) (o n : ℕ) → ((s : se.Semaphore) → x ≡ Semaphore s → ⊥) → release_semaphore_as x k o n ≡ answers 16 k
not_semaphore (Free m) k o n z = refl
not_semaphore (Thread t) k o n z = refl
not_semaphore (Event e) k o n z = refl
not_semaphore (Mutex m) k o n z = refl
not_semaphore (Semaphore s) k o n z = absurd (z s refl)
not_semaphore (Timer t) k o n z = refl
not_semaphore (AddressArbiter a) k o n z = refl
not_semaphore Process k o n z = refl
not_semaphore ResourceLimit k o n z = refl

pub mutex_finding : (x : KObject) (k : Kernel) (o : ℕ) → finding (release_mutex_as x k o).kernel ≡ finding k
mutex_finding (Free n) k o = refl
mutex_finding (Thread t) k o = refl
mutex_finding (Event e) k o = refl
mutex_finding (Mutex m) k o = content-finding k o _
mutex_finding (Semaphore s) k o = refl
mutex_finding (Timer t) k o = refl
mutex_finding (AddressArbiter a) k o = refl
mutex_finding Process k o = refl
mutex_finding ResourceLimit k o = refl

pub signal-finding : (k : Kernel) (o : ℕ) → finding (with_objects k (pass.signal_event k.objects k.threads o)) ≡ finding k
unfolding pass.signal_event
signal-finding k o = slots-finding k _

pub clear-finding : (k : Kernel) (o : ℕ) → finding (with_objects k (pass.clear_event k.objects o)) ≡ finding k
unfolding pass.clear_event
clear-finding k o = content-finding k o _

-- ---- the whole call finds what opening its handle found
pub release_mutex-finding : (k : Kernel) (r : Registers) → finding (release_mutex k r).kernel ≡ finding (with_objects k (resolved k r.r0).store)
unfolding release_mutex
release_mutex-finding k r = mutex_finding (object_at (resolved k r.r0).store (resolved k r.r0).object.0) (with_objects k (resolved k r.r0).store) (resolved k r.r0).object.0

pub signal_event-finding : (k : Kernel) (r : Registers) → finding (signal_event k r).kernel ≡ finding (with_objects k (resolved k r.r0).store)
unfolding signal_event
signal_event-finding k r = pick-finding (eqb (resolved k r.r0).object.0 0) (finding (with_objects k (resolved k r.r0).store)) _ _ refl (signal-finding (with_objects k (resolved k r.r0).store) (resolved k r.r0).object.0)

pub clear_event-finding : (k : Kernel) (r : Registers) → finding (clear_event k r).kernel ≡ finding (with_objects k (resolved k r.r0).store)
unfolding clear_event
clear_event-finding k r = pick-finding (eqb (resolved k r.r0).object.0 0) (finding (with_objects k (resolved k r.r0).store)) _ _ refl (clear-finding (with_objects k (resolved k r.r0).store) (resolved k r.r0).object.0)

-- ---- a sum of a semaphore
module _ (k : Kernel) (z : finding k ≡ 0) (o : ℕ) (s : se.Semaphore) (n : ℕ) where
  nothing : ((k.full or (k.objects.full or k.handles.full)) ≡ false) × ((k.overflow or (k.objects.overflow or (k.handles.overflow or out_of_handles? k))) ≡ false)
  unfolding finding
  nothing = none_found (k.full or (k.objects.full or k.handles.full)) (k.overflow or (k.objects.overflow or (k.handles.overflow or out_of_handles? k))) z

  none_over : k.overflow ≡ false
  none_over = (or-false k.overflow (k.objects.overflow or (k.handles.overflow or out_of_handles? k)) nothing.1).0

  no-sum : (k.objects.overflow or (k.handles.overflow or out_of_handles? k)) ≡ false
  no-sum = (or-false k.overflow (k.objects.overflow or (k.handles.overflow or out_of_handles? k)) nothing.1).1

  pub semaphore_over : sum_over s.count n ≡ true → finding (release_semaphore_as (Semaphore s) k o n).kernel ≡ 8
  unfolding finding content out_of_handles? ◌or◌
  semaphore_over e = rw (e, none_over, nothing.0)

  pub semaphore_fits : sum_over s.count n ≡ false → finding (release_semaphore_as (Semaphore s) k o n).kernel ≡ 0
  unfolding finding content out_of_handles? ◌or◌
  semaphore_fits e = rw (e, none_over, nothing.0, no-sum)

-- a sum that does not fit leaves no semaphore
pub fits-of : {A : Type 0} (t : Bool) (x y : A) → (if t then None else Some x) ≡ Some y → (t ≡ false) × (y ≡ x)
fits-of true x y e = absurd cc
fits-of false x y e = (refl, cc)

pub over-of : {A : Type 0} (t : Bool) (x : A) → ((y : A) → (if t then None else Some x) ≡ Some y → ⊥) → t ≡ true
over-of true x z = refl
over-of false x z = absurd (z x refl)

-- what was found of a sum is in no block
pub same_block : (k : Kernel) (s : ObjectStore) (v : Bool) → enc_block (with_objects k s) ≡ enc_block (with_over (with_objects k s) v)
unfolding enc_block
same_block k s v = refl

found_first : (f v w : Bool) → (found_of f v ≡ 0 → ⊥) → found_of f (w or v) ≡ found_of f v
unfolding ◌or◌
found_first true v w z = refl
found_first false true true z = refl
found_first false true false z = refl
found_first false false w z = absurd (z refl)

over-content : (b : List ℕ) (s : ObjectStore) (o : ℕ) (v : KObject) (w : Bool) → (finding (with_objects (dec_block b) s) ≡ 0 → ⊥)
    → finding (with_over (with_objects (dec_block b) (content s o v)) ((dec_block b).overflow or w)) ≡ finding (with_objects (dec_block b) s)
unfolding content dec_block ◌or◌
over-content b s o v w z =
    let e = parts-finding b (dec_block b).threads s in
    over-finding b (dec_block b).threads (content s o v) w ∙ found_first s.full (s.overflow or out_of_handles? (dec_block b)) w (λ u. z (e ∙ u)) ∙ sym e

-- ---- a semaphore that is not reached: opening its handle found something, a sum or none is not looked at
first : (y : KObject) (b : List ℕ) (s : ObjectStore) (o n : ℕ) → (finding (with_objects (dec_block b) s) ≡ 0 → ⊥) → finding (release_semaphore_as y (with_objects (dec_block b) s) o n).kernel ≡ finding (with_objects (dec_block b) s)
first (Free m) b s o n z = refl
first (Thread t) b s o n z = refl
first (Event e) b s o n z = refl
first (Mutex m) b s o n z = refl
first (Semaphore c) b s o n z = over-content b s o (Semaphore (released_semaphore c n)) (sum_over c.count n) z
first (Timer t) b s o n z = refl
first (AddressArbiter a) b s o n z = refl
first Process b s o n z = refl
first ResourceLimit b s o n z = refl

pub release_semaphore-finding : (b : List ℕ) (r : Registers) → (finding (with_objects (dec_block b) (resolved (dec_block b) r.r1).store) ≡ 0 → ⊥)
    → finding (release_semaphore (dec_block b) r).kernel ≡ finding (with_objects (dec_block b) (resolved (dec_block b) r.r1).store)
unfolding release_semaphore
release_semaphore-finding b r = let x = resolved (dec_block b) r.r1 in first (object_at x.store x.object.0) b x.store x.object.0 r.r2
