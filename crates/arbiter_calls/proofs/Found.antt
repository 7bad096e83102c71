-- What is found if the current thread parks. Assumes nothing.
use Rattle.std.proofs.lemmas.Grind.{common_steps}
use Rattle.std.specs.Prelude.{Option, Some, None, Err}
use Rattle.units.specs.declared.Ticks.{Ticks}
use mathlib.Core.Path.{◌≡◌, refl, sym, ap, ◌∙◌}
use mathlib.Core.Bool.{Bool, true, false, not}
use mathlib.Core.List.{List}
use mathlib.Core.Logic.{◌≢◌}
use Prim.Native.Nat.{ℕ}
use native.Mathlib.Decide.{ℕ_discrete}
use lib.Dec.{eqb}
use lib.ListN.{set}
use borrow.Author.Tests.{eq-eqb, ne_eqb}
use Rattle.laws.specs.Logic.{pick, ◌and◌, and_yes, and_no, and-end, and-false, ◌or◌, or_yes, or_no, or-end, or-false}
use Rattle.codec.specs.Bytes.{le}
use Rattle.codec.specs.Layout.{dec_as}
use Rattle.types.specs.declared.object.KObject.{KObject}
use Rattle.types.specs.declared.object.KObject.TheVariants.{Free, Thread, Event, Mutex, Semaphore, Timer, AddressArbiter, Process, ResourceLimit}
use Rattle.types.specs.declared.object.ObjectStore.{ObjectStore}
use Rattle.types.specs.declared.refusal.Refusal.{Refusal}
use Rattle.types.specs.Refusal.{refusal_number, unless_found}
use Rattle.types.specs.declared.kernel.Kernel.{Kernel}
use Rattle.block.specs.Block.{enc_block, dec_block}
use Rattle.sound.specs.View.{slot_at, object_at, thread_at, waiter_threads, waiter_addresses}
use Rattle.sound.specs.Objects.{of_none, ref_of}
use Rattle.sound.specs.Records.{chain_of, has?}
use Rattle.sound.specs.Question.{sound?}
use Rattle.object.specs.declared.kept.Resolved.{Resolved}
use Rattle.object.specs.Handles.{object_of}
use Rattle.object.specs.Waiters.{is_arbiter, pushed, push}
use Rattle.pass.specs.Asks.{pseudo, open_object}
use Rattle.pass.specs.Waits.{wake_tick}
use Rattle.svc.specs.declared.Served.{Served}
use Rattle.svc.specs.Call.{with_objects, with_over, resolved}
use Rattle.svc.specs.Arbiter.{parked, park_as}
use Rattle.svc.proofs.Handles.{plain}
use Rattle.lent.specs.Operations.{finding, out_of_handles?}
use Rattle.rows.specs.Holds.{Holds}
use Rattle.outcome.specs.Findings.{found_of, none_found, over-finding, room-refused}
use Rattle.objects.specs.Open.{no_room, Names}
use Rattle.objects.proofs.Room.{opened-full, opened-sum, opened-finding}
use Rattle.objects.proofs.Pseudo.{pseudo-object}
use Rattle.objects.proofs.Sound.{made-sound}
use Rattle.arbiter_calls.specs.Record.{stores}
use Rattle.arbiter_calls.specs.Kinds.{parks, on_handle}
use Rattle.arbiter_calls.specs.Found.{lacks, no_record, known, found_parking}
use Rattle.arbiter_calls.proofs.Handle.{unknown-is, known_is}

-- ---- a record more
full_as : (x y z : Bool) (s p : ObjectStore) → p.full ≡ s.full or z → (pick x (pick y s p) s).full ≡ s.full or ((x and not y) and z)
unfolding ◌and◌
full_as true true z s p e = sym (or-end s.full)
full_as true false z s p e = e
full_as false y z s p e = sym (or-end s.full)

over-as : (x y : Bool) (s p : ObjectStore) → p.overflow ≡ s.overflow → (pick x (pick y s p) s).overflow ≡ s.overflow
over-as true true s p e = refl
over-as true false s p e = e
over-as false y s p e = refl

module _ (s : ObjectStore) (o t a : ℕ) where
  abbrev has : Bool
  has = has? (waiter_threads s.waiters) (waiter_addresses s.waiters) t a (chain_of s o)

  push-full : (push s o t a).full ≡ s.full or (stores s o t a and eqb s.free_waiter 0)
  unfolding push
  push-full = full_as (is_arbiter (object_at s o)) has (eqb s.free_waiter 0) s (pushed s o t a) refl

  push-overflow : (push s o t a).overflow ≡ s.overflow
  unfolding push
  push-overflow = over-as (is_arbiter (object_at s o)) has s (pushed s o t a) refl

-- ---- what is no arbiter stores none
other-kind : (y : KObject) → ref_of y ≢ of_none → is_arbiter y ≡ false
other-kind (Free n) z = refl
other-kind (Thread t) z = refl
other-kind (Event e) z = refl
other-kind (Mutex m) z = refl
other-kind (Semaphore c) z = refl
other-kind (Timer t) z = refl
other-kind (AddressArbiter a) z = absurd (z refl)
other-kind Process z = refl
other-kind ResourceLimit z = refl

stores-none : (s : ObjectStore) (c : Option ℕ) (o a : ℕ) → is_arbiter (object_at s o) ≡ false → lacks s c o a ≡ false
unfolding ◌and◌
stores-none s None o a e = refl
stores-none s (Some t) o a e = rw e

zero-none : (s : ObjectStore) (c : Option ℕ) (o a : ℕ) → o ≡ 0 → lacks s c o a ≡ false
unfolding slot_at
zero-none s c o a e = stores-none s c o a (ap (λ (n : ℕ). is_arbiter (object_at s n)) e)

module _ (b : List ℕ) (s : sound? b ≡ true) (h a : ℕ) where
  abbrev k : Kernel
  k = dec_block b

  abbrev x : Resolved
  x = resolved k h

  plain-is : pseudo h ≡ false → x ≡ record { object = record { 0 = object_of k.handles h }; store = k.objects }
  plain-is e = plain k.current_thread k.handles k.objects h e

  open_zero : (t : Bool) → pseudo h ≡ t → x.object.0 ≡ 0 → pick t 0 (object_of k.handles h) ≡ 0
  open_zero true e z = refl
  open_zero false e z = sym (ap (λ (y : Resolved). y.object.0) (plain-is e)) ∙ z

  lacks_as : (t : Bool) → pseudo h ≡ t → x.object.0 ≢ 0 → no_room k h ≡ false
      → lacks x.store k.current_thread x.object.0 a ≡ lacks k.objects k.current_thread (pick t 0 (object_of k.handles h)) a
  lacks_as true e z r =
      stores-none x.store k.current_thread x.object.0 a (pseudo-object (λ (y : KObject). is_arbiter y ≡ false) refl other-kind k h e (made-sound b s h (opened-full b h ∙ r)).kept)
      ∙ sym (zero-none k.objects k.current_thread 0 a refl)
  lacks_as false e z r = ap (λ (y : Resolved). lacks y.store k.current_thread y.object.0 a) (plain-is e)

  -- ---- the thread parks
  module _ (time : Option Ticks) (tick : ℕ) (over : Bool) where
    parked_as : (c : Option ℕ) → finding (with_over (park_as c (with_objects k x.store) x.object.0 a time tick) over) ≡ found_of (no_room k h or lacks x.store c x.object.0 a) (over or out_of_handles? k)
    unfolding ◌and◌ ◌or◌
    parked_as None = over-finding b k.threads x.store over ∙ (λ i. found_of ((opened-full b h ∙ sym (or-end (no_room k h))) i) (over or (opened-sum b h i or out_of_handles? k)))
    parked_as (Some t) =
        over-finding b (set k.threads t (parked (thread_at k.threads t) a (wake_tick time tick))) (push x.store x.object.0 t a) over
        ∙ (λ i. found_of ((push-full x.store x.object.0 t a ∙ ap (λ (v : Bool). v or (stores x.store x.object.0 t a and eqb x.store.free_waiter 0)) (opened-full b h)) i) (over or ((push-overflow x.store x.object.0 t a ∙ opened-sum b h) i or out_of_handles? k)))

    module _ (word : Option ℕ) where
      abbrev call : Served
      call = on_handle k h (parks a time tick over word)

      unknown-found : x.object.0 ≡ 0 → finding call.kernel ≡ found_parking k h a over
      unfolding found_parking ◌or◌
      unknown-found z =
          ap (λ (v : Served). finding v.kernel) (sym (unknown-is k h (parks a time tick over word) z))
          ∙ opened-finding b h
          ∙ rw (eq-eqb x.object.0 0 z, zero-none k.objects k.current_thread (open_object k h) a (open_zero (pseudo h) refl z), and-false over, or-end (no_room k h))

      known-found : x.object.0 ≢ 0 → (r : Bool) → no_room k h ≡ r → finding call.kernel ≡ found_parking k h a over
      unfolding found_parking ◌or◌
      known-found z true e =
          ap (λ (v : Served). finding v.kernel) (sym (known_is k h (parks a time tick over word) z)) ∙ parked_as k.current_thread ∙ rw e
      known-found z false e =
          ap (λ (v : Served). finding v.kernel) (sym (known_is k h (parks a time tick over word) z))
          ∙ parked_as k.current_thread
          ∙ rw (ne_eqb x.object.0 0 z, lacks_as (pseudo h) refl z e, and-end over)

      pub parked-found : finding call.kernel ≡ found_parking k h a over
      parked-found = elim (ℕ_discrete x.object.0 0) [ yes z ↦ unknown-found z | no z ↦ known-found z (no_room k h) refl ]

  -- nothing is found, neither when the handle is opened
  pub parked_opens : (over : Bool) → found_parking k h a over ≡ 0 → finding (with_objects k x.store) ≡ 0
  unfolding found_parking
  parked_opens over z =
      let w = none_found (no_room k h or no_record k h a) ((over and known k h) or out_of_handles? k) z in
      opened-finding b h ∙ rw ((or-false (no_room k h) (no_record k h a) w.0).0, (or-false (over and known k h) (out_of_handles? k) w.1).1)

-- ---- as the block is asked
pub parking-refused : (k : Kernel) (h a : ℕ) (over : Bool) (r : Refusal) → unless_found {A = Unit {0}} (found_parking k h a over) tt ≡ Err r → found_parking k h a over ≡ refusal_number r
unfolding found_parking
parking-refused k h a over r e = room-refused _ _ tt r e

pub free-is : (b : List ℕ) → le 4 b 36 ≡ (dec_block b).objects.free_waiter
unfolding dec_block dec_as
free-is b = refl

pub names-known : (k : Kernel) (h : ℕ) (r : Bool) → Names k h r → no_room k h ≡ false → r ≡ known k h
names-known k h true p e = rw (ne_eqb (resolved k h).object.0 0 (p.some refl e))
names-known k h false p e = rw (eq-eqb (resolved k h).object.0 0 (ap (λ (y : Resolved). y.object.0) (p.none refl)))

-- a finding is not in the block
pub over-held : (b : List ℕ) (k : Kernel) (v : Bool) → Holds b k → Holds b (with_over k v)
unfolding enc_block
over-held b k v g = record {
  same = g.same;
  sizes = record { nt = g.sizes.nt; ns = g.sizes.ns; ne = g.sizes.ne; nw = g.sizes.nw; ni = g.sizes.ni };
}

pub ruleset asks = (common_steps, and_yes, and_no, and-end, and-false, or_yes, or_no, free-is)
