-- `wait_synchronization_n`: what it finds, and the call from opened handles on. Assumes nothing.
use Rattle.std.proofs.lemmas.Grind.{common_steps}
use Rattle.std.specs.Prelude.{Option, Some, None, Result, Ok, Err}
use mathlib.Core.Path.{◌≡◌, refl, sym, ap, ◌∙◌}
use mathlib.Core.Bool.{Bool, true, false, not}
use mathlib.Core.List.{List}
use mathlib.Core.Logic.{◌⊎◌, inl, inr}
use Prim.Native.Nat.{ℕ, ◌≤◌}
use native.Mathlib.Omega.{arith}
use lib.Dec.{eqb, ltb}
use lib.ListN.{length, take, get_or}
use lib.Seq.{take_all, length-take-le}
use borrow.Author.Tests.{ltb-true, ltb-false}
use Rattle.laws.specs.Logic.{pick, ◌or◌}
use Rattle.laws.specs.All.{All}
use Rattle.units.specs.declared.ObjectId.{ObjectId}
use Rattle.types.specs.declared.thread.WaitSyscall.TheVariants.{WaitSynchronizationN}
use Rattle.types.specs.declared.object.ObjectStore.{ObjectStore}
use Rattle.types.specs.declared.kernel.Kernel.{Kernel}
use Rattle.types.specs.declared.refusal.Refusal.{Refusal}
use Rattle.types.specs.Refusal.{unless_found, unless-ok}
use Rattle.types.specs.Thread.{wait_list}
use Rattle.block.specs.Block.{dec_block}
use Rattle.sound.specs.View.{object_at, first_ids}
use Rattle.kernel.specs.NextEvent.{contains}
use Rattle.thread.specs.Threads.{least}
use Rattle.pass.specs.Asks.{padded}
use Rattle.pass.specs.Padded.{padded-first}
use Rattle.pass.specs.Signal.{acquire, acquires}
use Rattle.pass.specs.Waits.{satisfied_at}
use Rattle.passing.specs.Signal.{acquire-sticks, acquires-sticks}
use Rattle.parking.specs.Lists.{all-length}
use Rattle.parking.specs.Begins.{acquire-full, acquires-full}
use Rattle.svc.specs.declared.Registers.{Registers}
use Rattle.svc.specs.declared.Served.{Served}
use Rattle.svc.specs.Call.{done, gives, answers, with_objects, pair}
use Rattle.svc.specs.Timers.{caught_up}
use Rattle.svc.specs.Waits.{wait_on, take_at, wait_nas, wait_synchronization_n}
use Rattle.lent.specs.Operations.{finding, out_of_handles?}
use Rattle.outcome.specs.Outcome.{given, outcome, left, outcome-0, left-0}
use Rattle.outcome.specs.Findings.{found_of, parts-finding, pick-finding}
use Rattle.wait_calls.specs.Waits.{take_in, wait_as_in, wait_in}
use Rattle.wait_calls.specs.Opens.{store_of, objects_of}
use Rattle.wait_calls.specs.Near.{near}
use Rattle.wait_calls.proofs.Begins.{begun-finding}
use Rattle.wait_calls.proofs.Far.{taken-fits}
use Rattle.wait_calls.proofs.Ways.{refuses, found-by}

-- ---- an object taken at an index
same_left : (k : Kernel) (i : ℕ) (b : List ℕ) → left (done k) b ≡ left (gives k i) b
unfolding left
same_left k i b = refl

module _ (b : List ℕ) (k : Kernel) (i : ℕ) (a : Result (Unit {0}) Refusal) (x : List ℕ) (f : a ≡ unless_found (finding k) tt) (e : x ≡ left (done k) b) where
  pub gives-refused : (r : Refusal) → a ≡ Err r → (Err r ≡ outcome (gives k i)) × (x ≡ left (gives k i) b)
  gives-refused r q = ((refuses b r (gives k i) (found-by (gives k i) r (sym f ∙ q))).0, e ∙ same_left k i b)

  pub gives-done : (u : Unit {0}) → a ≡ Ok u → (Ok (given i) ≡ outcome (gives k i)) × (x ≡ left (gives k i) b)
  gives-done u q = (sym (outcome-0 (gives k i) (unless-ok _ tt u (sym f ∙ q))), e ∙ same_left k i b)

-- ---- the call from the opened handles on
take-is : (f : Option ℕ) (k : Kernel) (c : ℕ) (os : List ℕ) (all : Bool) (nanos tick : ℕ) → length os ≤ wait_list
    → take_in f k c (padded wait_list os) (length os) all nanos tick ≡ take_at f k c os all nanos tick
take-is None k c os all nanos tick h = refl
take-is (Some i) k c os all nanos tick h = rw (padded-first wait_list os h)

wait-is : (t : Option ℕ) (k : Kernel) (os : List ℕ) (all : Bool) (nanos tick : ℕ) → length os ≤ wait_list → wait_as_in t k (padded wait_list os) (length os) all nanos tick ≡ wait_nas t k os all nanos tick
wait-is None k os all nanos tick h = refl
wait-is (Some c) k os all nanos tick h =
    ap (λ (l : List ℕ). take_in (satisfied_at k.threads k.objects c all l) k c (padded wait_list os) (length os) all nanos tick) (padded-first wait_list os h)
    ∙ take-is (satisfied_at k.threads k.objects c all os) k c os all nanos tick h

-- the first n of a list
pub size-first : (l : List ℕ) (n : ℕ) → length l ≡ wait_list → length (take n l) ≡ least n wait_list
size-first l n e = go (ltb n wait_list) refl
  where
    go : (b : Bool) → ltb n wait_list ≡ b → length (take n l) ≡ pick b n wait_list
    go true h = length-take-le n l (omega (arith, ltb-true n wait_list h))
    go false h = ap length (take_all n l (omega (arith, ltb-false n wait_list h))) ∙ e

pub least_fits : (n : ℕ) → least n wait_list ≤ wait_list
least_fits n = go (ltb n wait_list) refl
  where
    go : (b : Bool) → ltb n wait_list ≡ b → pick b n wait_list ≤ wait_list
    go true h = omega (arith, ltb-true n wait_list h)
    go false h = omega arith

module _ (k : Kernel) (r : Registers) (words : List ℕ) (n tick : ℕ) (z : length words ≡ wait_list) where
  abbrev hs : List ℕ
  hs = take n words

  abbrev caught : Kernel
  caught = caught_up k tick

  abbrev os : List ℕ
  os = objects_of caught hs

  abbrev q : Kernel
  q = with_objects caught (store_of caught hs)

  pub size_is : length os ≡ least n wait_list
  size_is = all-length caught.current_thread caught.handles hs caught.objects ∙ size-first words n z

  -- the handles name the objects, unless one is unknown
  pub wait-in : (x : Option (List ObjectId)) → x ≡ pick (contains os 0) None (Some (padded wait_list os)) → wait_in q x (least n wait_list) r tick ≡ wait_synchronization_n k r hs tick
  unfolding wait_synchronization_n
  wait-in x e = ap (λ (y : Option (List ObjectId)). wait_in q y (least n wait_list) r tick) e ∙ go (contains os 0)
    where
      all : Bool
      all = not (eqb r.r3 0)

      go : (t : Bool) → wait_in q (pick t None (Some (padded wait_list os))) (least n wait_list) r tick ≡ pick t (answers 16 q) (wait_nas caught.current_thread q os all (pair r.r0 r.r4) tick)
      go true = refl
      go false =
          (λ i. wait_as_in caught.current_thread q (padded wait_list os) (sym size_is i) all (pair r.r0 r.r4) tick)
          ∙ wait-is caught.current_thread q os all (pair r.r0 r.r4) tick (rw size_is (least_fits n))

-- by the code's cases
module _ (k : Kernel) (l : List ObjectId) (n : ℕ) (r : Registers) (tick : ℕ) where
  abbrev wait : Option ℕ → Served
  wait t = wait_as_in t k l n (not (eqb r.r3 0)) (pair r.r0 r.r4) tick

  pub nobody : k.current_thread ≡ None → done k ≡ wait_in k (Some l) n r tick
  nobody f = ap wait (sym f)

  pub waits : (c : ℕ) → k.current_thread ≡ Some c → wait (Some c) ≡ wait_in k (Some l) n r tick
  waits c f = ap wait (sym f)

-- the call v, which leaves x in the block m, is w from the block b on: m is b, or nothing is found
pub settles : {P Q : Type 0} (b m x : List ℕ) (v w : Served) → v ≡ w → (P ⊎ (finding v.kernel ≡ 0) → x ≡ left v m) → (Q → P × (m ≡ b)) → Q ⊎ (finding w.kernel ≡ 0) → x ≡ left w b
settles b m x v w e h f (inl q) = h (inl (f q).0) ∙ (λ i. left (e i) ((f q).1 i))
settles b m x v w e h f (inr z) = h (inr (ap (λ (u : Served). finding u.kernel) e ∙ z)) ∙ ap (λ (u : Served). left u m) e ∙ left-0 w m z ∙ sym (left-0 w b z)

-- ---- what the wait finds in the state of the block b with the store s
module _ (b : List ℕ) (s : ObjectStore) (os : List ℕ) (all : Bool) (nanos tick : ℕ) where
  abbrev j : Kernel
  j = with_objects (dec_block b) s

  abbrev found : Bool → ℕ
  found v = found_of s.full (v or out_of_handles? (dec_block b))

  -- whether a count does not fit, with what is taken
  abbrev over_at : Option ℕ → ℕ → Bool
  over_at None c = s.overflow
  over_at (Some i) c = (pick all (acquires s os c) (acquire s (get_or os i 0) c)).overflow

  abbrev pub over_as : Option ℕ → Bool
  over_as None = s.overflow
  over_as (Some c) = over_at (satisfied_at (dec_block b).threads s c all os) c

  taken-full : (c i : ℕ) (t : Bool) → (pick t (acquires s os c) (acquire s (get_or os i 0) c)).full ≡ s.full
  taken-full c i true = acquires-full os s c
  taken-full c i false = acquire-full s (get_or os i 0) c

  at-found : (x : Option ℕ) (c : ℕ) → (dec_block b).current_thread ≡ Some c → finding (take_at x j c os all nanos tick).kernel ≡ found (over_at x c)
  at-found None c e =
      pick-finding (eqb nanos 0) (found s.overflow) (answers 17 j) (wait_on j c os all nanos tick (Some WaitSynchronizationN)) (parts-finding b (dec_block b).threads s)
      (begun-finding b s c (padded wait_list os) (length os) all nanos tick (Some WaitSynchronizationN) e)
  at-found (Some i) c e =
      parts-finding b (dec_block b).threads (pick all (acquires s os c) (acquire s (get_or os i 0) c)) ∙ ap (λ (f : Bool). found_of f (over_at (Some i) c or out_of_handles? (dec_block b))) (taken-full c i all)

  pub as_found : (t : Option ℕ) → (dec_block b).current_thread ≡ t → finding (wait_nas t j os all nanos tick).kernel ≡ found (over_as t)
  as_found None e = parts-finding b (dec_block b).threads s
  as_found (Some c) e = at-found (satisfied_at (dec_block b).threads s c all os) c e

  -- one that did not fit before does not fit now
  taken-sticks : (c i : ℕ) (t : Bool) → (pick t (acquires s os c) (acquire s (get_or os i 0) c)).overflow ≡ false → s.overflow ≡ false
  taken-sticks c i true e = acquires-sticks os s c e
  taken-sticks c i false e = acquire-sticks s (get_or os i 0) c e

  at-sticks : (x : Option ℕ) (c : ℕ) → over_at x c ≡ false → s.overflow ≡ false
  at-sticks None c e = e
  at-sticks (Some i) c e = taken-sticks c i all e

  pub as_sticks : (t : Option ℕ) → over_as t ≡ false → s.overflow ≡ false
  as_sticks None e = e
  as_sticks (Some c) e = at-sticks (satisfied_at (dec_block b).threads s c all os) c e

  -- with counts that are not near the end of their type each fits
  module _ (few : length os ≤ wait_list) (far : All (λ o. near (object_at s o) ≡ false) os) where
    at-fits : (x : Option ℕ) (c : ℕ) → over_at x c ≡ s.overflow
    at-fits None c = refl
    at-fits (Some i) c = taken-fits all os i s c few far

    pub as_fits : (t : Option ℕ) → over_as t ≡ s.overflow
    as_fits None = refl
    as_fits (Some c) = at-fits (satisfied_at (dec_block b).threads s c all os) c

pub ruleset takes = (common_steps, first_ids, unless-ok, outcome-0, left-0, gives-done)

pub ruleset lists = (common_steps, first_ids, waits, settles)
