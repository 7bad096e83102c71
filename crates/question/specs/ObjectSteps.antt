-- The cases of a chain walk, and one turn of each loop over slots, kept objects and records.
use Rattle.std.specs.Prelude.{◌≡◌, refl, Bool, true, false, not, ◌≢◌, List, eqb, leb, ltb, length, get_or, drop}
use Rattle.std.proofs.Common.{sym, ◌∙◌, add-one, drop_of_length-le, drop-cons}
use Prim.Native.Nat.{ℕ, zero, suc, ◌+◌, ◌-◌, ◌≤◌, ◌<◌}
use native.Mathlib.Omega.{arith}
use Rattle.std.proofs.Math.ListN.{get_or-map}
use borrow.Author.Tests.{eq-eqb, ne_eqb, le-leb, lt-leb}
use Rattle.laws.specs.Logic.{◌and◌}
use Rattle.laws.specs.Count.{at}
use Rattle.laws.specs.StoreTest.{at_out}
use Rattle.tally.specs.Chain.{at-cell}
use Rattle.laws.specs.Walk.{walk, ends?, walk-zero, walk-nil, walk-out, walk-go}
use Rattle.laws.specs.Numbers.{all_to, all_to-end}
use Rattle.question.specs.Turns.{all-more, all-fails, below-more, below-fails}
use Rattle.laws.specs.Tally.{bump, tally}
use Rattle.units.specs.declared.ObjectId.{ObjectId}
use Rattle.types.specs.declared.object.Slot.{Slot}
use Rattle.sound.specs.View.{ids, no_slot, slot_at}
use Rattle.sound.specs.Objects.{up_to128}
use Rattle.sound.specs.Records.{has?, chain?, blanks?}
use Rattle.question.specs.Linear.{slot?, slots?}
use Rattle.question.specs.LinearObjects.{kept_thread?, indexed, kept_threads?, content_by?, contents_by?, once_all?, chains_by?, lone?, lone_all?}

-- ---- walks
module _ (nx : List ℕ) where
  ends-nil : (left h : ℕ) → h ≡ 0 → ends? nx left h ≡ true
  unfolding ends?
  ends-nil zero h e = eq-eqb h 0 e
  ends-nil (suc f) h e = rw e

  ends-go : (left h : ℕ) → left ≢ 0 → h ≢ 0 → ends? nx left h ≡ leb h (length nx) and ends? nx (left - 1) (at nx h)
  unfolding ends?
  ends-go zero h p q = absurd (p refl)
  ends-go (suc f) zero p q = absurd (q refl)
  ends-go (suc f) (suc h) p q = let e : suc f - 1 ≡ f = omega arith in rw e

  -- the returns of a function that marks a chain in m
  module _ (m : List ℕ) (left h : ℕ) where
    pub mark_nil : h ≡ 0 → (true ≡ ends? nx left h) × (m ≡ tally 129 m (walk nx left h))
    unfolding tally
    mark_nil e = (sym (ends-nil left h e), rw (walk-nil nx left h e))

    pub mark_out : left ≡ 0 → h ≢ 0 → (false ≡ ends? nx left h) × (m ≡ tally 129 m (walk nx left h))
    unfolding ends? tally
    mark_out e p = (rw e (sym (ne_eqb h 0 p)), rw (walk-out nx left h e))

    pub mark_far : left ≢ 0 → h ≢ 0 → length nx < h → (false ≡ ends? nx left h) × (bump 129 m h ≡ tally 129 m (walk nx left h))
    unfolding tally ◌and◌
    mark_far p q f =
        (rw (ends-go left h p q, lt-leb h (length nx) f), rw (walk-go nx left h p q, at_out nx h f, walk-zero nx (left - 1)))

    pub mark_go : left ≢ 0 → h ≢ 0 → h ≤ length nx
        → (ends? nx (left - 1) (at nx h) ≡ ends? nx left h) × (tally 129 (bump 129 m h) (walk nx (left - 1) (at nx h)) ≡ tally 129 m (walk nx left h))
    unfolding tally ◌and◌
    mark_go p q f = (rw (ends-go left h p q, le-leb h (length nx) f), rw (walk-go nx left h p q))

-- ---- a record of a walk, and those after it
module _ (nx ts ad : List ℕ) (left h : ℕ) (p : left ≢ 0) (q : h ≢ 0) where
  pub blanks-step : blanks? ts ad (walk nx left h) ≡ eqb (at ts h) 0
      and (eqb (at ad h) 0 and blanks? ts ad (walk nx (left - 1) (at nx h)))
  unfolding blanks?
  blanks-step = rw (walk-go nx left h p q)

  pub chain-step : (n : ℕ)
      → chain? ts ad n (walk nx left h) ≡ ltb (at ts h) n
      and (not (has? ts ad (at ts h) (at ad h) (walk nx (left - 1) (at nx h)))
      and chain? ts ad n (walk nx (left - 1) (at nx h)))
  unfolding chain?
  chain-step n = rw (walk-go nx left h p q)

-- ---- tests of every slot, from the first to the last
pub slots-start : (ks rs c m : List ℕ) → true ≡ slots? ks rs c m 0
unfolding slots?
slots-start ks rs c m = sym (all_to-end _ 0 (omega arith))

pub slots-next : (ks rs c m : List ℕ) (i : ℕ)
    → slots? ks rs c m (i + 1) ≡ slot? (get_or ks i 0) (get_or rs i 0) (get_or c (i + 1) 0) (get_or m (i + 1) 0)
    and slots? ks rs c m i
unfolding slots? all_to at
slots-next ks rs c m i = rw add-one

pub contents-start : (n : ℕ) (d : List ℕ) (l : List Slot) → true ≡ contents_by? n d l 0
unfolding contents_by?
contents-start n d l = sym (all_to-end _ 0 (omega arith))

pub contents-next : (n : ℕ) (d : List ℕ) (l : List Slot) (i : ℕ)
    → contents_by? n d l (i + 1) ≡ content_by? n d (get_or l i no_slot).object and contents_by? n d l i
unfolding contents_by? all_to slot_at
contents-next n d l i = rw add-one

-- ---- kept objects
abbrev no_id : ObjectId
no_id = record { 0 = 0 }

pub up_to_step : (l : List ObjectId) (i : ℕ) → i < length l → up_to128 (ids (drop i l)) ≡ leb (get_or l i no_id).0 128 and up_to128 (ids (drop (i + 1) l))
unfolding up_to128
up_to_step l i h = rw (drop-cons l i no_id h, add-one)

pub up_to_end : (l : List ObjectId) (i : ℕ) → length l ≤ i → up_to128 (ids (drop i l)) ≡ true
unfolding up_to128
up_to_end l i h = rw (drop_of_length-le l h)

module _ (ks us : List ℕ) (k : List ObjectId) where
  abbrev kept_test : ℕ → Bool
  kept_test t = kept_thread? (get_or (ids k) t 0) (indexed ks (get_or (ids k) t 0)) (indexed us (get_or (ids k) t 0)) t

  pub kept-start : kept_threads? ks us (ids k) 0 ≡ true
  unfolding kept_threads?
  kept-start = all_to-end _ 0 (omega arith)

  module _ (t : ℕ) where
    abbrev pub kept_one : Bool
    kept_one = kept_thread? (get_or k t no_id).0 (indexed ks (get_or k t no_id).0) (indexed us (get_or k t no_id).0) t

    pub kept-next : kept_threads? ks us (ids k) t ≡ true → kept_one ≡ true → kept_threads? ks us (ids k) (t + 1) ≡ true
    unfolding kept_threads?
    kept-next e h = below-more kept_test t e (rw (get_or-map (λ (o : ObjectId). o.0) k t no_id) h)

    pub kept-fails : (n : ℕ) → t < n → kept_one ≡ false → kept_threads? ks us (ids k) n ≡ false
    unfolding kept_threads?
    kept-fails n h e = below-fails kept_test t n h (rw (get_or-map (λ (o : ObjectId). o.0) k t no_id) e)

-- ---- records
module _ (nx ts ad : List ℕ) (n : ℕ) (hs : List ℕ) where
  pub chains-start : chains_by? nx ts ad n hs 0 ≡ true
  unfolding chains_by?
  chains-start = all_to-end _ 0 (omega arith)

  at-next : (i : ℕ) → at hs (i + 1) ≡ get_or hs i 0
  at-next i = let z : i + 1 - 1 ≡ i = omega arith in at-cell hs (i + 1) (omega arith) ∙ rw z

  pub chains-next : (i : ℕ) → chain? ts ad n (walk nx 64 (get_or hs i 0)) ≡ true → chains_by? nx ts ad n hs i ≡ true
      → chains_by? nx ts ad n hs (i + 1) ≡ true
  unfolding chains_by?
  chains-next i c e = all-more _ i e (rw (at-next i) c)

  pub chains-fails : (k i : ℕ) → i < k → chain? ts ad n (walk nx 64 (get_or hs i 0)) ≡ false
      → chains_by? nx ts ad n hs k ≡ false
  unfolding chains_by?
  chains-fails k i h e = all-fails _ k i h (rw (at-next i) e)

module _ (nx m hs : List ℕ) (i : ℕ) where
  pub lone_more : i < length hs
      → lone_all? nx m (drop i hs)
      ≡ lone? nx m 64 (get_or hs i 0) and lone_all? nx (tally 129 m (walk nx 64 (get_or hs i 0))) (drop (i + 1) hs)
  unfolding lone_all?
  lone_more h = rw (drop-cons hs i 0 h, add-one)

  pub lone_none : length hs ≤ i → lone_all? nx m (drop i hs) ≡ true
  unfolding lone_all?
  lone_none h = rw (drop_of_length-le hs h)

pub once-start : (m : List ℕ) → once_all? m 0 ≡ true
unfolding once_all?
once-start m = all_to-end _ 0 (omega arith)

-- from cell 1 on
pub once-next : (m : List ℕ) (i : ℕ) → 1 ≤ i → once_all? m (i - 1) ≡ true → eqb (get_or m i 0) 1 ≡ true
    → once_all? m (i + 1 - 1) ≡ true
unfolding once_all?
once-next m i p e h =
    let z : i - 1 + 1 ≡ i = omega arith in
    let y : i + 1 - 1 ≡ i - 1 + 1 = omega arith in
    rw y (all-more _ (i - 1) e (rw z h))

pub once-fails : (m : List ℕ) (n i : ℕ) → 1 ≤ i → i ≤ n → eqb (get_or m i 0) 1 ≡ false → once_all? m n ≡ false
unfolding once_all?
once-fails m n i p q h = let z : i - 1 + 1 ≡ i = omega arith in all-fails _ n (i - 1) (omega arith) (rw z h)
