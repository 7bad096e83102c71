-- A list of handles, opened one after the other, and a wait on it by the code's cases. Assumes nothing.
use Rattle.std.specs.Prelude.{Option, Some, None, Result, Ok, Err}
use Rattle.std.specs.Result.{result_unwrap_or}
use mathlib.Core.Path.{◌≡◌, refl, ap, sym, ◌∙◌}
use mathlib.Core.Bool.{Bool, true, false}
use mathlib.Core.Logic.{◌≢◌}
use mathlib.Core.List.{List, [], ◌∷◌, ◌++◌}
use Prim.Native.Nat.{ℕ, suc, ◌+◌, ◌<◌}
use native.Mathlib.Numerals.{add-one}
use native.Mathlib.Omega.{arith}
use lib.Dec.{eqb}
use lib.ListN.{length, take, drop, set, get_or, replicate, length-drop}
use lib.Seq.{drop-cons, take-suc, take_all, length-take-le}
use borrow.Author.Tests.{eq-eqb, ne_eqb}
use Rattle.laws.specs.Logic.{pick, ◌or◌, or_yes, or_no}
use Rattle.units.specs.declared.ObjectId.{ObjectId}
use Rattle.types.specs.declared.refusal.Refusal.{Refusal}
use Rattle.types.specs.Refusal.{found_in}
use Rattle.types.specs.declared.object.HandleTable.{HandleTable}
use Rattle.types.specs.declared.object.ObjectStore.{ObjectStore}
use Rattle.types.specs.declared.kernel.Kernel.{Kernel}
use Rattle.types.specs.Thread.{wait_list}
use Rattle.block.specs.Block.{dec_block}
use Rattle.sound.specs.Question.{sound?}
use Rattle.kernel.specs.NextEvent.{contains}
use Rattle.object.specs.declared.kept.Resolved.{Resolved}
use Rattle.object.specs.Kept.{resolve}
use Rattle.pass.specs.Asks.{padded}
use Rattle.pass.specs.Padded.{padded-more}
use Rattle.calling.specs.Resolves.{resolve-overflow}
use Rattle.parking.specs.Lists.{store-full}
use Rattle.svc.specs.Call.{with_objects, resolved}
use Rattle.svc.specs.Waits.{resolve_all, resolve_store}
use Rattle.lent.specs.Operations.{out_of_handles?}
use Rattle.outcome.specs.Findings.{found_of, parts-finding}
use Rattle.objects.specs.Open as one
use Rattle.objects.proofs.Sound.{opened-state}
use Rattle.timer_calls.proofs.Found.{down}
use Rattle.wait_calls.specs.Opens.{store_of, Opens}
use Rattle.wait_calls.proofs.Ways.{same-handles}

-- the object that is opened, or 0
pub unwrap-object : (a : Result ObjectId Refusal) → (result_unwrap_or a (record { 0 = 0 })).0 ≡ one.object_in a
unwrap-object (Ok o) = refl
unwrap-object (Err r) = refl

-- what the rest of a list starts with
rest_of : (l : List ℕ) (i y : ℕ) (ys : List ℕ) → drop i l ≡ y ∷ ys → (i < length l) × ((drop (i + 1) l ≡ ys) × (take (i + 1) l ≡ take i l ++ (y ∷ [])))
rest_of l i y ys e =
    let m : i < length l = omega (arith, length-drop i l, ap length e) in
    let d : y ∷ ys ≡ get_or l i 0 ∷ drop (suc i) l = sym e ∙ drop-cons l i 0 m in
    let a : y ≡ get_or l i 0 = cc in
    let b : ys ≡ drop (suc i) l = cc in
    (m, (rw add-one (sym b), rw (add-one, a) (take-suc l i 0 m)))

-- ---- handles resolved one after the other: q is the store after i of them, l the objects so far, and the rest gives the rest
abbrev pub Resolving : Option ℕ → HandleTable → ObjectStore → List ℕ → List ObjectId → ObjectStore → ℕ → Type 0
Resolving c t s hs l q i =
    (resolve_store c t q (drop i hs) ≡ resolve_store c t s hs)
    × ((resolve_all c t q (drop i hs) ≡ drop i (resolve_all c t s hs))
    × ((contains (drop i (resolve_all c t s hs)) 0 ≡ contains (resolve_all c t s hs) 0)
    × (l ≡ padded wait_list (take i (resolve_all c t s hs)))))

-- after the last, or the first that is unknown
abbrev Resolved-to : Option ℕ → HandleTable → ObjectStore → List ℕ → ObjectStore → Option (List ObjectId) → Type 0
Resolved-to c t s hs q o =
    (q ≡ resolve_store c t s hs)
    × (o ≡ pick (contains (resolve_all c t s hs) 0) None (Some (padded wait_list (resolve_all c t s hs))))

module _ (c : Option ℕ) (t : HandleTable) (s : ObjectStore) (hs : List ℕ) (l : List ObjectId) (q : ObjectStore) (i : ℕ) (v : Resolving c t s hs l q i) where
  resolved-all : drop i hs ≡ [] → Resolved-to c t s hs q (Some l)
  unfolding resolve_store resolve_all contains
  resolved-all e =
      let a = rw e at v.0 in
      let b : [] ≡ drop i (resolve_all c t s hs) = rw e at v.1.0 in
      let d : contains [] 0 ≡ contains (resolve_all c t s hs) 0 = ap (λ x. contains x 0) b ∙ v.1.1.0 in
      let f : take i (resolve_all c t s hs) ≡ resolve_all c t s hs =
      take_all i (resolve_all c t s hs) (omega (arith, length-drop i (resolve_all c t s hs), ap length b)) in
      let g : l ≡ padded wait_list (resolve_all c t s hs) = rw f at v.1.1.1 in
      (a, ap Some g ∙ ap (λ (z : Bool). pick z None (Some (padded wait_list (resolve_all c t s hs)))) d)

  module _ (h : ℕ) (e : drop i hs ≡ h ∷ drop (i + 1) hs) (p : ObjectStore) (o : ObjectId) (f : p ≡ (resolve c t q h).store) (g : o.0 ≡ (resolve c t q h).object.0) where
    all-next : o.0 ∷ resolve_all c t p (drop (i + 1) hs) ≡ drop i (resolve_all c t s hs)
    unfolding resolve_all
    all-next = rw (f, g) (rw e at v.1.0)

    resolved-unknown : o.0 ≡ 0 → Resolved-to c t s hs p None
    unfolding resolve_store contains ◌or◌
    resolved-unknown n =
        let z : (resolve c t q h).object.0 ≡ 0 = sym g ∙ n in
        let a : p ≡ resolve_store c t s hs = f ∙ rw (eq-eqb _ 0 z) at (rw e at v.0) in
        let d : contains (o.0 ∷ resolve_all c t p (drop (i + 1) hs)) 0 ≡ true = or_yes _ _ (eq-eqb o.0 0 n) in
        let m : true ≡ contains (resolve_all c t s hs) 0 = sym d ∙ ap (λ x. contains x 0) all-next ∙ v.1.1.0 in
        (a, ap (λ (z : Bool). pick z None (Some (padded wait_list (resolve_all c t s hs)))) m)

    resolved-more : o.0 ≢ 0 → i < wait_list → Resolving c t s hs (set l i o) p (i + 1)
    unfolding resolve_store contains ◌or◌
    resolved-more n b =
        let R = resolve_all c t s hs in
        let z : (resolve c t q h).object.0 ≢ 0 = λ y. n (g ∙ y) in
        let a : resolve_store c t p (drop (i + 1) hs) ≡ resolve_store c t s hs = rw f (rw (ne_eqb _ 0 z) at (rw e at v.0)) in
        let u = rest_of R i o.0 (resolve_all c t p (drop (i + 1) hs)) (sym all-next) in
        let d : contains (resolve_all c t p (drop (i + 1) hs)) 0 ≡ contains R 0 =
        sym (or_no (eqb o.0 0) _ (ne_eqb o.0 0 n)) ∙ ap (λ x. contains x 0) all-next ∙ v.1.1.0 in
        let m : length (take i R) ≡ i = length-take-le i R (omega (arith, u.0)) in
        let w : set (padded wait_list (take i R)) (length (take i R)) (record { 0 = o.0 }) ≡ padded wait_list (take i R ++ (o.0 ∷ [])) = padded-more wait_list (take i R) o.0 (omega arith) in
        (a, (sym u.1.0, (rw u.1.0 d, rw (v.1.1.1, u.1.1) (rw m at w))))

-- ---- in the block: from the state k on, b is the block after i handles
module _ (k : Kernel) (hs : List ℕ) where
  pub record Opening (b : List ℕ) (l : List ObjectId) (i : ℕ) : Type 0 where
    pub sound : sound? b ≡ true
    pub state : dec_block b ≡ with_objects k (dec_block b).objects
    pub rest : Resolving k.current_thread k.handles k.objects hs l (dec_block b).objects i

  module _ (b : List ℕ) (l : List ObjectId) (i : ℕ) (g : Opening b l i) where
    pub open_end : drop i hs ≡ [] → Opens k hs b (Some l)
    open_end e =
        let v = resolved-all k.current_thread k.handles k.objects hs l (dec_block b).objects i g.rest e in
        record { sound = g.sound; state = g.state ∙ ap (with_objects k) v.0; objects = v.1 }

    -- the next handle h, opened in the block e
    module _ (room : (store_of k hs).full ≡ false) (out : out_of_handles? k ≡ false) (h : ℕ) (d : drop i hs ≡ h ∷ drop (i + 1) hs) (e : List ℕ) (a : Result ObjectId Refusal) (o : ObjectId) (eo : o.0 ≡ one.object_in a)
        (p : one.Opens (dec_block b) (resolved (dec_block b) h) b e a) (s : sound? e ≡ true) where
      abbrev q : ObjectStore
      q = (dec_block b).objects

      abbrev x : Resolved
      x = resolve k.current_thread k.handles q h

      same : resolved (dec_block b) h ≡ x
      same = ap (λ (z : Kernel). resolve z.current_thread z.handles q h) g.state

      next-full : x.store.full ≡ false
      unfolding resolve_store
      next-full = go (eqb x.object.0 0) (ap (λ (z : ObjectStore). z.full) (rw d at g.rest.0) ∙ room)
        where
          go : (t : Bool) → (pick t x.store (resolve_store k.current_thread k.handles x.store (drop (i + 1) hs))).full ≡ false → x.store.full ≡ false
          go true f = f
          go false f = store-full k.current_thread k.handles (drop (i + 1) hs) x.store f

      nothing : found_in a ≡ 0
      unfolding ◌or◌
      nothing =
          p.found ∙ parts-finding b (dec_block b).threads (resolved (dec_block b) h).store ∙ ap (λ (y : Resolved). found_of y.store.full (y.store.overflow or out_of_handles? (dec_block b))) same
          ∙ (λ j. found_of (next-full j) ((resolve-overflow k.current_thread k.handles q h ∙ (down b).1) j or same-handles (dec_block b) k q g.state out j))

      opened : dec_block e ≡ with_objects k x.store
      opened = opened-state b g.sound h e a p nothing ∙ (λ j. with_objects (g.state j) (same j).store)

      same_store : (dec_block e).objects ≡ x.store
      same_store = ap (λ (z : Kernel). z.objects) opened

      same_object : o.0 ≡ x.object.0
      same_object = eo ∙ p.object nothing ∙ ap (λ (y : Resolved). y.object.0) same

      pub open_unknown : o.0 ≡ 0 → Opens k hs e None
      open_unknown z =
          let v = resolved-unknown k.current_thread k.handles k.objects hs l q i g.rest h d (dec_block e).objects o same_store same_object z in
          record { sound = s; state = opened ∙ ap (with_objects k) (sym same_store ∙ v.0); objects = v.1 }

      pub open_more : o.0 ≢ 0 → i < wait_list → Opening e (set l i o) (i + 1)
      open_more z m = record {
        sound = s;
        state = opened ∙ ap (with_objects k) (sym same_store);
        rest = resolved-more k.current_thread k.handles k.objects hs l q i g.rest h d (dec_block e).objects o same_store same_object z m;
      }

pub open_none : (b : List ℕ) → sound? b ≡ true → (hs : List ℕ) → Opening (dec_block b) hs b (replicate wait_list (record { 0 = 0 })) 0
unfolding padded
open_none b s hs = record { sound = s; state = refl; rest = (refl, (refl, (refl, refl))) }
