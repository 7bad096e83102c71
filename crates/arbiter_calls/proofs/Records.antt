-- The record of a thread that parks: where it goes, and what the block holds then. Assumes nothing.
use Rattle.std.proofs.lemmas.Grind.{common_steps}
use Rattle.std.specs.Prelude.{Some, None, is_some}
use mathlib.Core.Path.{◌≡◌, refl, sym, ap, subst, ◌∙◌}
use mathlib.Core.Bool.{Bool, true, false, not}
use mathlib.Core.List.{List}
use Prim.Native.Nat.{ℕ}
use lib.Dec.{eqb}
use lib.ListN.{length}
use Rattle.laws.specs.Logic.{pick, ◌and◌, false-true}
use Rattle.codec.specs.Bytes.{over}
use Rattle.codec.specs.Layout.{enc_all, dec_all}
use Rattle.types.specs.declared.object.Slot.{Slot}
use Rattle.types.specs.declared.object.Waiter.{Waiter}
use Rattle.types.specs.declared.object.ObjectStore.{ObjectStore}
use Rattle.types.specs.declared.kernel.Kernel.{Kernel}
use Rattle.types.specs.Object.{head_of}
use Rattle.block.specs.declared.Head.{Head}
use Rattle.block.specs.Table.{enc_waiter, dec_waiter}
use Rattle.block.specs.Block.{head_words, dec_block}
use Rattle.sound.specs.View.{slot_at, object_at, waiter_nexts, waiter_threads, waiter_addresses}
use Rattle.sound.specs.Records.{chain_of, has?}
use Rattle.object.specs.Slots.{with_object}
use Rattle.object.specs.Waiters.{waiter_at, waiter_put, with_next, with_head, is_arbiter, last_of, pushed, push}
use Rattle.object.proofs.Laws.{first_walk}
use Rattle.svc.specs.Call.{with_objects}
use Rattle.rows.specs.Rows.{slot_put, head_put}
use Rattle.rows.specs.Holds.{Holds, put-slot, put-waiters, put-head}
use Rattle.arbiter_calls.specs.Record.{stores, place_for}

-- the records, as they are read
pub waiters_are : (b : List ℕ) → dec_all dec_waiter 12 64 b 12416 ≡ (dec_block b).objects.waiters
unfolding dec_block
waiters_are b = refl

-- ---- where the record goes
module _ (s : ObjectStore) (o t a : ℕ) where
  pub place_other : is_arbiter (object_at s o) ≡ false → None ≡ place_for s o t a
  unfolding ◌and◌
  place_other e = rw e

-- ---- by whether one is stored
pick_not : (t : Bool) (n : ℕ) → pick t None (Some n) ≡ pick (not t) (Some n) None
pick_not true n = refl
pick_not false n = refl

some-pick : (t : Bool) (n : ℕ) → is_some (pick t (Some n) None) ≡ t
some-pick true n = refl
some-pick false n = refl

pick_some : (t : Bool) (n m : ℕ) → pick t (Some n) None ≡ Some m → (t ≡ true) × (m ≡ n)
pick_some true n m e = (refl, cc)
pick_some false n m e = let z : ⊥ = cc in absurd z

pick_none : (t : Bool) (n : ℕ) → pick t (Some n) None ≡ None → t ≡ false
pick_none true n e = cc
pick_none false n e = refl

pub held_as : (b : List ℕ) (k : Kernel) (x y : ObjectStore) → x ≡ y → Holds b (with_objects k x) → Holds b (with_objects k y)
held_as b k x y e g = subst (λ (z : ObjectStore). Holds b (with_objects k z)) e g

kept_as : (x y : Bool) (s p : ObjectStore) → x and not y ≡ false → s ≡ pick x (pick y s p) s
unfolding ◌and◌
kept_as true true s p e = refl
kept_as true false s p e = false-true (sym e)
kept_as false y s p e = refl

pushed_as : (x y : Bool) (s p : ObjectStore) → x and not y ≡ true → p ≡ pick x (pick y s p) s
unfolding ◌and◌
pushed_as true true s p e = false-true e
pushed_as true false s p e = refl
pushed_as false y s p e = false-true e

module _ (s : ObjectStore) (o t a : ℕ) where
  abbrev arbiter : Bool
  arbiter = is_arbiter (object_at s o)

  abbrev has : Bool
  has = has? (waiter_threads s.waiters) (waiter_addresses s.waiters) t a (chain_of s o)

  pub place_arbiter : arbiter ≡ true → pick has None (Some (last_of (chain_of s o))) ≡ place_for s o t a
  unfolding ◌and◌
  place_arbiter e = rw e (pick_not has _)

  pub place-some : is_some (place_for s o t a) ≡ stores s o t a
  place-some = some-pick (stores s o t a) (last_of (chain_of s o))

  pub push_kept : place_for s o t a ≡ None → s ≡ push s o t a
  unfolding push
  push_kept e = kept_as arbiter has s (pushed s o t a) (pick_none _ _ e)

  module _ (last : ℕ) (e : place_for s o t a ≡ Some last) where
    pub place-last : last ≡ last_of (chain_of s o)
    place-last = (pick_some (stores s o t a) _ last e).1

    pub push_stored : pushed s o t a ≡ push s o t a
    unfolding push
    push_stored = pushed_as arbiter has s (pushed s o t a) (pick_some (stores s o t a) _ last e).0

-- ---- the record in the block
module _ (b : List ℕ) (k : Kernel) (g : Holds b k) (o t a : ℕ) where
  abbrev s : ObjectStore
  s = k.objects

  abbrev free : ℕ
  free = s.free_waiter

  abbrev hung_on : List Waiter → ℕ → ℕ → List Waiter
  hung_on ws last r = waiter_put (waiter_put ws last (with_next (waiter_at ws last) r)) r (record { thread = t; address = a; next = 0 })

  abbrev head_after : Head → ℕ → Head
  head_after h n = record h { free_waiter = n }

  pub stored_in : (h : Head) → h ≡ head_words k → (x : Slot) → x ≡ slot_at s.slots o → (ws : List Waiter) → ws ≡ s.waiters → (last : ℕ) → last ≡ last_of (chain_of s o)
      → (l : List Waiter) → l ≡ hung_on ws last h.free_waiter → length l ≡ 64 → (first : ℕ) → first ≡ pick (eqb (head_of x.object) 0) h.free_waiter (head_of x.object)
      → Holds (head_put (slot_put (over b 12416 (enc_all enc_waiter l)) o (with_object x (with_head x.object first))) (head_after h (waiter_at ws h.free_waiter).next)) (with_objects k (pushed s o t a))
  stored_in h e x ex ws ew last el l eh n first ef =
      let q : l ≡ (pushed s o t a).waiters = eh ∙ (λ i. hung_on (ew i) (el i) (e i).free_waiter) in
      let f : first ≡ pick (eqb (head_of (object_at s o)) 0) free (head_of (object_at s o)) = ef ∙ (λ i. pick (eqb (head_of (ex i).object) 0) (e i).free_waiter (head_of (ex i).object)) in
      let m : length (pushed s o t a).waiters ≡ 64 = ap length (sym q) ∙ n in
      rw (q, e, ex, ew, f ∙ sym (first_walk (waiter_nexts s.waiters) 63 (head_of (object_at s o)) free))
      (put-head (put-slot (put-waiters g (pushed s o t a).waiters m) o _) (with_objects k (pushed s o t a)) refl refl refl refl refl)

pub ruleset places = (
  common_steps,
  waiters_are,
  place_other,
  place_arbiter,
  place-some,
  held_as,
  push_kept,
  place-last,
  push_stored,
)
