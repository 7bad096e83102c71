-- The record chains of a store: what is made of each when some records of one object go back, and when one more is taken.
use Rattle.std.specs.Prelude.{◌≡◌, refl, Bool, false, ◌≢◌, List, [], ◌∷◌, length, get_or}
use Rattle.std.proofs.Math.Path.{ap, sym}
use Rattle.std.proofs.Common.{subst, ◌∙◌, inl, inr, arith}
use Prim.Native.Nat.{ℕ, zero, suc, ◌+◌, ◌≤◌, ◌<◌}
use Rattle.std.proofs.Math.ListN.{set, length-map, get_or-map}
use Rattle.laws.specs.Logic.{lt-cases}
use Rattle.laws.specs.Count.{ind-cases, ind-eq, count, count_all, at}
use Rattle.laws.specs.Chain.{IsChain, chain-frame}
use Rattle.laws.specs.Walk.{walk, walk-zero, chain-walk, chain_fits}
use Rattle.laws.specs.Pool.{cell1-le, count-le-all, chains_get}
use Rattle.types.specs.declared.object.Slot.{Slot}
use Rattle.types.specs.declared.object.Waiter.{Waiter}
use Rattle.types.specs.declared.object.ObjectStore.{ObjectStore}
use Rattle.types.specs.Object.{head_of}
use Rattle.sound.specs.View.{heads, waiter_nexts, waiter_threads, waiter_addresses, no_slot, slot_at, object_at}
use Rattle.sound.specs.Records.{Chained, chain_of, free_chain, Blanks}
use Rattle.object.specs.Slots.{slot_put}
use Rattle.object.specs.Waiters.{unlinked}
use Rattle.soundness.specs.Slots.{head_at, map-set, slot_same, slot-other}
use Rattle.soundness.specs.Unlink.{unhook, kept, gone, blanked, Hooked, unhook-ok, pool-drop-at, kept-none, gone-count, blanked-kept, blanked-gone}
use Rattle.soundness.specs.Waiters.{unlink-next, unlink-threads, unlink-addresses, length-unlink}

count-two : (x : ℕ) (cs : List (List ℕ)) (j k : ℕ) → j ≢ k → count x (get_or cs j []) + count x (get_or cs k []) ≤ count_all x cs
unfolding count_all count
count-two x [] j k n = omega arith
count-two x (c ∷ cs) zero zero n = absurd (n refl)
count-two x (c ∷ cs) zero (suc k) n = omega (arith, count-le-all x cs k)
count-two x (c ∷ cs) (suc j) zero n = omega (arith, count-le-all x cs j)
count-two x (c ∷ cs) (suc j) (suc k) n = omega (arith, count-two x cs j k (λ e. n (ap suc e)))

-- 0 is no object
pub no-chain : (s : ObjectStore) → chain_of s 0 ≡ []
unfolding slot_at
no-chain s = walk-zero (waiter_nexts s.waiters) 64

pub count-no-chain : (s : ObjectStore) (x : ℕ) → count x (chain_of s 0) ≡ 0
unfolding count
count-no-chain s x = ap (count x) (no-chain s)

-- ---- blank records, by their numbers
pub blanks_at : (ts ad xs : List ℕ) → Blanks ts ad xs → (x : ℕ) → 0 < count x xs → (at ts x ≡ 0) × (at ad x ≡ 0)
unfolding count
blanks_at ts ad [] b x z = absurd (omega arith)
blanks_at ts ad (y ∷ ys) b x z =
    elim (ind-cases y x) [
      | inl e ↦ (ap (at ts) (sym e.0) ∙ b.0, ap (at ad) (sym e.0) ∙ b.1.0)
      | inr e ↦ blanks_at ts ad ys b.1.1 x (omega (arith, e.1))
    ]

pub at-blanks : (ts ad xs : List ℕ) → ((x : ℕ) → 0 < count x xs → (at ts x ≡ 0) × (at ad x ≡ 0)) → Blanks ts ad xs
unfolding count
at-blanks ts ad [] h = tt
at-blanks ts ad (y ∷ ys) h =
    let b = h y (omega (arith, ind-eq y y refl)) in
    (b.0, (b.1, at-blanks ts ad ys (λ x z. h x (omega arith))))

-- ---- the chains of a pool are what the walks find
module _ (s : ObjectStore) (p : Chained s) (nw : length s.waiters ≡ 64) where
  pub len64 : length (waiter_nexts s.waiters) ≡ 64
  len64 = length-map s.waiters (λ (w : Waiter). w.next) ∙ nw

  pub once-two : (x j k : ℕ) → j ≢ k → count x (get_or p.cs j []) + count x (get_or p.cs k []) ≤ 1
  once-two x j k n = omega (arith, p.once x, cell1-le (length (waiter_nexts s.waiters)) x, count-two x p.cs j k n)

  pub once-free : (x k : ℕ) → count x (get_or p.cs k []) + count x p.fs ≤ 1
  once-free x k = omega (arith, p.once x, cell1-le (length (waiter_nexts s.waiters)) x, count-le-all x p.cs k)

  head_at_lem : (j : ℕ) → get_or (heads s.slots) j 0 ≡ head_of (object_at s (suc j))
  unfolding slot_at
  head_at_lem j = get_or-map head_at s.slots j no_slot

  pub chain-is : (j : ℕ) → IsChain (waiter_nexts s.waiters) (head_of (object_at s (suc j))) (get_or p.cs j [])
  chain-is j = subst (λ (h : ℕ). IsChain (waiter_nexts s.waiters) h (get_or p.cs j [])) (head_at_lem j) (chains_get (waiter_nexts s.waiters) (heads s.slots) p.cs j p.chains)

  pub chain-at : (j : ℕ) → chain_of s (suc j) ≡ get_or p.cs j []
  chain-at j =
      let f = chain_fits (waiter_nexts s.waiters) _ (get_or p.cs j []) (chain-is j) (λ x. omega (arith, once-free x j)) in
      (chain-walk (waiter_nexts s.waiters) 64 _ (get_or p.cs j []) (omega (arith, len64)) (chain-is j)).0

  pub free-at : free_chain s ≡ p.fs
  free-at =
      let f = chain_fits (waiter_nexts s.waiters) _ p.fs p.fchain (λ x. omega (arith, once-free x 0)) in
      (chain-walk (waiter_nexts s.waiters) 64 _ p.fs (omega (arith, len64)) p.fchain).0

  -- a new next list that agrees on the chain of another object has the same chain there
  pub same-walk : (nx' : List ℕ) (j : ℕ) → length nx' ≡ length (waiter_nexts s.waiters)
      → ((x : ℕ) → 0 < count x (get_or p.cs j []) → at nx' x ≡ at (waiter_nexts s.waiters) x) → walk nx' 64 (head_of (object_at s (suc j))) ≡ chain_of s (suc j)
  same-walk nx' j e g =
      let c = chain-frame (waiter_nexts s.waiters) nx' _ (get_or p.cs j []) e g (chain-is j) in
      let f = chain_fits nx' _ (get_or p.cs j []) c (λ x. omega (arith, once-free x j)) in
      (chain-walk nx' 64 _ (get_or p.cs j []) (omega (arith, len64)) c).0 ∙ sym (chain-at j)

-- ---- the records of the object o that `keep` leaves out went back
pub record Dropped (keep : ℕ → Bool) (s : ObjectStore) (o : ℕ) (s' : ObjectStore) : Type 0 where
  pub self : chain_of s' o ≡ kept keep (chain_of s o)
  pub other : (i : ℕ) → i ≢ o → chain_of s' i ≡ chain_of s i
  pub frees : free_chain s' ≡ gone keep (chain_of s o) (free_chain s)
  -- a record is in one of the lists
  pub apart : (x i : ℕ) → 0 < count x (chain_of s' i) → count x (gone keep (chain_of s o) []) ≡ 0
  pub stay : (x : ℕ) → count x (gone keep (chain_of s o) []) ≡ 0
      → (at (waiter_threads s'.waiters) x ≡ at (waiter_threads s.waiters) x) × (at (waiter_addresses s'.waiters) x ≡ at (waiter_addresses s.waiters) x)
  pub blank : (x : ℕ) → 0 < count x (gone keep (chain_of s o) []) → (at (waiter_threads s'.waiters) x ≡ 0) × (at (waiter_addresses s'.waiters) x ≡ 0)
  pub pool : Chained s'
  pub size : length s'.waiters ≡ 64

module _ (s : ObjectStore) (p : Chained s) (nw : length s.waiters ≡ 64) (keep : ℕ → Bool) (i : ℕ) where
  hooked : Hooked (waiter_nexts s.waiters) (get_or p.cs i []) p.fs (kept keep (get_or p.cs i [])) (gone keep (get_or p.cs i []) p.fs) (unhook keep (waiter_nexts s.waiters) s.free_waiter (get_or p.cs i []))
  hooked = unhook-ok keep (waiter_nexts s.waiters) _ s.free_waiter (get_or p.cs i []) p.fs (chain-is s p nw i) p.fchain (λ x. once-free s p nw x i)

  hooks_are : (waiter_nexts (unlinked keep s (suc i)).waiters ≡ (unhook keep (waiter_nexts s.waiters) s.free_waiter (get_or p.cs i [])).nx)
      × ((unlinked keep s (suc i)).free ≡ (unhook keep (waiter_nexts s.waiters) s.free_waiter (get_or p.cs i [])).free)
      × ((unlinked keep s (suc i)).head ≡ (unhook keep (waiter_nexts s.waiters) s.free_waiter (get_or p.cs i [])).head)
  hooks_are =
      let u = unlink-next keep s.waiters s.free_waiter (chain_of s (suc i)) in
      let c = chain-at s p nw i in (
        u.0 ∙ ap (λ (l : List ℕ). (unhook keep (waiter_nexts s.waiters) s.free_waiter l).nx) c,
        u.1 ∙ ap (λ (l : List ℕ). (unhook keep (waiter_nexts s.waiters) s.free_waiter l).free) c,
        u.2 ∙ ap (λ (l : List ℕ). (unhook keep (waiter_nexts s.waiters) s.free_waiter l).head) c,
      )

  -- kept and gone are what was there
  split_count : (x : ℕ) → count x (kept keep (get_or p.cs i [])) + count x (gone keep (get_or p.cs i []) []) ≡ count x (get_or p.cs i [])
  split_count x = omega (arith, hooked.same x, gone-count keep x (get_or p.cs i []) p.fs)

  walk-other : (o : ℕ) → o ≢ suc i → walk (unhook keep (waiter_nexts s.waiters) s.free_waiter (get_or p.cs i [])).nx 64 (head_of (object_at s o)) ≡ chain_of s o
  unfolding slot_at
  walk-other zero n = walk-zero _ 64 ∙ sym (walk-zero (waiter_nexts s.waiters) 64)
  walk-other (suc j) n = same-walk s p nw _ j hooked.len (λ x z. hooked.frame x (omega (arith, once-two s p nw x j i (λ y. n (ap suc y)))))

  module _ (l : i < length s.slots) (v : Slot) (s' : ObjectStore) (e : head_at v ≡ (unlinked keep s (suc i)).head) (q : s'.slots ≡ slot_put s.slots (suc i) v)
      (w : s'.waiters ≡ (unlinked keep s (suc i)).waiters) (g : s'.free_waiter ≡ (unlinked keep s (suc i)).free) where
    nx-is : waiter_nexts s'.waiters ≡ (unhook keep (waiter_nexts s.waiters) s.free_waiter (get_or p.cs i [])).nx
    nx-is = ap waiter_nexts w ∙ hooks_are.0

    self-is : chain_of s' (suc i) ≡ kept keep (get_or p.cs i [])
    self-is =
        let y : slot_at s'.slots (suc i) ≡ v = ap (λ (x : List Slot). slot_at x (suc i)) q ∙ slot_same s.slots (suc i) v (omega arith) (omega arith) in
        let f = chain_fits _ _ (kept keep (get_or p.cs i [])) hooked.chain (λ x. omega (arith, split_count x, once-free s p nw x i)) in
        ap (λ (x : Slot). walk (waiter_nexts s'.waiters) 64 (head_at x)) y ∙ ap (walk (waiter_nexts s'.waiters) 64) (e ∙ hooks_are.2)
        ∙ ap (λ (n : List ℕ). walk n 64 (unhook keep (waiter_nexts s.waiters) s.free_waiter (get_or p.cs i [])).head) nx-is
        ∙ (chain-walk _ 64 _ (kept keep (get_or p.cs i [])) (omega (arith, len64 s p nw, hooked.len)) hooked.chain).0

    other-is : (o : ℕ) → o ≢ suc i → chain_of s' o ≡ chain_of s o
    other-is o n =
        ap (λ (x : List Slot). walk (waiter_nexts s'.waiters) 64 (head_of (slot_at x o).object)) q
        ∙ ap (λ (x : Slot). walk (waiter_nexts s'.waiters) 64 (head_at x)) (slot-other s.slots (suc i) v o n)
        ∙ ap (λ (x : List ℕ). walk x 64 (head_of (object_at s o))) nx-is
        ∙ walk-other o n

    frees_are : free_chain s' ≡ gone keep (get_or p.cs i []) p.fs
    frees_are =
        let f = chain_fits _ _ (gone keep (get_or p.cs i []) p.fs) hooked.fchain (λ x. omega (arith, hooked.same x, once-free s p nw x i)) in
        ap (λ (n : List ℕ). walk n 64 s'.free_waiter) nx-is ∙ ap (walk _ 64) (g ∙ hooks_are.1)
        ∙ (chain-walk _ 64 _ (gone keep (get_or p.cs i []) p.fs) (omega (arith, len64 s p nw, hooked.len)) hooked.fchain).0

    apart-is : (x o : ℕ) → 0 < count x (chain_of s' o) → count x (gone keep (get_or p.cs i []) []) ≡ 0
    apart-is x o z =
        elim (ind-cases o (suc i)) [
          | inl a ↦
              let c : count x (chain_of s' o) ≡ count x (kept keep (get_or p.cs i [])) = ap (λ (k : ℕ). count x (chain_of s' k)) a.0 ∙ ap (count x) self-is in
              omega (arith, split_count x, once-free s p nw x i)
          | inr a ↦ go o a.0 z (ap (count x) (other-is o a.0))
        ]
      where
        go : (o : ℕ) → o ≢ suc i → 0 < count x (chain_of s' o) → count x (chain_of s' o) ≡ count x (chain_of s o) → count x (gone keep (get_or p.cs i []) []) ≡ 0
        go zero n z c = absurd (omega (arith, count-no-chain s x))
        go (suc j) n z c = omega (arith, ap (count x) (chain-at s p nw j), split_count x, once-two s p nw x j i (λ y. n (ap suc y)))

    pool-is : Chained s'
    unfolding slot_put
    pool-is =
        let hs : heads s'.slots ≡ set (heads s.slots) i (unhook keep (waiter_nexts s.waiters) s.free_waiter (get_or p.cs i [])).head =
        ap heads q ∙ map-set head_at s.slots i v ∙ ap (set (heads s.slots) i) (e ∙ hooks_are.2) in
        rw (nx-is, hs, g ∙ hooks_are.1)
        (pool-drop-at keep (waiter_nexts s.waiters) (heads s.slots) s.free_waiter i p.cs p.fs p.chains p.fchain p.once (omega (arith, length-map s.slots head_at)))

    dropped-at : Dropped keep s (suc i) s'
    dropped-at =
        let c = chain-at s p nw i in
        let t : waiter_threads s'.waiters ≡ blanked keep (waiter_threads s.waiters) (chain_of s (suc i)) = ap waiter_threads w ∙ unlink-threads keep s.waiters s.free_waiter (chain_of s (suc i)) in
        let a : waiter_addresses s'.waiters ≡ blanked keep (waiter_addresses s.waiters) (chain_of s (suc i)) = ap waiter_addresses w ∙ unlink-addresses keep s.waiters s.free_waiter (chain_of s (suc i)) in
        record {
          self = self-is ∙ ap (kept keep) (sym c);
          other = other-is;
          frees = frees_are ∙ (λ j. gone keep (sym c j) (sym (free-at s p nw) j));
          apart = λ x o z. ap (λ (y : List ℕ). count x (gone keep y [])) c ∙ apart-is x o z;
          stay = λ x z. (ap (λ (y : List ℕ). at y x) t ∙ blanked-kept keep (waiter_threads s.waiters) x (chain_of s (suc i)) z, ap (λ (y : List ℕ). at y x) a ∙ blanked-kept keep (waiter_addresses s.waiters) x (chain_of s (suc i)) z);
          blank = λ x z. (ap (λ (y : List ℕ). at y x) t ∙ blanked-gone keep (waiter_threads s.waiters) x (chain_of s (suc i)) z, ap (λ (y : List ℕ). at y x) a ∙ blanked-gone keep (waiter_addresses s.waiters) x (chain_of s (suc i)) z);
          pool = pool-is;
          size = ap length w ∙ length-unlink keep s.waiters s.free_waiter (chain_of s (suc i)) ∙ nw;
        }

module _ (s : ObjectStore) (p : Chained s) (nw : length s.waiters ≡ 64) where
  pub dropped : (keep : ℕ → Bool) (o : ℕ) → 0 < o → o ≤ length s.slots → (v : Slot) (s' : ObjectStore) → head_at v ≡ (unlinked keep s o).head → s'.slots ≡ slot_put s.slots o v
      → s'.waiters ≡ (unlinked keep s o).waiters → s'.free_waiter ≡ (unlinked keep s o).free → Dropped keep s o s'
  dropped keep zero z l v s' e q w g = absurd (omega arith)
  dropped keep (suc i) z l v s' e q w g = dropped-at s p nw keep i (omega arith) v s' e q w g

  -- with all of them gone there is no head
  pub none_left : (o : ℕ) → 0 < o → 0 ≡ (unlinked (λ r. false) s o).head
  none_left zero z = absurd (omega arith)
  none_left (suc i) z =
      sym ((hooks_are s p nw (λ r. false) i).2 ∙ subst (IsChain _ _) (kept-none (get_or p.cs i [])) (hooked s p nw (λ r. false) i).chain)

pub dropped-blanks : (keep : ℕ → Bool) (s : ObjectStore) (o : ℕ) (s' : ObjectStore) → Dropped keep s o s' → Blanks (waiter_threads s.waiters) (waiter_addresses s.waiters) (free_chain s)
    → Blanks (waiter_threads s'.waiters) (waiter_addresses s'.waiters) (free_chain s')
dropped-blanks keep s o s' d b =
    at-blanks (waiter_threads s'.waiters) (waiter_addresses s'.waiters) (free_chain s')
    (λ x z. elim (lt-cases 0 (count x (gone keep (chain_of s o) []))) [
      | inl h ↦ d.blank x h
      | inr h ↦
          let y = d.stay x (omega arith) in
          let f = blanks_at (waiter_threads s.waiters) (waiter_addresses s.waiters) (free_chain s) b x (omega (arith, ap (count x) d.frees, gone-count keep x (chain_of s o) (free_chain s))) in
          (y.0 ∙ f.0, y.1 ∙ f.1)
    ])
