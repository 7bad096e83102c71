-- One record more at the end of a chain, from the head of the free one.
use Rattle.std.specs.Prelude.{◌≡◌, refl, ◌≢◌, List, [], ◌∷◌, ◌++◌, length, get_or}
use Rattle.std.proofs.Math.Path.{ap, sym}
use Rattle.std.proofs.Common.{subst, ◌∙◌, arith}
use Rattle.std.proofs.Math.Logic.{inl, inr}
use Prim.Native.Nat.{ℕ, zero, suc, ◌+◌, ◌≤◌, ◌<◌}
use Rattle.std.proofs.Math.ListN.{set, length-map}
use Rattle.laws.specs.Count.{ind-cases, ind-same, count, count_all, count_append, at, put, Cell, at-put-other}
use Rattle.laws.specs.Chain.{IsChain, chain-frame, hang, head_or, length-hang, hang-frame, chain-hang}
use Rattle.laws.specs.Walk.{walk, walk-zero, chain-walk, chain_fits}
use Rattle.laws.specs.Pool.{pool-take-at}
use Rattle.types.specs.declared.object.Slot.{Slot}
use Rattle.types.specs.declared.object.Waiter.{Waiter}
use Rattle.types.specs.declared.object.ObjectStore.{ObjectStore}
use Rattle.types.specs.Object.{head_of}
use Rattle.sound.specs.View.{heads, waiter_nexts, waiter_threads, waiter_addresses, slot_at, object_at}
use Rattle.sound.specs.Records.{Chained, chain_of, free_chain, Blanks}
use Rattle.object.specs.Slots.{slot_put}
use Rattle.object.specs.Waiters.{waiter_at, first_of, hung}
use Rattle.object.proofs.Laws.{at-waiters}
use Rattle.soundness.specs.Slots.{head_at, map-set, slot_same, slot-other}
use Rattle.soundness.specs.Waiters.{hung-next, hung_column, length-hung, first_head}
use Rattle.soundness.specs.Chains.{count-no-chain, blanks_at, at-blanks, len64, once-two, once-free, chain-is, chain-at, free-at, same-walk}

abbrev tail_of : List ℕ → List ℕ
tail_of [] = []
tail_of (x ∷ xs) = xs

tail_is : (nx : List ℕ) (r : ℕ) (fs : List ℕ) → IsChain nx r fs → 0 < r → fs ≡ r ∷ tail_of fs
tail_is nx r [] c z = absurd (omega arith)
tail_is nx r (x ∷ fs) c z = ap (λ y. y ∷ fs) (sym c.0)

-- the record r of (t, a) went from the free chain to the end of o's
pub record Pushed (s : ObjectStore) (o r t a : ℕ) (s' : ObjectStore) : Type 0 where
  pub self : chain_of s' o ≡ chain_of s o ++ (r ∷ [])
  pub other : (i : ℕ) → i ≢ o → chain_of s' i ≡ chain_of s i
  pub frees : free_chain s ≡ r ∷ free_chain s'
  pub out : (i : ℕ) → count r (chain_of s i) ≡ 0
  pub out_free : count r (free_chain s') ≡ 0
  pub threads : waiter_threads s'.waiters ≡ put (waiter_threads s.waiters) r t
  pub addresses : waiter_addresses s'.waiters ≡ put (waiter_addresses s.waiters) r a
  pub cell : Cell (waiter_nexts s.waiters) r
  pub pool : Chained s'
  pub size : length s'.waiters ≡ 64

module _ (s : ObjectStore) (p : Chained s) (nw : length s.waiters ≡ 64) (i : ℕ) (z : 0 < s.free_waiter) where
  tail_at : p.fs ≡ s.free_waiter ∷ tail_of p.fs
  tail_at = tail_is (waiter_nexts s.waiters) s.free_waiter p.fs p.fchain z

  fchain-at : IsChain (waiter_nexts s.waiters) s.free_waiter (s.free_waiter ∷ tail_of p.fs)
  fchain-at = subst (IsChain (waiter_nexts s.waiters) s.free_waiter) tail_at p.fchain

  fs-count : (x : ℕ) → count x p.fs ≡ count x (s.free_waiter ∷ tail_of p.fs)
  fs-count x = ap (count x) tail_at

  not_in : (j : ℕ) → count s.free_waiter (get_or p.cs j []) ≡ 0
  unfolding count
  not_in j = omega (arith, once-free s p nw s.free_waiter j, fs-count s.free_waiter, ind-same s.free_waiter)

  not_tail : count s.free_waiter (tail_of p.fs) ≡ 0
  unfolding count
  not_tail = omega (arith, once-free s p nw s.free_waiter 0, fs-count s.free_waiter, ind-same s.free_waiter)

  tail_once : (x k : ℕ) → count x (get_or p.cs k []) + count x (tail_of p.fs) ≤ 1
  unfolding count
  tail_once x k = omega (arith, once-free s p nw x k, fs-count x)

  out-is : (o : ℕ) → count s.free_waiter (chain_of s o) ≡ 0
  out-is zero = count-no-chain s s.free_waiter
  out-is (suc j) = ap (count s.free_waiter) (chain-at s p nw j) ∙ not_in j

  self-chain : IsChain (hang (waiter_nexts s.waiters) (get_or p.cs i []) s.free_waiter) (head_or (get_or p.cs i []) s.free_waiter) (get_or p.cs i [] ++ (s.free_waiter ∷ []))
  self-chain = chain-hang (waiter_nexts s.waiters) _ (get_or p.cs i []) s.free_waiter fchain-at.1 (not_in i) (λ x. omega (arith, once-free s p nw x i)) (chain-is s p nw i)

  self-once : (x : ℕ) → count x (get_or p.cs i [] ++ (s.free_waiter ∷ [])) ≤ 1
  unfolding count
  self-once x =
      elim (ind-cases s.free_waiter x) [
        | inl e ↦ omega (arith, count_append x (get_or p.cs i []) (s.free_waiter ∷ []), ap (λ (k : ℕ). count k (get_or p.cs i [])) e.0, not_in i, e.1)
        | inr e ↦ omega (arith, count_append x (get_or p.cs i []) (s.free_waiter ∷ []), e.1, once-free s p nw x i)
      ]

  walk-other : (o : ℕ) → o ≢ suc i → walk (hang (waiter_nexts s.waiters) (get_or p.cs i []) s.free_waiter) 64 (head_of (object_at s o)) ≡ chain_of s o
  unfolding slot_at
  walk-other zero n = walk-zero _ 64 ∙ sym (walk-zero (waiter_nexts s.waiters) 64)
  walk-other (suc j) n =
      same-walk s p nw _ j (length-hang (waiter_nexts s.waiters) (get_or p.cs i []) s.free_waiter)
      (λ x w. hang-frame (waiter_nexts s.waiters) (get_or p.cs i []) s.free_waiter x (omega (arith, once-two s p nw x j i (λ y. n (ap suc y))))
      (λ e. omega (arith, not_in j, ap (λ (k : ℕ). count k (get_or p.cs j [])) e)))

  tail_chain : IsChain (hang (waiter_nexts s.waiters) (get_or p.cs i []) s.free_waiter) (at (waiter_nexts s.waiters) s.free_waiter) (tail_of p.fs)
  tail_chain =
      chain-frame (waiter_nexts s.waiters) _ _ (tail_of p.fs) (length-hang (waiter_nexts s.waiters) (get_or p.cs i []) s.free_waiter)
      (λ x w. hang-frame (waiter_nexts s.waiters) (get_or p.cs i []) s.free_waiter x (omega (arith, tail_once x i))
      (λ e. omega (arith, not_tail, ap (λ (k : ℕ). count k (tail_of p.fs)) e)))
      fchain-at.2

  module _ (t a : ℕ) (l : i < length s.slots) (v : Slot) (s' : ObjectStore) (e : head_at v ≡ first_of (chain_of s (suc i)) s.free_waiter) (q : s'.slots ≡ slot_put s.slots (suc i) v)
      (w : s'.waiters ≡ hung s.waiters (chain_of s (suc i)) s.free_waiter (record { thread = t; address = a; next = 0 })) (g : s'.free_waiter ≡ (waiter_at s.waiters s.free_waiter).next) where
    nx-is : waiter_nexts s'.waiters ≡ hang (waiter_nexts s.waiters) (get_or p.cs i []) s.free_waiter
    nx-is =
        ap waiter_nexts w ∙ hung-next s.waiters (chain_of s (suc i)) s.free_waiter (record { thread = t; address = a; next = 0 }) refl
        ∙ ap (λ (x : List ℕ). hang (waiter_nexts s.waiters) x s.free_waiter) (chain-at s p nw i)

    head-is : head_at v ≡ head_or (get_or p.cs i []) s.free_waiter
    head-is = e ∙ first_head (chain_of s (suc i)) s.free_waiter ∙ ap (λ (x : List ℕ). head_or x s.free_waiter) (chain-at s p nw i)

    free-is : s'.free_waiter ≡ at (waiter_nexts s.waiters) s.free_waiter
    free-is = g ∙ sym (at-waiters (λ (x : Waiter). x.next) s.waiters s.free_waiter refl)

    self-is : chain_of s' (suc i) ≡ get_or p.cs i [] ++ (s.free_waiter ∷ [])
    self-is =
        let y : slot_at s'.slots (suc i) ≡ v = ap (λ (x : List Slot). slot_at x (suc i)) q ∙ slot_same s.slots (suc i) v (omega arith) (omega arith) in
        let f = chain_fits _ _ (get_or p.cs i [] ++ (s.free_waiter ∷ [])) self-chain self-once in
        ap (λ (x : Slot). walk (waiter_nexts s'.waiters) 64 (head_at x)) y ∙ ap (walk (waiter_nexts s'.waiters) 64) head-is
        ∙ ap (λ (n : List ℕ). walk n 64 (head_or (get_or p.cs i []) s.free_waiter)) nx-is
        ∙ (chain-walk _ 64 _ (get_or p.cs i [] ++ (s.free_waiter ∷ [])) (omega (arith, len64 s p nw, length-hang (waiter_nexts s.waiters) (get_or p.cs i []) s.free_waiter)) self-chain).0

    other-is : (o : ℕ) → o ≢ suc i → chain_of s' o ≡ chain_of s o
    other-is o n =
        ap (λ (x : List Slot). walk (waiter_nexts s'.waiters) 64 (head_of (slot_at x o).object)) q
        ∙ ap (λ (x : Slot). walk (waiter_nexts s'.waiters) 64 (head_at x)) (slot-other s.slots (suc i) v o n)
        ∙ ap (λ (x : List ℕ). walk x 64 (head_of (object_at s o))) nx-is
        ∙ walk-other o n

    frees_are : free_chain s' ≡ tail_of p.fs
    frees_are =
        let f = chain_fits _ _ (tail_of p.fs) tail_chain (λ x. omega (arith, tail_once x i)) in
        ap (λ (n : List ℕ). walk n 64 s'.free_waiter) nx-is ∙ ap (walk _ 64) free-is
        ∙ (chain-walk _ 64 _ (tail_of p.fs) (omega (arith, len64 s p nw, length-hang (waiter_nexts s.waiters) (get_or p.cs i []) s.free_waiter)) tail_chain).0

    pool-is : Chained s'
    unfolding slot_put
    pool-is =
        let hs : heads s'.slots ≡ set (heads s.slots) i (head_or (get_or p.cs i []) s.free_waiter) =
        ap heads q ∙ map-set head_at s.slots i v ∙ ap (set (heads s.slots) i) head-is in
        rw (nx-is, hs, free-is)
        (pool-take-at (waiter_nexts s.waiters) (heads s.slots) s.free_waiter i p.cs (tail_of p.fs) p.chains fchain-at (λ x. ap (λ (n : ℕ). count_all x p.cs + n) (sym (fs-count x)) ∙ p.once x)
        (omega (arith, length-map s.slots head_at)))

    pushed_at : Pushed s (suc i) s.free_waiter t a s'
    pushed_at =
        let r : Waiter = record { thread = t; address = a; next = 0 } in
        record {
          self = self-is ∙ ap (λ (x : List ℕ). x ++ (s.free_waiter ∷ [])) (sym (chain-at s p nw i));
          other = other-is;
          frees = free-at s p nw ∙ tail_at ∙ ap (λ (x : List ℕ). s.free_waiter ∷ x) (sym frees_are);
          out = out-is;
          out_free = ap (count s.free_waiter) frees_are ∙ not_tail;
          threads = ap waiter_threads w ∙ hung_column (λ (x : Waiter). x.thread) (λ x n. refl) s.waiters (chain_of s (suc i)) s.free_waiter r;
          addresses = ap waiter_addresses w ∙ hung_column (λ (x : Waiter). x.address) (λ x n. refl) s.waiters (chain_of s (suc i)) s.free_waiter r;
          cell = fchain-at.1;
          pool = pool-is;
          size = ap length w ∙ length-hung s.waiters (chain_of s (suc i)) s.free_waiter r ∙ nw;
        }

pub pushed_of : (s : ObjectStore) → Chained s → length s.waiters ≡ 64 → (o t a : ℕ) → 0 < o → o ≤ length s.slots → 0 < s.free_waiter → (v : Slot) (s' : ObjectStore)
    → head_at v ≡ first_of (chain_of s o) s.free_waiter → s'.slots ≡ slot_put s.slots o v
    → s'.waiters ≡ hung s.waiters (chain_of s o) s.free_waiter (record { thread = t; address = a; next = 0 }) → s'.free_waiter ≡ (waiter_at s.waiters s.free_waiter).next
    → Pushed s o s.free_waiter t a s'
pushed_of s p nw zero t a z l y v s' e q w g = absurd (omega arith)
pushed_of s p nw (suc i) t a z l y v s' e q w g = pushed_at s p nw i y t a (omega arith) v s' e q w g

pub pushed-blanks : (s : ObjectStore) (o r t a : ℕ) (s' : ObjectStore) → Pushed s o r t a s' → Blanks (waiter_threads s.waiters) (waiter_addresses s.waiters) (free_chain s)
    → Blanks (waiter_threads s'.waiters) (waiter_addresses s'.waiters) (free_chain s')
unfolding count
pushed-blanks s o r t a s' d b =
    at-blanks (waiter_threads s'.waiters) (waiter_addresses s'.waiters) (free_chain s')
    (λ x z.
    let n : x ≢ r = λ e. omega (arith, d.out_free, ap (λ (k : ℕ). count k (free_chain s')) e) in
    let f = blanks_at (waiter_threads s.waiters) (waiter_addresses s.waiters) (free_chain s) b x (omega (arith, ap (count x) d.frees)) in
    (ap (λ (y : List ℕ). at y x) d.threads ∙ at-put-other (waiter_threads s.waiters) r x t n ∙ f.0, ap (λ (y : List ℕ). at y x) d.addresses ∙ at-put-other (waiter_addresses s.waiters) r x a n ∙ f.1))
