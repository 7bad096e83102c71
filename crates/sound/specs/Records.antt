-- "record chains, the free one included, ending, disjoint and together all 64, no (thread, address) twice in one arbiter's".
-- A record on the free chain is blank, as all that is unused.
use Rattle.std.specs.Prelude.{◌≡◌, Bool, true, false, not, List, [], ◌∷◌, ℕ, ◌<◌, eqb, ltb, length}
use Rattle.std.proofs.Common.{sym, subst}
use Rattle.laws.specs.Logic.{◌and◌, ◌or◌}
use Rattle.laws.specs.Test.{Test, t-yes, t-eq, t-lt, t-and, t_as, t_not}
use Rattle.laws.specs.Numbers.{all_to}
use Rattle.laws.specs.Count.{at}
use Rattle.laws.specs.Walk.{walk, walk-zero}
use Rattle.laws.specs.Pool.{Pool}
use Rattle.laws.specs.PoolTest.{pool?, t-pool}
use Rattle.types.specs.declared.object.Slot.{Slot}
use Rattle.types.specs.declared.object.ObjectStore.{ObjectStore}
use Rattle.types.specs.Object.{head_of}
use Rattle.sound.specs.View.{heads, waiter_nexts, waiter_threads, waiter_addresses, no_slot, slot_at, object_at, t-slots}

-- ---- the chains
abbrev pub Chained : ObjectStore → Type 0
Chained s = Pool (waiter_nexts s.waiters) (heads s.slots) s.free_waiter

unfoldable pub chained? : ObjectStore → Bool
chained? s = pool? (waiter_nexts s.waiters) (heads s.slots) s.free_waiter

-- the records of an object, and the free ones
abbrev pub chain_of : ObjectStore → ℕ → List ℕ
chain_of s o = walk (waiter_nexts s.waiters) 64 (head_of (object_at s o))

abbrev pub free_chain : ObjectStore → List ℕ
free_chain s = walk (waiter_nexts s.waiters) 64 s.free_waiter

-- ---- one arbiter's records: threads below n, no pair twice
unfoldable pub has? : List ℕ → List ℕ → ℕ → ℕ → List ℕ → Bool
has? ts ad t a [] = false
has? ts ad t a (x ∷ xs) = (eqb (at ts x) t and eqb (at ad x) a) or has? ts ad t a xs

abbrev pub ChainOk : List ℕ → List ℕ → ℕ → List ℕ → Type 0
ChainOk ts ad n [] = Unit {0}
ChainOk ts ad n (x ∷ xs) = (at ts x < n) × ((has? ts ad (at ts x) (at ad x) xs ≡ false) × ChainOk ts ad n xs)

unfoldable pub chain? : List ℕ → List ℕ → ℕ → List ℕ → Bool
chain? ts ad n [] = true
chain? ts ad n (x ∷ xs) = ltb (at ts x) n and (not (has? ts ad (at ts x) (at ad x) xs) and chain? ts ad n xs)

t-chain : (ts ad : List ℕ) (n : ℕ) (xs : List ℕ) → Test (chain? ts ad n xs) (ChainOk ts ad n xs)
unfolding chain?
t-chain ts ad n [] = t-yes
t-chain ts ad n (x ∷ xs) = t-and (t-lt (at ts x) n) (t-and (t_not (has? ts ad (at ts x) (at ad x) xs)) (t-chain ts ad n xs))

-- ---- blank records
abbrev pub Blanks : List ℕ → List ℕ → List ℕ → Type 0
Blanks ts ad [] = Unit {0}
Blanks ts ad (x ∷ xs) = (at ts x ≡ 0) × ((at ad x ≡ 0) × Blanks ts ad xs)

unfoldable pub blanks? : List ℕ → List ℕ → List ℕ → Bool
blanks? ts ad [] = true
blanks? ts ad (x ∷ xs) = eqb (at ts x) 0 and (eqb (at ad x) 0 and blanks? ts ad xs)

t-blanks : (ts ad xs : List ℕ) → Test (blanks? ts ad xs) (Blanks ts ad xs)
unfolding blanks?
t-blanks ts ad [] = t-yes
t-blanks ts ad (x ∷ xs) = t-and (t-eq (at ts x) 0) (t-and (t-eq (at ad x) 0) (t-blanks ts ad xs))

-- ---- all of them
pub record RecordsOk (n : ℕ) (s : ObjectStore) : Type 0 where
  pub chained : Chained s
  pub chains : (o : ℕ) → ChainOk (waiter_threads s.waiters) (waiter_addresses s.waiters) n (chain_of s o)
  pub blanks : Blanks (waiter_threads s.waiters) (waiter_addresses s.waiters) (free_chain s)

unfoldable pub records? : ℕ → ObjectStore → Bool
records? n s =
    chained? s
    and (all_to 128 (λ o. chain? (waiter_threads s.waiters) (waiter_addresses s.waiters) n (chain_of s o))
    and blanks? (waiter_threads s.waiters) (waiter_addresses s.waiters) (free_chain s))

pub t-records : (n : ℕ) (s : ObjectStore) → length s.slots ≡ 128 → Test (records? n s) (RecordsOk n s)
unfolding records? chained?
t-records n s e =
    t_as (λ h. record { chained = h.0; chains = h.1.0; blanks = h.1.1 }) (λ h. (h.chained, (h.chains, h.blanks)))
    (t-and (t-pool (waiter_nexts s.waiters) (heads s.slots) s.free_waiter)
    (t-and (t-slots 128 s.slots e (λ o. t-chain (waiter_threads s.waiters) (waiter_addresses s.waiters) n (chain_of s o)) none)
    (t-blanks (waiter_threads s.waiters) (waiter_addresses s.waiters) (free_chain s))))
  where
    none : (o : ℕ) → slot_at s.slots o ≡ no_slot → ChainOk (waiter_threads s.waiters) (waiter_addresses s.waiters) n (chain_of s o)
    none o q =
        subst (λ (y : Slot). ChainOk (waiter_threads s.waiters) (waiter_addresses s.waiters) n (walk (waiter_nexts s.waiters) 64 (head_of y.object))) (sym q)
        (subst (ChainOk (waiter_threads s.waiters) (waiter_addresses s.waiters) n) (sym (walk-zero (waiter_nexts s.waiters) 64)) tt)
