-- TLS slots: a new thread gets one that no live thread holds, and the next stays at most 32; an ended thread gives its own back.
use Rattle.std.specs.Prelude.{◌≡◌, refl, Bool, true, false, eqb, ltb, length, set}
use Rattle.std.proofs.Common.{ap, inl, inr, arith, eqb-true, ltb-true, ltb-false}
use Rattle.std.proofs.Math.Path.{subst}
use mathlib.Core.List.{List, [], ◌∷◌}
use Prim.Native.Nat.{ℕ, zero, suc, ◌+◌, ◌-◌, ◌≤◌, ◌<◌}
use Rattle.std.proofs.lemmas.Bool.{eqb-false}
use Rattle.laws.specs.Logic.{pick, lt-cases}
use Rattle.laws.specs.All.{All, all_as}
use Rattle.laws.specs.Count.{count, ind, ind-cases, ind-other}
use Rattle.types.specs.declared.thread.Thread.{Thread}
use Rattle.types.specs.declared.kernel.Kernel.{Kernel}
use Rattle.types.specs.Thread.{is_dead}
use Rattle.sound.specs.View.{thread_at}
use Rattle.sound.specs.Tls.{held_if, held, if_length, held-length, far, TlsOk}
use Rattle.tally.specs.Lists.{slot_of}
use Rattle.thread.specs.Threads.{least, free_from, tls_slot}
use Rattle.thread.specs.Marks.{least-is}

-- ---- the slots held after one thread is another
count_if : (s : ℕ) (b : Bool) (x : ℕ) (l : List ℕ) → count s (held_if b x l) ≡ count s (held_if b x []) + count s l
unfolding count
count_if s true x l = omega arith
count_if s false x l = omega arith

pub held-set : (s : ℕ) (ts : List Thread) (i : ℕ) (v : Thread) → i < length ts
    → count s (held (set ts i v)) + count s (slot_of (thread_at ts i)) ≡ count s (held ts) + count s (slot_of v)
unfolding held
held-set s [] i v h = absurd (omega arith)
held-set s (t ∷ ts) zero v h = omega (arith, count_if s (is_dead v.status) v.tls (held ts), count_if s (is_dead t.status) t.tls (held ts))
held-set s (t ∷ ts) (suc i) v h =
    omega (
      arith,
      count_if s (is_dead t.status) t.tls (held (set ts i v)),
      count_if s (is_dead t.status) t.tls (held ts),
      held-set s ts i v (omega arith),
    )

module _ (P : ℕ → Type 0) where
  all_if : (b : Bool) (x : ℕ) (l : List ℕ) → All P (held_if b x []) → All P l → All P (held_if b x l)
  all_if true x l a h = h
  all_if false x l a h = (a.0, h)

  all_one : (b : Bool) (x : ℕ) (l : List ℕ) → All P (held_if b x l) → All P (held_if b x [])
  all_one true x l a = tt
  all_one false x l a = (a.0, tt)

  all_rest : (b : Bool) (x : ℕ) (l : List ℕ) → All P (held_if b x l) → All P l
  all_rest true x l a = a
  all_rest false x l a = a.1

  pub all_held : (ts : List Thread) (i : ℕ) (v : Thread) → All P (slot_of v) → All P (held ts) → All P (held (set ts i v))
  unfolding held
  all_held [] i v p a = a
  all_held (t ∷ ts) zero v p a = all_if (is_dead v.status) v.tls (held ts) p (all_rest (is_dead t.status) t.tls (held ts) a)
  all_held (t ∷ ts) (suc i) v p a =
      all_if (is_dead t.status) t.tls (held (set ts i v)) (all_one (is_dead t.status) t.tls (held ts) a)
      (all_held ts i v p (all_rest (is_dead t.status) t.tls (held ts) a))

-- a thread whose slot is that of the one before it
held_same : (ts : List Thread) (i : ℕ) (v : Thread) → i < length ts → is_dead v.status ≡ is_dead (thread_at ts i).status → v.tls ≡ (thread_at ts i).tls → held (set ts i v) ≡ held ts
unfolding held
held_same [] i v h d e = refl
held_same (t ∷ ts) zero v h d e = rw (d, e)
held_same (t ∷ ts) (suc i) v h d e = ap (held_if (is_dead t.status) t.tls) (held_same ts i v (omega arith) d e)

-- ---- with a thread Dead, fewer slots are held than there are threads
held_fewer : (ts : List Thread) (i : ℕ) → i < length ts → is_dead (thread_at ts i).status ≡ true → suc (length (held ts)) ≤ length ts
unfolding held
held_fewer [] i h d = absurd (omega arith)
held_fewer (t ∷ ts) zero h d = rw d (omega (arith, held-length ts))
held_fewer (t ∷ ts) (suc i) h d = omega (arith, if_length (is_dead t.status) t.tls (held ts), held_fewer ts i (omega arith) d)

-- ---- as many different numbers below n as a list has need a list of n
unfoldable pub sum_below : ℕ → (ℕ → ℕ) → ℕ
sum_below zero f = 0
sum_below (suc n) f = f n + sum_below n f

sum-add : (n : ℕ) (f g : ℕ → ℕ) → sum_below n (λ i. f i + g i) ≡ sum_below n f + sum_below n g
unfolding sum_below
sum-add zero f g = refl
sum-add (suc n) f g = omega (arith, sum-add n f g)

sum-none : (n : ℕ) → sum_below n (λ i. 0) ≡ 0
unfolding sum_below
sum-none zero = refl
sum-none (suc n) = omega (arith, sum-none n)

sum-far : (n x : ℕ) → n ≤ x → sum_below n (ind x) ≡ 0
unfolding sum_below
sum-far zero x h = refl
sum-far (suc n) x h = omega (arith, ind-other x n (omega arith), sum-far n x (omega arith))

sum_one : (n x : ℕ) → sum_below n (ind x) ≤ 1
unfolding sum_below
sum_one zero x = omega arith
sum_one (suc n) x = elim (ind-cases x n) [ inl e ↦ omega (arith, e.1, sum-far n x (omega (arith, e.0))) | inr e ↦ omega (arith, e.1, sum_one n x) ]

sum-count : (n : ℕ) (l : List ℕ) → sum_below n (λ s. count s l) ≤ length l
unfolding count
sum-count n [] = omega (arith, sum-none n)
sum-count n (x ∷ xs) = omega (arith, sum-add n (ind x) (λ s. count s xs), sum_one n x, sum-count n xs)

sum-all : (n : ℕ) (f : ℕ → ℕ) → ((s : ℕ) → s < n → 0 < f s) → n ≤ sum_below n f
unfolding sum_below
sum-all zero f h = omega arith
sum-all (suc n) f h = omega (arith, h n (omega arith), sum-all n f (λ s l. h s (omega arith)))

-- ---- the slot that is found
pub record FreeSlot (l : List ℕ) (n s r : ℕ) : Type 0 where
  pub from : s ≤ r
  pub to : r ≤ s + n
  pub free : r < s + n → count r l ≡ 0
  pub held : (i : ℕ) → s ≤ i → i < r → 0 < count i l

free_as : (l : List ℕ) (n s : ℕ) (t : Bool) → eqb (count s l) 0 ≡ t → FreeSlot l n (s + 1) (free_from l n (s + 1)) → FreeSlot l (suc n) s (pick t s (free_from l n (s + 1)))
free_as l n s true e h = record { from = omega arith; to = omega arith; free = λ q. eqb-true (count s l) 0 e; held = λ i a b. absurd (omega arith) }
free_as l n s false e h = record {
  from = omega (arith, h.from);
  to = omega (arith, h.to);
  free = λ q. h.free (omega arith);
  held = λ i a b. elim (ind-cases i s) [ inl q ↦ rw q.0 (let z = eqb-false (count s l) 0 e in omega arith) | inr q ↦ h.held i (omega (arith, q.0)) b ];
}

pub free-from : (l : List ℕ) (n s : ℕ) → FreeSlot l n s (free_from l n s)
unfolding free_from
free-from l zero s = record { from = omega arith; to = omega arith; free = λ q. absurd (omega arith); held = λ i a b. absurd (omega arith) }
free-from l (suc n) s = free_as l n s (eqb (count s l) 0) refl (free-from l n (s + 1))

-- ---- a thread that holds the slot found comes to a Dead place
module _ (k : Kernel) (h : TlsOk k.threads k.next_tls_slot) (nt : length k.threads ≡ 32) (i : ℕ) (l : i < 32) (d : is_dead (thread_at k.threads i).status ≡ true) where
  slot : FreeSlot (held k.threads) k.next_tls_slot 0 (tls_slot k)
  unfolding tls_slot
  slot = subst (λ (n : ℕ). FreeSlot (held k.threads) n 0 (free_from (held k.threads) (least k.next_tls_slot 32) 0)) (least-is k.next_tls_slot 32 h.most) (free-from (held k.threads) (least k.next_tls_slot 32) 0)

  -- nobody holds it
  not-held : count (tls_slot k) (held k.threads) ≡ 0
  not-held = elim (lt-cases (tls_slot k) k.next_tls_slot) [ inl q ↦ slot.free (omega arith) | inr q ↦ far k.next_tls_slot (held k.threads) h.below (tls_slot k) q ]

  -- if it is the next one, all before it are held, by other threads than the Dead one
  next_fits : k.next_tls_slot ≤ tls_slot k → suc (tls_slot k) ≤ 32
  next_fits q =
      omega (
        arith,
        slot.to,
        sum-all (tls_slot k) (λ s. count s (held k.threads)) (λ s p. slot.held s (omega arith) p),
        sum-count (tls_slot k) (held k.threads),
        held_fewer k.threads i (omega arith) d,
      )

  none_before : (s : ℕ) → count s (slot_of (thread_at k.threads i)) ≡ 0
  unfolding count
  none_before s = rw d

  module _ (v : Thread) (a : is_dead v.status ≡ false) (e : v.tls ≡ tls_slot k) where
    one-after : (s : ℕ) → count s (slot_of v) ≡ ind (tls_slot k) s
    unfolding count
    one-after s = rw (a, e) (omega arith)

    after : (next : ℕ) → k.next_tls_slot ≤ next → tls_slot k < next → next ≤ 32 → TlsOk (set k.threads i v) next
    after next p q m = record {
      most = m;
      below = all_held (λ s. s < next) k.threads i v (rw (a, e) (q, tt)) (all_as (λ s. s < k.next_tls_slot) (λ s. s < next) (λ s z. omega arith) (held k.threads) h.below);
      once = λ s. elim (ind-cases (tls_slot k) s) [
        | inl z ↦ omega (arith, held-set s k.threads i v (omega arith), none_before s, one-after s, z.1, ap (λ (j : ℕ). count j (held k.threads)) z.0, not-held)
        | inr z ↦ omega (arith, held-set s k.threads i v (omega arith), none_before s, one-after s, z.1, h.once s)
      ];
    }

    next-is : (t : Bool) → ltb (tls_slot k) k.next_tls_slot ≡ t → TlsOk (set k.threads i v) (pick t k.next_tls_slot (tls_slot k + 1))
    next-is true z = after k.next_tls_slot (omega arith) (ltb-true _ _ z) h.most
    next-is false z = let q = ltb-false (tls_slot k) k.next_tls_slot z in after (tls_slot k + 1) (omega arith) (omega arith) (omega (arith, next_fits q))

    pub tls-new : TlsOk (set k.threads i v) (pick (ltb (tls_slot k) k.next_tls_slot) k.next_tls_slot (tls_slot k + 1))
    tls-new = next-is (ltb (tls_slot k) k.next_tls_slot) refl

-- ---- a thread that ends gives its slot back; one that stays as live as it was keeps it
pub tls-ended : (ts : List Thread) (next i : ℕ) (v : Thread) → i < length ts → is_dead v.status ≡ true → TlsOk ts next → TlsOk (set ts i v) next
unfolding count
tls-ended ts next i v l d h = record {
  most = h.most;
  below = all_held (λ s. s < next) ts i v (rw d tt) h.below;
  once = λ s. let none : count s (slot_of v) ≡ 0 = rw d in omega (arith, held-set s ts i v l, h.once s);
}

pub tls-same : (ts : List Thread) (next i : ℕ) (v : Thread) → i < length ts → is_dead v.status ≡ is_dead (thread_at ts i).status → v.tls ≡ (thread_at ts i).tls
    → TlsOk ts next → TlsOk (set ts i v) next
tls-same ts next i v l d e h = let f = held_same ts i v l d e in record { most = h.most; below = rw f h.below; once = λ s. rw f (h.once s) }
