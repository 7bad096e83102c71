-- "TLS slots of live threads distinct, free ones the rest below the next, the next at most 32". Nothing is stored for the free ones.
use Rattle.std.specs.Prelude.{◌≡◌, refl, Bool, true, false, List, [], ◌∷◌, ℕ, suc, ◌+◌, ◌≤◌, ◌<◌, leb, ltb, length, get_or, drop}
use Rattle.std.proofs.Common.{inl, inr, add-one, arith, drop_of_length-le, drop-cons}
use Rattle.laws.specs.Logic.{◌and◌, lt-cases}
use Rattle.laws.specs.Test.{Test, t-yes, t-le, t-lt, t-and, t_as}
use Rattle.laws.specs.Numbers.{all_below, t-all_below}
use Rattle.laws.specs.All.{All}
use Rattle.laws.specs.Count.{count, ind-other}
use Rattle.types.specs.declared.thread.Thread.{Thread}
use Rattle.types.specs.Thread.{is_dead}
use Rattle.sound.specs.View.{no_thread}

-- the slots that live threads hold; a place not in use is Dead
abbrev pub held_if : Bool → ℕ → List ℕ → List ℕ
held_if true s l = l
held_if false s l = s ∷ l

unfoldable pub held : List Thread → List ℕ
held [] = []
held (t ∷ ts) = held_if (is_dead t.status) t.tls (held ts)

-- no more than there are threads
pub if_length : (b : Bool) (s : ℕ) (l : List ℕ) → length (held_if b s l) ≤ suc (length l)
if_length true s l = omega arith
if_length false s l = omega arith

pub held-length : (ts : List Thread) → length (held ts) ≤ length ts
unfolding held
held-length [] = omega arith
held-length (t ∷ ts) = omega (arith, if_length (is_dead t.status) t.tls (held ts), held-length ts)

-- one turn of a loop over the threads
pub held-step : (ts : List Thread) (i : ℕ) → i < length ts
    → held (drop i ts) ≡ held_if (is_dead (get_or ts i no_thread).status) (get_or ts i no_thread).tls (held (drop (i + 1) ts))
unfolding held
held-step ts i h = rw (drop-cons ts i no_thread h, add-one)

pub held-end : (ts : List Thread) (i : ℕ) → length ts ≤ i → held (drop i ts) ≡ []
unfolding held
held-end ts i h = rw (drop_of_length-le ts h)

-- a list of numbers below n has no number from n on
pub far : (n : ℕ) (l : List ℕ) → All (λ x. x < n) l → (s : ℕ) → n ≤ s → count s l ≡ 0
unfolding count
far n [] a s h = refl
far n (x ∷ xs) a s h = omega (arith, ind-other x s (omega (arith, a.0)), far n xs a.1 s h)

unfoldable pub below? : ℕ → List ℕ → Bool
below? n [] = true
below? n (x ∷ xs) = ltb x n and below? n xs

t-below : (n : ℕ) (l : List ℕ) → Test (below? n l) (All (λ x. x < n) l)
unfolding below?
t-below n [] = t-yes
t-below n (x ∷ xs) = t-and (t-lt x n) (t-below n xs)

unfoldable pub tls? : List Thread → ℕ → Bool
tls? ts next = leb next 32 and (below? next (held ts) and all_below 32 (λ s. leb (count s (held ts)) 1))

pub record TlsOk (ts : List Thread) (next : ℕ) : Type 0 where
  pub most : next ≤ 32
  pub below : All (λ s. s < next) (held ts)
  pub once : (s : ℕ) → count s (held ts) ≤ 1

pub t-tls : (ts : List Thread) (next : ℕ) → Test (tls? ts next) (TlsOk ts next)
unfolding tls?
t-tls ts next =
    t_as
    (λ h. record {
      most = h.0;
      below = h.1.0;
      once = λ s. elim (lt-cases s 32) [ inl l ↦ h.1.1 s l | inr l ↦ omega (arith, far next (held ts) h.1.0 s (omega (arith, h.0))) ];
    })
    (λ h. (h.most, (h.below, λ s l. h.once s)))
    (t-and (t-le next 32) (t-and (t-below next (held ts)) (t-all_below 32 (λ s. t-le (count s (held ts)) 1))))
