-- "Threads at most 32, priorities at most 63, known statuses ..; at most the current thread Running, it never Dead; lists only in waiting threads".
-- Known statuses are asked by the canonical test of the block.
use Rattle.std.specs.Prelude.{◌≡◌, Bool, true, false, not, ◌≢◌, List, [], ◌∷◌, ℕ, zero, suc, ◌≤◌, ◌<◌, eqb, leb, ltb}
use Rattle.std.specs.Prelude.{Option, Some, None}
use Rattle.std.proofs.Common.{ap, arith}
use Rattle.laws.specs.Logic.{pick, ◌and◌}
use Rattle.laws.specs.Test.{Test, t-yes, t-no, t_never, t-eq, t-le, t-lt, t-and, t_as}
use Rattle.laws.specs.Numbers.{all_below}
use Rattle.types.specs.declared.thread.ThreadStatus.{ThreadStatus}
use Rattle.types.specs.declared.thread.ThreadStatus.TheVariants.{Dead, Running, Ready, Sleeping, WaitSync, WaitArbiter, Dormant}
use Rattle.types.specs.declared.thread.Thread.{Thread}
use Rattle.block.specs.Thread.{thread_words, words_list}
use Rattle.sound.specs.View.{ids, thread_at}

-- ---- all zero
abbrev pub Zeros : List ℕ → Type 0
Zeros [] = Unit {0}
Zeros (x ∷ xs) = (x ≡ 0) × Zeros xs

unfoldable pub zeros? : List ℕ → Bool
zeros? [] = true
zeros? (x ∷ xs) = eqb x 0 and zeros? xs

pub t_zeros : (l : List ℕ) → Test (zeros? l) (Zeros l)
unfolding zeros?
t_zeros [] = t-yes
t_zeros (x ∷ xs) = t-and (t-eq x 0) (t_zeros xs)

-- ---- a wait list: n object numbers, then zeros
abbrev pub Places : ℕ → List ℕ → Type 0
Places zero l = Zeros l
Places (suc n) [] = ⊥
Places (suc n) (x ∷ xs) = (0 < x) × ((x ≤ 128) × Places n xs)

unfoldable pub places? : ℕ → List ℕ → Bool
places? zero l = zeros? l
places? (suc n) [] = false
places? (suc n) (x ∷ xs) = ltb 0 x and (leb x 128 and places? n xs)

pub t-places : (n : ℕ) (l : List ℕ) → Test (places? n l) (Places n l)
unfolding places?
t-places zero l = t_zeros l
t-places (suc n) [] = t-no
t-places (suc n) (x ∷ xs) = t-and (t-lt 0 x) (t-and (t-le x 128) (t-places n xs))

-- ---- lists only in threads that wait on objects
abbrev pub Only : ThreadStatus → ℕ → Type 0
Only Dead n = n ≡ 0
Only Running n = n ≡ 0
Only Ready n = n ≡ 0
Only Sleeping n = n ≡ 0
Only WaitSync n = Unit {0}
Only WaitArbiter n = n ≡ 0
Only Dormant n = n ≡ 0

abbrev pub only? : ThreadStatus → ℕ → Bool
only? Dead n = eqb n 0
only? Running n = eqb n 0
only? Ready n = eqb n 0
only? Sleeping n = eqb n 0
only? WaitSync n = true
only? WaitArbiter n = eqb n 0
only? Dormant n = eqb n 0

-- ---- at most the current thread Running, it never Dead
abbrev pub is_current : Option ℕ → ℕ → Bool
is_current None i = false
is_current (Some t) i = eqb t i

pub t-is_current : (c : Option ℕ) (i : ℕ) → Test (is_current c i) (c ≡ Some i)
t-is_current None i = t_never (λ e. let z : ◌≡◌ {A = ℕ} 0 1 = cc in omega arith)
t-is_current (Some t) i = t_as (λ e. ap Some e) (λ e. cc) (t-eq t i)

abbrev pub RunOk : ThreadStatus → Option ℕ → ℕ → Type 0
RunOk Dead c i = c ≢ Some i
RunOk Running c i = c ≡ Some i
RunOk Ready c i = Unit {0}
RunOk Sleeping c i = Unit {0}
RunOk WaitSync c i = Unit {0}
RunOk WaitArbiter c i = Unit {0}
RunOk Dormant c i = Unit {0}

abbrev pub run? : ThreadStatus → Option ℕ → ℕ → Bool
run? Dead c i = not (is_current c i)
run? Running c i = is_current c i
run? Ready c i = true
run? Sleeping c i = true
run? WaitSync c i = true
run? WaitArbiter c i = true
run? Dormant c i = true

-- ---- a place in use
pub record ThreadOk (c : Option ℕ) (i : ℕ) (t : Thread) : Type 0 where
  pub priority : t.priority ≤ 63
  pub run : RunOk t.status c i
  pub list : Places t.wait_count (ids t.wait_objects)
  pub only : Only t.status t.wait_count

unfoldable pub thread? : Option ℕ → ℕ → Thread → Bool
thread? c i t = leb t.priority 63 and (run? t.status c i and (places? t.wait_count (ids t.wait_objects) and only? t.status t.wait_count))

-- ---- a place not in use is all zero
abbrev pub Blank : Thread → Type 0
Blank t = Zeros (words_list (thread_words t)) × Zeros (ids t.wait_objects)

unfoldable pub blank? : Thread → Bool
blank? t = zeros? (words_list (thread_words t)) and zeros? (ids t.wait_objects)

-- ---- every place: the first n are in use
unfoldable pub place? : ℕ → Option ℕ → ℕ → Thread → Bool
place? n c i t = pick (ltb i n) (thread? c i t) (blank? t)

pub record PlaceOk (n : ℕ) (c : Option ℕ) (i : ℕ) (t : Thread) : Type 0 where
  pub used : i < n → ThreadOk c i t
  pub unused : n ≤ i → Blank t

-- ---- the current thread exists
abbrev pub CurrentOk : Option ℕ → ℕ → Type 0
CurrentOk None n = Unit {0}
CurrentOk (Some t) n = t < n

abbrev pub current? : Option ℕ → ℕ → Bool
current? None n = true
current? (Some t) n = ltb t n

pub t-current : (c : Option ℕ) (n : ℕ) → Test (current? c n) (CurrentOk c n)
t-current None n = t-yes
t-current (Some t) n = t-lt t n

-- ---- the whole table
unfoldable pub threads? : ℕ → Option ℕ → List Thread → Bool
threads? n c ts = leb n 32 and (current? c n and all_below 32 (λ i. place? n c i (thread_at ts i)))

pub record ThreadsOk (n : ℕ) (c : Option ℕ) (ts : List Thread) : Type 0 where
  pub many : n ≤ 32
  pub current : CurrentOk c n
  pub each : (i : ℕ) → i < 32 → PlaceOk n c i (thread_at ts i)
