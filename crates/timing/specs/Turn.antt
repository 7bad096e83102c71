-- A thread's turn in a pass: the threads before and after it leave its record, and its fate at its turn decides.
use Rattle.std.specs.Prelude.{◌≡◌, refl, Bool, true, false, ◌≢◌, ℕ, zero, suc, ◌+◌, ◌-◌, ◌≤◌, ◌<◌, length}
use Rattle.std.proofs.Math.Path.{ap}
use Rattle.std.proofs.Common.{sym, ◌∙◌, arith}
use Rattle.laws.specs.Logic.{false-true}
use Rattle.types.specs.declared.thread.ThreadStatus.TheVariants.{Ready}
use Rattle.types.specs.declared.thread.Thread.{Thread}
use Rattle.types.specs.declared.kernel.Kernel.{Kernel}
use Rattle.sound.specs.View.{thread_at}
use Rattle.soundness.specs.Threads.{thread-same, thread-other}
use Rattle.pass.specs.declared.Fate.{Fate}
use Rattle.pass.specs.declared.Fate.TheVariants.{Stays, Given, TimedOut, Slept}
use Rattle.pass.specs.declared.Waits.{Waits}
use Rattle.pass.specs.Timers.{fire_timers}
use Rattle.pass.specs.Waits.{fate, try_as, try_wait, try_waits}
use Rattle.pass.specs.Schedule.{tried}
use Rattle.passing.specs.Picks.{thread-f}
use Rattle.timing.specs.Wait.{Blocked, blocked_in}
use Rattle.demand.specs.Words.{turn}

-- ---- what becomes of a blocked thread
abbrev pub stays? : Fate → Bool
stays? Stays = true
stays? (Given i) = false
stays? TimedOut = false
stays? Slept = false

-- it is given what it waits for
abbrev pub is_given : Fate → Bool
is_given Stays = false
is_given (Given i) = true
is_given TimedOut = false
is_given Slept = false

-- ---- the tries of n threads, then of m more
pub tries_then : (tick n m t : ℕ) (x : Waits) → try_waits tick (n + m) t x ≡ try_waits tick m (t + n) (try_waits tick n t x)
unfolding try_waits
tries_then tick zero m t x =
    let a : zero + m ≡ m = omega arith in
    let b : t + zero ≡ t = omega arith in
    rw (a, b)
tries_then tick (suc n) m t x =
    let a : suc n + m ≡ suc (n + m) = omega arith in
    let b : t + suc n ≡ suc t + n = omega arith in
    rw (a, b) (tries_then tick n m (suc t) (try_wait tick x t))

-- ---- one try leaves every other thread
try_other_as : (f : Fate) (x : Waits) (t i : ℕ) → i ≢ t → thread_at (try_as f x t).threads i ≡ thread_at x.threads i
try_other_as Stays x t i n = refl
try_other_as (Given j) x t i n = thread-other x.threads t i _ n
try_other_as TimedOut x t i n = thread-other x.threads t i _ n
try_other_as Slept x t i n = thread-other x.threads t i _ n

pub try_other : (tick : ℕ) (x : Waits) (t i : ℕ) → i ≢ t → thread_at (try_wait tick x t).threads i ≡ thread_at x.threads i
unfolding try_wait
try_other tick x t i n = try_other_as (fate x.threads x.objects tick t) x t i n

pub tries_other : (tick n t : ℕ) (x : Waits) (i : ℕ) → (t ≤ i → i < t + n → ⊥) → thread_at (try_waits tick n t x).threads i ≡ thread_at x.threads i
unfolding try_waits
tries_other tick zero t x i h = refl
tries_other tick (suc n) t x i h =
    tries_other tick n (suc t) (try_wait tick x t) i (λ a b. h (omega arith) (omega arith)) ∙ try_other tick x t i (λ e. h (omega arith) (omega arith))

-- ---- no try changes a priority
try_priority_as : (f : Fate) (x : Waits) (t i : ℕ) → (thread_at (try_as f x t).threads i).priority ≡ (thread_at x.threads i).priority
try_priority_as Stays x t i = refl
try_priority_as (Given j) x t i = thread-f (λ (y : Thread). y.priority) x.threads t _ i refl
try_priority_as TimedOut x t i = thread-f (λ (y : Thread). y.priority) x.threads t _ i refl
try_priority_as Slept x t i = thread-f (λ (y : Thread). y.priority) x.threads t _ i refl

tries_priority : (tick n t : ℕ) (x : Waits) (i : ℕ) → (thread_at (try_waits tick n t x).threads i).priority ≡ (thread_at x.threads i).priority
unfolding try_waits try_wait
tries_priority tick zero t x i = refl
tries_priority tick (suc n) t x i = tries_priority tick n (suc t) (try_wait tick x t) i ∙ try_priority_as (fate x.threads x.objects tick t) x t i

pub tried-priority : (k : Kernel) (tick i : ℕ) → (thread_at (tried k tick).threads i).priority ≡ (thread_at k.threads i).priority
tried-priority k tick i = tries_priority tick 32 0 _ i

-- ---- the turn of thread w: timers fired, the threads before it tried
abbrev pub fate_at : Kernel → ℕ → ℕ → Fate
fate_at k tick w = fate (turn k tick w).threads (turn k tick w).objects tick w

pub turn-own : (k : Kernel) (tick w : ℕ) → thread_at (turn k tick w).threads w ≡ thread_at k.threads w
turn-own k tick w = tries_other tick w 0 _ w (λ a b. omega arith)

-- after all tries its record is what its own try made of it
pub tried-own : (k : Kernel) (tick w : ℕ) → w < 32 → thread_at (tried k tick).threads w ≡ thread_at (try_wait tick (turn k tick w) w).threads w
unfolding try_waits
tried-own k tick w l =
    let x : Waits = record { objects = fire_timers k.objects tick; threads = k.threads } in
    let e : 32 ≡ w + suc (31 - w) = omega arith in
    let z : 0 + w ≡ w = omega arith in
    ap (λ (y : Waits). thread_at y.threads w) (ap (λ (n : ℕ). try_waits tick n 0 x) e ∙ tries_then tick w (suc (31 - w)) 0 x ∙ ap (λ (n : ℕ). try_waits tick (suc (31 - w)) n (turn k tick w)) z)
    ∙ tries_other tick (31 - w) (suc w) (try_wait tick (turn k tick w) w) w (λ a b. omega arith)

-- ---- its own try: a thread that stays is left, another is Ready
own-stays : (f : Fate) (x : Waits) (t : ℕ) → stays? f ≡ true → thread_at (try_as f x t).threads t ≡ thread_at x.threads t
own-stays Stays x t e = refl
own-stays (Given i) x t e = false-true e
own-stays TimedOut x t e = false-true e
own-stays Slept x t e = false-true e

own-ready : (f : Fate) (x : Waits) (t : ℕ) → t < length x.threads → stays? f ≡ false → (thread_at (try_as f x t).threads t).status ≡ Ready
own-ready Stays x t l e = false-true (sym e)
own-ready (Given i) x t l e = ap (λ (y : Thread). y.status) (thread-same x.threads t _ l)
own-ready TimedOut x t l e = ap (λ (y : Thread). y.status) (thread-same x.threads t _ l)
own-ready Slept x t l e = ap (λ (y : Thread). y.status) (thread-same x.threads t _ l)

module _ (k : Kernel) (tick w : ℕ) (l : w < 32) where
  pub tried-stays : stays? (fate_at k tick w) ≡ true → thread_at (tried k tick).threads w ≡ thread_at k.threads w
  unfolding try_wait
  tried-stays e = tried-own k tick w l ∙ own-stays (fate_at k tick w) (turn k tick w) w e ∙ turn-own k tick w

  pub tried-ready : Blocked k.threads w → stays? (fate_at k tick w) ≡ false → (thread_at (tried k tick).threads w).status ≡ Ready
  unfolding try_wait
  tried-ready b e =
      let b' : Blocked (turn k tick w).threads w = rw (turn-own k tick w) b in
      ap (λ (y : Thread). y.status) (tried-own k tick w l) ∙ own-ready (fate_at k tick w) (turn k tick w) w (blocked_in (turn k tick w).threads w b') e
