-- Who is picked can run. A number without a thread reads as Dead, so nothing is asked of numbers.
use Rattle.std.specs.Prelude.{◌≡◌, refl, Bool, true, false, not, List, [], ◌∷◌, leb, ltb, set, Option, Some, None}
use Rattle.std.proofs.Common.{◌∙◌}
use Prim.Native.Nat.{ℕ, zero, suc}
use Rattle.laws.specs.Logic.{pick, ◌and◌, and-true}
use Rattle.types.specs.declared.thread.ThreadStatus.{ThreadStatus}
use Rattle.types.specs.declared.thread.ThreadStatus.TheVariants.{Dead, Running, Ready, Sleeping, WaitSync, WaitArbiter, Dormant}
use Rattle.types.specs.declared.thread.Thread.{Thread}
use Rattle.sound.specs.View.{thread_at}
use Rattle.soundness.specs.Slots.{pick-both}
use Rattle.pass.specs.Pick.{is_runnable, is_running, best, runs_at, first_from, or_else, start_after, cyclic, keeps_core, pick_next, stands, more_urgent, other_from, pick_other}
use Rattle.pass.specs.Schedule.{stand_in, chosen}

-- ---- a number that meets a test, or none
abbrev pub Meets : (ℕ → Bool) → Option ℕ → Type 0
Meets f None = Unit {0}
Meets f (Some i) = f i ≡ true

pub meets_as : (f g : ℕ → Bool) → ((i : ℕ) → f i ≡ true → g i ≡ true) → (o : Option ℕ) → Meets f o → Meets g o
meets_as f g e None h = tt
meets_as f g e (Some i) h = e i h

meets_else : (f : ℕ → Bool) (a b : Option ℕ) → Meets f a → Meets f b → Meets f (or_else a b)
meets_else f None b p q = q
meets_else f (Some i) b p q = p

meets_if : (f : ℕ → Bool) (b : Bool) (x y : Option ℕ) → (b ≡ true → Meets f x) → Meets f y → Meets f (pick b x y)
meets_if f true x y p q = p refl
meets_if f false x y p q = q

pub meets_first : (f : ℕ → Bool) (n i : ℕ) → Meets f (first_from f n i)
unfolding first_from
meets_first f zero i = tt
meets_first f (suc n) i = meets_if f (f i) (Some i) (first_from f n (suc i)) (λ e. e) (meets_first f n (suc i))

-- ---- a thread that can run, or none
abbrev pub can_run : List Thread → ℕ → Bool
can_run ts i = is_runnable (thread_at ts i).status

abbrev pub Runs : List Thread → Option ℕ → Type 0
Runs ts o = Meets (can_run ts) o

pub running_runs : (s : ThreadStatus) → is_running s ≡ true → is_runnable s ≡ true
running_runs Dead e = e
running_runs Running e = e
running_runs Ready e = refl
running_runs Sleeping e = e
running_runs WaitSync e = e
running_runs WaitArbiter e = e
running_runs Dormant e = e

module _ (ts : List Thread) where
  -- ---- `pick_next`
  cyclic-runs : (p start : ℕ) → Runs ts (cyclic ts p start)
  cyclic-runs p start =
      meets_as (runs_at ts p) (can_run ts) (λ i e. (and-true _ _ e).0) (cyclic ts p start)
      (meets_else (runs_at ts p) (first_from (runs_at ts p) 32 start) (first_from (runs_at ts p) 32 0) (meets_first (runs_at ts p) 32 start) (meets_first (runs_at ts p) 32 0))

  keeps-runs : (c : Option ℕ) (p : ℕ) → keeps_core ts c p ≡ true → Runs ts c
  keeps-runs None p e = tt
  keeps-runs (Some c) p e = running_runs (thread_at ts c).status (and-true _ _ e).0

  pub pick_next-runs : (c : Option ℕ) → Runs ts (pick_next ts c)
  unfolding pick_next
  pick_next-runs c =
      pick-both (Runs ts) (leb 64 (best ts)) None _ tt
      (meets_if (can_run ts) (keeps_core ts c (best ts)) c (cyclic ts (best ts) (start_after c)) (keeps-runs c (best ts)) (cyclic-runs (best ts) (start_after c)))

  -- ---- `pick_other`
  urgent-runs : (b : Option ℕ) (i : ℕ) → can_run ts i ≡ true → Runs ts b → Runs ts (more_urgent ts b i)
  urgent-runs None i e h = e
  urgent-runs (Some b) i e h = pick-both (Runs ts) (ltb (thread_at ts i).priority (thread_at ts b).priority) (Some i)
      (Some b) e h

  other-runs : (c p : ℕ) (b : Option ℕ) (n i : ℕ) → Runs ts b → Runs ts (other_from ts c p b n i)
  unfolding other_from
  other-runs c p b zero i h = h
  other-runs c p b (suc n) i h =
      other-runs c p (pick (stands ts c p i) (more_urgent ts b i) b) n (suc i)
      (meets_if (can_run ts) (stands ts c p i) (more_urgent ts b i) b (λ e. urgent-runs b i (and-true _ _ (and-true _ _ e).0).1 h) h)

  pub pick_other-runs : (c p : ℕ) → Runs ts (pick_other ts c p)
  unfolding pick_other
  pick_other-runs c p = other-runs c p None 32 0 tt

  -- ---- the one chosen, if the first pick can run
  pub chosen-runs : (first : Option ℕ) (starve relief : Bool) → Runs ts first → Runs ts (chosen ts first starve relief)
  chosen-runs first starve relief h = pick-both (Runs ts) (starve and not relief) (stand_in ts first) first (stand first h) h
    where
      stand : (first : Option ℕ) → Runs ts first → Runs ts (stand_in ts first)
      stand None h = tt
      stand (Some c) h = meets_else (can_run ts) (pick_other ts c (thread_at ts c).priority) (Some c)
          (pick_other-runs c (thread_at ts c).priority) h

-- ---- what f reads of a thread is left everywhere, if the change leaves it
pub thread-f : {A : Type 0} (f : Thread → A) (ts : List Thread) (i : ℕ) (v : Thread) (j : ℕ) → f v ≡ f (thread_at ts i) → f (thread_at (set ts i v) j) ≡ f (thread_at ts j)
thread-f f [] i v j e = refl
thread-f f (t ∷ ts) zero v zero e = e
thread-f f (t ∷ ts) zero v (suc j) e = refl
thread-f f (t ∷ ts) (suc i) v zero e = refl
thread-f f (t ∷ ts) (suc i) v (suc j) e = thread-f f ts i v j e

-- who could run still can, in a table that says so of the same threads
pub runs_same : (ts ts' : List Thread) → ((i : ℕ) → can_run ts' i ≡ can_run ts i) → (o : Option ℕ) → Runs ts o
    → Runs ts' o
runs_same ts ts' e o h = meets_as (can_run ts) (can_run ts') (λ i q. e i ∙ q) o h
