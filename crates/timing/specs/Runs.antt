-- Who runs after a pass: the only most urgent thread, unless relief turns on; then it runs at the next pass at which it is so.
use Rattle.std.specs.Prelude.{◌≡◌, refl, Bool, true, false, not, List, ◌⊎◌, ℕ, ◌≤◌, ◌<◌, eqb, Option, Some, None}
use Rattle.std.proofs.Math.Path.{ap}
use Rattle.std.proofs.Common.{sym, ◌∙◌, inl, inr, arith}
use Rattle.laws.specs.Logic.{◌and◌, pick_no, and-false, false-true}
use Rattle.types.specs.declared.thread.Thread.{Thread}
use Rattle.types.specs.declared.object.ObjectStore.{ObjectStore}
use Rattle.types.specs.declared.kernel.Kernel.{Kernel}
use Rattle.sound.specs.View.{thread_at}
use Rattle.sound.specs.Objects.{Live}
use Rattle.soundness.specs.Slots.{pick-both}
use Rattle.soundness.specs.Whole.{Parts}
use Rattle.pass.specs.declared.Passed.{Passed}
use Rattle.pass.specs.Pick.{pick_next}
use Rattle.pass.specs.Schedule.{mark_waited, begin_run, starving, flipped, chosen, switch_as, choose_from, tried, schedule}
use Rattle.passing.specs.Threads.{live-place, live-ok}
use Rattle.timing.specs.Turn.{tried-priority}
use Rattle.timing.specs.Rest.{rest-runs, rest-priority, mark_rest}
use Rattle.demand.specs.Words.{Lowest}
use Rattle.timing.specs.Lowest.{lowest_as, lowest-picked}
use Rattle.timing.specs.Pass.{pass-runs}
use Rattle.timing.specs.Alive.{tried-live}

-- ---- what a switch leaves
switch_current : (k : Kernel) (s : ObjectStore) (ts : List Thread) (relief : Bool) (c next : Option ℕ)
    → (switch_as k s ts relief c next).kernel.current_thread ≡ next
switch_current k s ts relief None None = refl
switch_current k s ts relief (Some c) None = refl
switch_current k s ts relief None (Some n) = refl
switch_current k s ts relief (Some c) (Some n) = pick-both (λ (x : Passed). x.kernel.current_thread ≡ Some n)
    (eqb c n) _ _ refl refl

switch_relief : (k : Kernel) (s : ObjectStore) (ts : List Thread) (relief : Bool) (c next : Option ℕ)
    → (switch_as k s ts relief c next).kernel.relief ≡ relief
switch_relief k s ts relief None None = refl
switch_relief k s ts relief (Some c) None = refl
switch_relief k s ts relief None (Some n) = refl
switch_relief k s ts relief (Some c) (Some n) = pick-both (λ (x : Passed). x.kernel.relief ≡ relief)
    (eqb c n) _ _ refl refl

-- ---- the thread w is the only most urgent one at a pass
pub record Urgent (k : Kernel) (tick w : ℕ) : Type 0 where
  pub lowest : Lowest (tried k tick).threads (tried k tick).threads w
  pub place : w < 32
  pub small : (thread_at k.threads w).priority ≤ 63

-- whether it starves then
abbrev pub starves_at : Kernel → ℕ → ℕ → Bool
starves_at k tick w = starving (begin_run (mark_waited (tried k tick).threads k.current_thread) (Some w) tick)
    (Some w) tick

-- whether the pass turns relief on, so that another thread stands in
abbrev pub relieves : Kernel → ℕ → ℕ → Bool
relieves k tick w = starves_at k tick w and not k.relief

turns-on : (starve relief : Bool) → starve and not relief ≡ true → flipped starve relief ≡ true
unfolding ◌and◌
turns-on true true e = e
turns-on true false e = refl
turns-on false relief e = false-true e

module _ (k : Kernel) (tick w : ℕ) (u : Urgent k tick w) where
  abbrev marked : List Thread
  marked = mark_waited (tried k tick).threads k.current_thread

  marked-lowest : Lowest marked marked w
  marked-lowest =
      let ts : List Thread = (tried k tick).threads in
      let e = mark_rest ts k.current_thread in
      lowest_as ts ts marked w (λ i. rest-runs (thread_at ts i) (thread_at marked i) (e i)) (λ i. rest-priority (thread_at ts i) (thread_at marked i) (e i)) u.lowest

  picked : pick_next marked k.current_thread ≡ Some w
  picked =
      let ts : List Thread = (tried k tick).threads in
      let same : (thread_at marked w).priority ≡ (thread_at k.threads w).priority = rest-priority (thread_at ts w) (thread_at marked w) (mark_rest ts k.current_thread w) ∙ tried-priority k tick w in
      lowest-picked marked w u.place (omega (arith, same, u.small)) marked-lowest k.current_thread

  pass-is : schedule k tick ≡ choose_from k (tried k tick).objects marked (Some w) tick
  unfolding schedule
  pass-is = ap (λ (o : Option ℕ). choose_from k (tried k tick).objects marked o tick) picked

  -- each starving pass flips the flag
  pub relief-after : (schedule k tick).kernel.relief ≡ flipped (starves_at k tick w) k.relief
  relief-after = ap (λ (x : Passed). x.kernel.relief) pass-is ∙ switch_relief k (tried k tick).objects _ _ k.current_thread _

  current-is : (schedule k tick).kernel.current_thread ≡ chosen (begin_run marked (Some w) tick) (Some w)
      (starves_at k tick w) k.relief
  current-is = ap (λ (x : Passed). x.kernel.current_thread) pass-is ∙ switch_current k (tried k tick).objects _ _ k.current_thread _

  pub runs_now : relieves k tick w ≡ false → (schedule k tick).kernel.current_thread ≡ Some w
  runs_now e = current-is ∙ pick_no (relieves k tick w) _ (Some w) e

  -- with the flag up it runs
  pub runs-relieved : k.relief ≡ true → (schedule k tick).kernel.current_thread ≡ Some w
  runs-relieved e = runs_now (ap (λ (q : Bool). starves_at k tick w and not q) e ∙ and-false (starves_at k tick w))

  -- and if it does not, the flag is up after the pass
  pub relieved-after : relieves k tick w ≡ true → (schedule k tick).kernel.relief ≡ true
  relieved-after e = relief-after ∙ turns-on (starves_at k tick w) k.relief e

-- ---- of two passes at which it is the only most urgent thread, and between which the flag is left, one runs it
pub runs_in_two : (k k' : Kernel) (tick tick' w : ℕ) → Urgent k tick w → Urgent k' tick' w → k'.relief ≡ (schedule k tick).kernel.relief
    → ((schedule k tick).kernel.current_thread ≡ Some w) ⊎ ((schedule k' tick').kernel.current_thread ≡ Some w)
runs_in_two k k' tick tick' w u u' r = go (relieves k tick w) refl
  where
    go : (q : Bool) → relieves k tick w ≡ q → ((schedule k tick).kernel.current_thread ≡ Some w)
        ⊎ ((schedule k' tick').kernel.current_thread ≡ Some w)
    go true e = inr (runs-relieved k' tick' w u' (r ∙ relieved-after k tick w u e))
    go false e = inl (runs_now k tick w u e)

-- ---- the same read from the states before and after the pass: a choice changes neither who can run nor a priority
pub urgent-after : (k : Kernel) (tick w : ℕ) → Parts k → Lowest k.threads (schedule k tick).kernel.threads w → Urgent k tick w
urgent-after k tick w p h =
    let live : Live k.threads w = tried-live k tick w (sym (pass-runs k tick w) ∙ h.can) in
    record {
      lowest = lowest_as k.threads (schedule k tick).kernel.threads (tried k tick).threads w (λ i. sym (pass-runs k tick i)) (λ i. tried-priority k tick i) h;
      place = live-place k p w live;
      small = (live-ok k p w live).priority;
    }
