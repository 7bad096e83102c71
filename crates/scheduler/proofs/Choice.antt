-- The choice from its parts. Assumes nothing.
use Rattle.std.specs.Prelude.{◌≡◌, Bool, not, List, ℕ, Option}
use Rattle.laws.specs.Logic.{pick, ◌and◌}
use Rattle.types.specs.declared.thread.Thread.{Thread}
use Rattle.types.specs.declared.object.ObjectStore.{ObjectStore}
use Rattle.types.specs.declared.kernel.Kernel.{Kernel}
use Rattle.pass.specs.declared.Passed.{Passed}
use Rattle.pass.specs.Pick.{pick_next}
use Rattle.pass.specs.Schedule.{mark_waited, begin_run, starving, flipped, chosen, leave_core, is_none, scheduled, choose}
use Rattle.scheduler.specs.Switch.{stays, take_core_if, unless, switch_is}

module _ (k : Kernel) (s : ObjectStore) (ts : List Thread) (tick : ℕ) where
  abbrev c : Option ℕ
  c = k.current_thread

  abbrev passed : List Thread → Option ℕ → Bool → Bool → Passed
  passed l next starve same = record {
    kernel = scheduled k s l next (flipped starve k.relief);
    saved = unless same c;
    restored = unless same next;
    switched = not same and not (is_none c and is_none next);
  }

  pub choose_as : (l1 l2 l3 l5 : List Thread) (first next : Option ℕ) (starve same : Bool) → l1 ≡ mark_waited ts c → first ≡ pick_next l1 c
      → l2 ≡ begin_run l1 first tick → starve ≡ starving l2 first tick → next ≡ chosen l2 first starve k.relief → l3 ≡ begin_run l2 next tick
      → same ≡ stays c next → l5 ≡ take_core_if (pick same l3 (leave_core l3 c)) next
      → passed l5 next starve same ≡ choose k (record { objects = s; threads = ts }) tick
  choose_as l1 l2 l3 l5 first next starve same e1 ef e2 es en e3 em e5 =
      rw (← e1, ← ef, ← e2, ← es, ← en, ← e3) (rw (e5, em) (switch_is k s l3 (flipped starve k.relief) c next))
