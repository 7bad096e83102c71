-- The switch as it is computed: each part of what a pass tells on its own.
use Rattle.std.specs.Prelude.{◌≡◌, refl, Bool, true, false, not, List, eqb, Option, Some, None, ℕ}
use Rattle.laws.specs.Logic.{pick, ◌and◌}
use Rattle.types.specs.declared.thread.Thread.{Thread}
use Rattle.types.specs.declared.object.ObjectStore.{ObjectStore}
use Rattle.types.specs.declared.kernel.Kernel.{Kernel}
use Rattle.pass.specs.declared.Passed.{Passed}
use Rattle.pass.specs.Pick.{is_runnable}
use Rattle.pass.specs.Schedule.{with_run, leave_core, take_core, is_none, scheduled, switch_as}

-- a thread that cannot run has waited
abbrev pub marked : Thread → Thread
marked t = pick (is_runnable t.status) t (with_run t true t.running_since.0)

-- there is a current thread, and it stays
abbrev pub stays : Option ℕ → Option ℕ → Bool
stays None n = false
stays (Some c) None = false
stays (Some c) (Some n) = eqb c n

abbrev pub take_core_if : List Thread → Option ℕ → List Thread
take_core_if ts None = ts
take_core_if ts (Some n) = take_core ts n

abbrev pub switched_threads : Bool → List Thread → Option ℕ → Option ℕ → List Thread
switched_threads same ts c n = take_core_if (pick same ts (leave_core ts c)) n

abbrev pub unless : Bool → Option ℕ → Option ℕ
unless same t = pick same None t

abbrev pub switches : Option ℕ → Option ℕ → Bool
switches c n = not (stays c n) and not (is_none c and is_none n)

abbrev pub parts : Kernel → ObjectStore → List Thread → Bool → Option ℕ → Option ℕ → Passed
parts k s ts relief c n = record {
  kernel = scheduled k s (switched_threads (stays c n) ts c n) n relief;
  saved = unless (stays c n) c;
  restored = unless (stays c n) n;
  switched = switches c n;
}

pub switch_is : (k : Kernel) (s : ObjectStore) (ts : List Thread) (relief : Bool) (c n : Option ℕ)
    → parts k s ts relief c n ≡ switch_as k s ts relief c n
unfolding ◌and◌
switch_is k s ts relief None None = refl
switch_is k s ts relief None (Some n) = refl
switch_is k s ts relief (Some c) None = refl
switch_is k s ts relief (Some c) (Some n) = go (eqb c n)
  where
    go : (b : Bool) → ◌≡◌ {A = Passed} (record {
      kernel = scheduled k s (switched_threads b ts (Some c) (Some n)) (Some n) relief;
      saved = unless b (Some c);
      restored = unless b (Some n);
      switched = not b and not (false and false);
    })
        (pick b
        (record {
          kernel = scheduled k s (take_core ts n) (Some n) relief;
          saved = None;
          restored = None;
          switched = false;
        })
        (record {
          kernel = scheduled k s (take_core (leave_core ts (Some c)) n) (Some n) relief;
          saved = Some c;
          restored = Some n;
          switched = true;
        }))
    go true = refl
    go false = refl
