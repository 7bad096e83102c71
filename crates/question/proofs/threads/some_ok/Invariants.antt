use mathlib.Core.Path.{◌≡◌}
use Prim.Native.Nat.{◌-◌, ◌≤◌}
use lib.Dec.{eqb}
use lib.ListN.{drop}
use Rattle.laws.specs.Logic.{◌and◌}
use Rattle.sound.specs.View.{ids}
use Rattle.sound.specs.Threads.{places?}
use Rattle.question.proofs.threads.some_ok.Given as goal

abbrev pub invariant-loop-i : goal.invariant-loop-i
invariant-loop-i l = record {
  few : l.bad ≤ l.i;
  places : eqb l.bad 0 and places? (l.n - l.i) (ids (drop l.i l.l)) ≡ places? l.n (ids l.l);
}
