use mathlib.Core.Path.{◌≡◌}
use Prim.Native.Nat.{◌≤◌}
use lib.Dec.{eqb}
use Rattle.question.specs.Linear.{slots?}
use Rattle.question.proofs.objects.slots_ok.Given as goal

abbrev pub invariant-loop-i : goal.invariant-loop-i
invariant-loop-i l = record {
  few : l.bad ≤ l.i;
  slots : eqb l.bad 0 ≡ slots? l.s.kinds l.s.refs l.c l.m l.i;
}
