use mathlib.Core.Path.{◌≡◌}
use mathlib.Core.Bool.{true}
use Prim.Native.Nat.{◌-◌}
use Rattle.question.specs.LinearObjects.{once_all?}
use Rattle.question.proofs.records.once_ok.Given as goal

abbrev pub invariant-loop-i : goal.invariant-loop-i
invariant-loop-i l = once_all? l.m (l.i - 1) ≡ true
