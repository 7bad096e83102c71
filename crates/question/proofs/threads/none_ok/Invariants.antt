use mathlib.Core.Path.{◌≡◌}
use Prim.Native.Nat.{◌-◌}
use lib.ListN.{drop}
use Rattle.sound.specs.View.{ids}
use Rattle.sound.specs.Threads.{places?}
use Rattle.question.proofs.threads.none_ok.Given as goal

abbrev pub invariant-loop-o : goal.invariant-loop-o
invariant-loop-o l = places? (0 - l.o-index) (ids (drop l.o-index l.o-items)) ≡ places? 0 (ids l.fn.l)
