use mathlib.Core.Path.{◌≡◌}
use lib.ListN.{length, take}
use Rattle.block.specs.Tables.{threads_in}
use Rattle.question.specs.LinearObjects.{dead_marks}
use Rattle.question.proofs.objects.dead_marks.Given as goal

abbrev pub invariant-loop-i : goal.invariant-loop-i
invariant-loop-i l = record { made : length l.r ≡ 32; marks : take l.i l.r ≡ dead_marks (take l.i (threads_in l.b)) }
