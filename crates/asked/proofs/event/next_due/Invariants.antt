use mathlib.Core.Path.{◌≡◌}
use Prim.Native.Nat.{◌+◌}
use lib.ListN.{drop}
use Rattle.block.specs.Block.{dec_block}
use Rattle.kernel.specs.Marks.{due_marked}
use Rattle.asked.proofs.event.next_due.Given as goal

abbrev pub invariant-loop-i : goal.invariant-loop-i
invariant-loop-i l = due_marked l.m l.best (l.i + 1) (drop l.i (dec_block l.b).objects.slots) ≡ due_marked l.m l.initial.best 1 (dec_block l.b).objects.slots
