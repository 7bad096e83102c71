use mathlib.Core.Path.{◌≡◌}
use Prim.Native.Nat.{◌-◌}
use Rattle.thread.specs.Marks.{free_marked}
use Rattle.thread.proofs.places.free_slot.Given as goal

abbrev pub invariant-loop-i : goal.invariant-loop-i
invariant-loop-i l = free_marked l.m (l.n - l.i) l.i ≡ free_marked l.m l.n 0
