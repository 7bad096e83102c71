use mathlib.Core.Path.{◌≡◌}
use mathlib.Core.List.{◌++◌}
use Prim.Native.Nat.{◌+◌, ◌-◌}
use lib.ListN.{length, take}
use Rattle.kernel.specs.Fresh.{in_row, free_slot}
use Rattle.kernel.proofs.fresh.free_slots.Given as goal

abbrev pub invariant-loop-i : goal.invariant-loop-i
invariant-loop-i l = record { long : length l.l ≡ 128; row : take l.i l.l ++ in_row free_slot (128 - l.i) (l.i + 2) ≡ in_row free_slot 128 2 }
