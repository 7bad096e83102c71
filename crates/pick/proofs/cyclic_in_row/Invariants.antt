use mathlib.Core.Path.{◌≡◌}
use Prim.Native.Nat.{◌-◌}
use lib.ListN.{length}
use Rattle.pass.specs.Pick.{runs_at, cyclic}
use Rattle.pick.proofs.Turns.{turns}
use Rattle.pick.proofs.cyclic_in_row.Given as goal

abbrev pub invariant-loop-k : goal.invariant-loop-k
invariant-loop-k l = turns (runs_at l.row l.p) (length l.row) l.start (length l.row - l.k) l.k ≡ cyclic l.row l.p l.start
