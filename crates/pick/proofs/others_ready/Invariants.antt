use mathlib.Core.Path.{◌≡◌}
use lib.ListN.{drop}
use Rattle.pass.specs.Pick.{others_from}
use Rattle.pick.proofs.others_ready.Given as goal

abbrev pub invariant-loop-i : goal.invariant-loop-i
invariant-loop-i l = others_from l.c l.i (drop l.i l.ts) ≡ others_from l.c 0 l.ts
