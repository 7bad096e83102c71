use Rattle.std.specs.Prelude.{None, IfSome, ◌<◌}
use mathlib.Core.Path.{◌≡◌}
use Prim.Native.Nat.{◌-◌}
use Rattle.pass.specs.Pick.{other_from}
use Rattle.pick.proofs.pick_other.Given as goal

abbrev pub invariant-loop-i : goal.invariant-loop-i
invariant-loop-i l = record { place : IfSome l.best (λ b. b < 32); rest : other_from l.ts l.chosen l.p l.best (32 - l.i) l.i ≡ other_from l.ts l.chosen l.p None 32 0 }
