use Prim.Native.Nat.{ℕ, ◌*◌}
use mathlib.Core.Path.{◌≡◌}
use mathlib.Core.List.{List}
use lib.ListN.{take, drop, replicate}
use Rattle.laws.specs.Logic.{◌and◌}
use Rattle.codec.specs.Bytes.{same}
use Rattle.codec.proofs.zero_words.Given as goal

abbrev pub invariant-loop-i : goal.invariant-loop-i
invariant-loop-i l =
    let a = take (l.n * 4) (drop l.at l.s) in
    let z : List ℕ = replicate (l.n * 4) 0 in
    same a z ≡ l.alike and same (drop (l.i * 4) a) (drop (l.i * 4) z)
