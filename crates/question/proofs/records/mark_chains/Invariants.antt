use mathlib.Core.Path.{◌≡◌}
use mathlib.Core.Bool.{true}
use mathlib.Core.List.{List}
use Prim.Native.Nat.{ℕ}
use lib.ListN.{drop}
use Rattle.laws.specs.Tally.{tally_all}
use Rattle.question.specs.LinearObjects.{lone_all?, chains_by?, walk_all}
use Rattle.question.proofs.records.mark_chains.Given as goal

abbrev pub invariant-loop-i : goal.invariant-loop-i
invariant-loop-i l = record {
  lone : lone_all? l.r.nexts l.m (drop l.i l.heads) ≡ lone_all? l.r.nexts l.initial.m l.heads;
  marks : tally_all 129 l.m (walk_all l.r.nexts (drop l.i l.heads)) ≡ tally_all 129 l.initial.m (walk_all l.r.nexts l.heads);
  pairs : l.apart ≡ true → (ad : List ℕ) → chains_by? l.r.nexts l.r.threads ad l.n l.heads l.i ≡ true;
}
