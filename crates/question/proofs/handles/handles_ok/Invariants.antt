use mathlib.Core.Path.{◌≡◌}
use Prim.Native.Nat.{ℕ, ◌-◌, ◌≤◌}
use lib.ListN.{length, get_or, drop}
use Rattle.laws.specs.Tally.{tally}
use Rattle.block.specs.Tables.{entries_in}
use Rattle.tally.specs.Lists.{handle_names}
use Rattle.sound.specs.Handles.{rising?}
use Rattle.question.proofs.handles.handles_ok.Given as goal

abbrev pub invariant-loop-i : goal.invariant-loop-i
invariant-loop-i l = record {
  handles : rising? (l.count - l.i) l.low (drop l.i (entries_in l.b)) l.next.0 ≡ rising? l.count 0x10000 (entries_in l.b) l.next.0;
  names : tally 129 l.c (handle_names (drop l.i (entries_in l.b))) ≡ tally 129 l.initial.c (handle_names (entries_in l.b));
  made : length l.c ≡ 129;
  low_counts : (j : ℕ) → get_or l.c j 0 ≤ l.i;
}
