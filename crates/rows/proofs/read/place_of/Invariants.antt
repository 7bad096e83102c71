use Rattle.std.proofs.Common.{◌≡◌, ◌+◌, drop}
use Rattle.block.specs.Tables.{entries_in}
use Rattle.object.specs.Handles.{place_of}
use Rattle.rows.proofs.read.place_of.Given as goal

abbrev pub invariant-loop-i : goal.invariant-loop-i
invariant-loop-i l = l.i + place_of (drop l.i (entries_in l.b)) l.h.0 ≡ place_of (entries_in l.b) l.h.0
