use mathlib.Core.Path.{◌≡◌}
use lib.ListN.{drop}
use Rattle.block.specs.Tables.{kept_in}
use Rattle.sound.specs.View.{ids}
use Rattle.sound.specs.Objects.{up_to128}
use Rattle.question.proofs.objects.kept_numbers_ok.Given as goal

abbrev pub invariant-loop-i : goal.invariant-loop-i
invariant-loop-i l = up_to128 (ids (drop l.i (kept_in l.b))) ≡ up_to128 (ids (kept_in l.b))
