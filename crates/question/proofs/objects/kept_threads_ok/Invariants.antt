use mathlib.Core.Path.{◌≡◌}
use mathlib.Core.Bool.{true}
use Rattle.block.specs.Tables.{kept_in}
use Rattle.sound.specs.View.{ids}
use Rattle.question.specs.LinearObjects.{kept_threads?}
use Rattle.question.proofs.objects.kept_threads_ok.Given as goal

abbrev pub invariant-loop-t : goal.invariant-loop-t
invariant-loop-t l = kept_threads? l.s.kinds l.s.named (ids (kept_in l.b)) l.t ≡ true
