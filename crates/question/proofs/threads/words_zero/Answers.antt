use Rattle.std.proofs.Common.{arith}
use Rattle.std.proofs.lemmas.Bool.Decides.{nat_tests}
use Rattle.std.proofs.lemmas.Grind.{common_steps}
use Rattle.laws.specs.Logic.{◌and◌}
use Rattle.sound.specs.Threads.{zeros?}
use Rattle.question.proofs.threads.words_zero.Goals as goal

pub returns-then-w-eq0 : goal.returns-then-w-eq0
unfolding ◌and◌ zeros?
returns-then-w-eq0 c = grind (arith, nat_tests, common_steps)

pub returns-else-w-eq0 : goal.returns-else-w-eq0
unfolding ◌and◌ zeros?
returns-else-w-eq0 c = grind (arith, nat_tests, common_steps)
