use mathlib.Core.Path.{◌≡◌}
use mathlib.Core.Bool.{true}
use Rattle.laws.specs.Numbers.{all_below}
use Rattle.block.specs.Tables.{threads_in}
use Rattle.sound.specs.View.{thread_at}
use Rattle.sound.specs.Threads.{place?}
use Rattle.question.proofs.threads.all_places_ok.Given as goal

abbrev pub invariant-loop-i : goal.invariant-loop-i
invariant-loop-i l = all_below l.i (λ k. place? l.n l.c k (thread_at (threads_in l.b) k)) ≡ true
