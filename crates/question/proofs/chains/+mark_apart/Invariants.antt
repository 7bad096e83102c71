use Rattle.question.proofs.chains.+mark_apart.Given as goal

abbrev pub decreases-mark_apart : goal.decreases-mark_apart
decreases-mark_apart l = l.left
