use Rattle.question.proofs.chains.+mark_chain.Given as goal

abbrev pub decreases-mark_chain : goal.decreases-mark_chain
decreases-mark_chain g l = l.left
