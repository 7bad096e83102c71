use Rattle.question.proofs.chains.+blanks_ok.Given as goal

abbrev pub decreases-blanks_ok : goal.decreases-blanks_ok
decreases-blanks_ok l = l.left
