use Rattle.object.proofs.waiters.+last_of.Given as goal

abbrev pub decreases-last_of : goal.decreases-last_of
decreases-last_of l = l.left
