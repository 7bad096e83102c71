use Rattle.arbiter.proofs.wake.+unlink_woken.Given as goal

abbrev pub decreases-unlink_woken : goal.decreases-unlink_woken
decreases-unlink_woken l = l.left
