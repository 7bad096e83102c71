use Rattle.object.proofs.waiters.+unlink.Given as goal

abbrev pub decreases-unlink : goal.decreases-unlink
decreases-unlink l = l.left
