use Rattle.question.proofs.chains.+chain_ok.Given as goal

abbrev pub decreases-chain_ok : goal.decreases-chain_ok
decreases-chain_ok l = l.left
