use Rattle.tally.proofs.chain.+has_record.Given as goal

abbrev pub decreases-has_record : goal.decreases-has_record
decreases-has_record l = l.left
