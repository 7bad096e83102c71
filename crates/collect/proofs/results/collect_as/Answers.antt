use Rattle.rows.specs.Holds.{holds, put-thread}
use Rattle.collect.proofs.results.collect_as.Goals as goal

pub returns-in-None : goal.returns-in-None
returns-in-None c = rw c.in-None.is (holds _ c.requires.block_value)

pub returns-in-Some : goal.returns-in-Some
returns-in-Some c = rw (c.in-Some.is, c.clear_at.ensures) (put-thread (holds _ c.requires.block_value) _ _)
