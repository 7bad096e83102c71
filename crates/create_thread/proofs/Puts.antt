-- A number written over all of its place. Assumes nothing.
use Rattle.std.proofs.lemmas.Grind.{common_steps}
use Rattle.codec.proofs.Laws.{length-bytes, over-all}

pub ruleset puts = (common_steps, length-bytes, over-all)
