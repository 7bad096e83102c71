-- The laws by which one test after another is one comparison. Assumes nothing.
use Rattle.laws.specs.Logic.{and_no, and_yes}
use native.Mathlib.Nat.{add-sub_cancel_left}
use Rattle.std.proofs.lemmas.Grind.{common_steps}
use Rattle.canonical.specs.Parts.{same-no, same-on, same-last, block-parts, head-parts}
use Rattle.canonical.specs.Rows.{rows-turn}

pub ruleset tests = (and_no, and_yes, same-no, same-on, same-last)

pub ruleset blocks = (tests, common_steps, block-parts)

pub ruleset heads = (tests, common_steps, head-parts)

pub ruleset rows = (common_steps, and_no, add-sub_cancel_left, rows-turn)
