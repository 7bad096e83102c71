use Rattle.std.proofs.Common.{arith, ap, ◌∙◌}
use Rattle.canonical.specs.Parts.{slot-parts}
use Rattle.canonical.specs.Kinds.{whole}
use Rattle.canonical.proofs.Tests.{tests}
use Rattle.canonical.proofs.slot.SlotCanonical.canonical.Goals as goal

-- The object's words as those of the object that they say, then the mark.

pub returns-then-object_same : goal.returns-then-object_same
returns-then-object_same c =
    let P = slot-parts c.args.s.now (λ j. omega (arith, c.type_inv.s j)) c.requires in
    let e = c.object_same.ensures ∙ ap whole c.get_words-w.ensures in
    grind (arith, tests, P, e)

pub returns-else-object_same : goal.returns-else-object_same
returns-else-object_same c =
    let P = slot-parts c.args.s.now (λ j. omega (arith, c.type_inv.s j)) c.requires in
    let e = c.object_same.ensures ∙ ap whole c.get_words-w.ensures in
    grind (arith, tests, P, e)
