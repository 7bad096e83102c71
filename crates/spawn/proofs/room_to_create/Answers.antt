use Rattle.std.proofs.Common.{rules, ◌∙◌}
use Rattle.std.specs.Prelude.{◌≡◌, leb}
use Rattle.laws.specs.Logic.{◌or◌}
use Rattle.codec.specs.Layout.{dec_as}
use Rattle.types.specs.Refusal.{unless_found}
use Rattle.block.specs.Block.{dec_block}
use Rattle.lent.specs.Operations.{out_of_handles?}
use Rattle.outcome.specs.Findings.{found_of}
use Rattle.spawn.proofs.room_to_create.Goals as goal

pub returns : goal.returns
unfolding dec_block dec_as ◌or◌
returns c =
    let over = out_of_handles? (dec_block c.args.block.now) in
    let f : c.if-get32-ge4294967295.room ≡ (leb 4294967295 c.get32.result or over) = search rules in
    c.room.ensures ∙ (λ i. unless_found (found_of (leb 32 c.args.id) (f i)) tt) ∙ (λ i. unless_found (found_of (leb 32 c.args.id) (leb 4294967295 (c.get32.ensures i) or over)) tt)
