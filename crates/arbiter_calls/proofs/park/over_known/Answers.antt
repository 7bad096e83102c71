use mathlib.Core.Path.{sym, subst}
use mathlib.Core.Bool.{Bool}
use Rattle.laws.specs.Logic.{◌and◌}
use Rattle.block.specs.Block.{dec_block}
use Rattle.objects.specs.Open.{Names}
use Rattle.objects.proofs.Names.{names-is}
use Rattle.arbiter_calls.proofs.Found.{names-known}
use Rattle.arbiter_calls.proofs.park.over_known.Goals as goal

pub returns-then-over : goal.returns-then-over
unfolding ◌and◌
returns-then-over c = rw (c.if-over.true) (names-known (dec_block c.args.block.now) c.args.h.0 _ (subst (λ (t : Bool). Names (dec_block c.args.block.now) c.args.h.0 t) (sym c.names.ensures) (names-is c.args.block.now c.requires.block_value c.args.h.0)) c.requires.h_value)
