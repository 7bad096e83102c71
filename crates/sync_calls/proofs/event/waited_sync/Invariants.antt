use mathlib.Core.Path.{◌≡◌}
use lib.ListN.{drop}
use Rattle.block.specs.Block.{dec_block}
use Rattle.pass.specs.Signal.{waited_sync}
use Rattle.sync_calls.proofs.event.waited_sync.Given as goal

abbrev pub invariant-loop-i : goal.invariant-loop-i
invariant-loop-i l =
    let ts = (dec_block l.block).threads in
    waited_sync (drop l.i ts) l.o.0 ≡ waited_sync ts l.o.0
