use Rattle.std.proofs.Common.{arith, ◌∙◌}
use Rattle.std.specs.Prelude.{◌≡◌}
use Rattle.codec.specs.Layout.{dec_as}
use Rattle.block.specs.Block.{dec_block}
use Rattle.thread.specs.Threads.{least, tls_slot}
use Rattle.thread.specs.Marks.{least-le, free-is}
use Rattle.thread.proofs.Steps.{tls-le}
use Rattle.rows.specs.Sizes.{size-threads}
use Rattle.thread.proofs.Steps.{min-least}
use Rattle.vacant.proofs.tls_slot.Goals as goal

pub returns : goal.returns
unfolding tls_slot dec_block dec_as
returns c =
    let b = c.args.b.now in
    let k = dec_block b in
    let e : c.free_slot.result ≡ tls_slot k = c.free_slot.ensures ∙ rw (c.tally_tls.ensures, c.min.ensures, c.get32.ensures, min-least) (free-is k.threads (size-threads b) (least k.next_tls_slot 32) 0 (omega (arith, least-le k.next_tls_slot 32))) in
    record { value = e; upper_bound = rw e (tls-le k) }
