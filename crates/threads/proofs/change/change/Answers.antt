use Rattle.std.proofs.Common.{arith}
use borrow.Author.Tests.{le-ltb}
use Rattle.block.specs.Block.{dec_block}
use Rattle.sound.specs.View.{thread_at}
use Rattle.rows.specs.Rows.{thread_put}
use Rattle.threads.proofs.change.change.Goals as goal

pub returns-else-t-lt32 : goal.returns-else-t-lt32
unfolding thread_put
returns-else-t-lt32 g c = (thread_at (dec_block c.args.block.now).threads c.args.t, ((λ l. absurd (omega (arith, l, c.if-t-lt32.false))), rw (le-ltb _ 32 c.if-t-lt32.false)))
