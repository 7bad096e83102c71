use mathlib.Core.Path.{◌≡◌, sym, ◌∙◌}
use Prim.Native.Nat.{◌<◌}
use native.Mathlib.Omega.{arith}
use lib.ListN.{length}
use Rattle.block.specs.Thread.{dec_thread}
use Rattle.block.specs.Tables.{threads_in, row_at}
use Rattle.codec.proofs.Fit.{length-dec_all}
use Rattle.sound.specs.View.{no_thread}
use Rattle.tally.proofs.Held.{tally-held}
use Rattle.question.proofs.tls.tally_tls.Goals as goal

pub loop-i-preserved : goal.loop-i-preserved
loop-i-preserved c =
    let l = c.loop-i in
    let b = c.args.b.now in
    let n : length (threads_in b) ≡ 32 = length-dec_all dec_thread 160 32 b 128 in
    let h : l.i < length (threads_in b) = omega arith in
    let t = c.thread_at.ensures ∙ row_at dec_thread 160 no_thread 32 b 128 l.i (omega arith) in
    rw (c.tally_slot.ensures, t) (sym (tally-held (threads_in b) l.i h 129 l.m) ∙ l.invariant)
