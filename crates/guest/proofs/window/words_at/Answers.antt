use Prim.Native.Nat.{◌<◌}
use native.Mathlib.Omega.{arith}
use lib.ListN.{length}
use Rattle.codec.specs.Bytes.{num}
use Rattle.codec.specs.Layout.{dec_all}
use Rattle.codec.proofs.Rows.{fill_more}
use borrow.Author.Rules.{rules}
use Rattle.guest.proofs.window.words_at.Goals as goal

pub loop-i-init : goal.loop-i-init
unfolding dec_all
loop-i-init c = search rules

pub loop-i-preserved : goal.loop-i-preserved
loop-i-preserved c =
    let l = c.loop-i in
    let h : l.i < length l.l = omega arith in
    (search rules, cc (fill_more num 4 l.i c.args.window.now c.args.at l.l h l.invariant.1))
