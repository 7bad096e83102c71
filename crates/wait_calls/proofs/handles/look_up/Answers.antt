use borrow.Author.Rules.{rules}
use mathlib.Core.Path.{◌≡◌, ◌∙◌}
use Prim.Native.Nat.{◌<◌}
use native.Mathlib.Omega.{arith}
use lib.Dec.{eqb}
use lib.ListN.{length}
use Rattle.laws.specs.Logic.{◌or◌}
use Rattle.block.specs.Block.{dec_block}
use Rattle.wait_calls.proofs.Looked.{looked-none, looked-more}
use Rattle.wait_calls.proofs.handles.look_up.Goals as goal

pub loop-i-init : goal.loop-i-init
loop-i-init c = looked-none (dec_block c.args.block.now) c.first-handles.result.now

pub loop-i-preserved : goal.loop-i-preserved
unfolding ◌or◌
loop-i-preserved c =
    let l = c.loop-i in
    let k = dec_block c.args.block.now in
    let hs = c.first-handles.result.now in
    let m : l.i < length hs = omega arith in
    let e = looked-more k hs l.l l.unknown l.i l.invariant m (omega (arith, c.first-handles.ensures.bound)) c.open_object-o.result c.open_object-o.ensures in
    let f : c.if-unknown.unknown ≡ (l.unknown or eqb c.open_object-o.result.0 0) = search rules in
    (e.0, f ∙ e.1)
