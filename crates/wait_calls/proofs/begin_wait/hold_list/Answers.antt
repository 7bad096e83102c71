use mathlib.Core.Path.{subst}
use mathlib.Core.List.{List}
use Prim.Native.Nat.{ℕ, ◌+◌}
use lib.ListN.{drop}
use Rattle.block.specs.Block.{dec_block}
use Rattle.sound.specs.View.{ids}
use Rattle.wait_calls.proofs.Words.{ids-next, ids-end}
use Rattle.wait_calls.proofs.Holding.{Holding, hold_none, hold_more, hold_end}
use Rattle.wait_calls.proofs.begin_wait.hold_list.Goals as goal

pub loop-o-init : goal.loop-o-init
loop-o-init c = hold_none c.args.block.now c.requires.block_value _

pub loop-o-preserved : goal.loop-o-preserved
loop-o-preserved c =
    let l = c.loop-o in
    let a = c.args in
    let k = dec_block a.block.now in
    let os = ids a.list.now in
    let g = subst (λ (z : List ℕ). Holding k os l.block z) (ids-next a.list.now l.o-index c.loop-o-test.true) l.invariant in
    rw c.put_slot.ensures (hold_more k os l.block _ (drop (l.o-index + 1) os) g c.slot_at-x.result c.held.result c.slot_at-x.ensures c.held.ensures)

pub returns : goal.returns
returns c =
    let l = c.loop-o in
    let a = c.args in
    let k = dec_block a.block.now in
    let os = ids a.list.now in
    hold_end k os _ (subst (λ (z : List ℕ). Holding k os l.block z) (ids-end a.list.now l.o-index c.loop-o-test.false) l.invariant)
