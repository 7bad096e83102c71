use Rattle.std.specs.Prelude.{Some, None}
use mathlib.Core.Path.{ap, subst, ◌∙◌}
use mathlib.Core.List.{List}
use Prim.Native.Nat.{ℕ, ◌≤◌, ◌<◌}
use native.Mathlib.Omega.{arith}
use lib.ListN.{length, get_or}
use Rattle.units.specs.declared.ObjectId.{ObjectId}
use Rattle.types.specs.Thread.{wait_list}
use Rattle.block.specs.Block.{dec_block}
use Rattle.wait_calls.specs.Opens.{Opens, store_of}
use Rattle.wait_calls.proofs.Words.{words-next, words-end}
use Rattle.wait_calls.proofs.Opens.{unwrap-object, open_none, open_end, open_unknown, open_more}
use Rattle.wait_calls.proofs.handles.open_list.Goals as goal

pub loop-i-init : goal.loop-i-init
loop-i-init c = open_none c.args.block.now c.requires.block_value _

pub returns-then-o-eq0 : goal.returns-then-o-eq0
returns-then-o-eq0 c =
    let l = c.loop-i in
    let k = dec_block c.args.block.now in
    let hs = c.first-handles.result.now in
    let q = c.first-handles.ensures.value in
    let m : l.i < length hs = omega arith in
    let d = words-next hs l.i m in
    let room = ap (λ (h : List ℕ). (store_of k h).full) q ∙ c.requires.words_value in
    let o = ap (λ (x : ObjectId). x.0) c.unwrap_or-o.ensures ∙ unwrap-object c.resolve.result in
    let p = c.resolve.ensures in
    subst (λ (h : List ℕ). Opens k h c.resolve.new.block None) q (open_unknown k hs l.block l.l l.i l.invariant room c.requires.block_value_2 (get_or hs l.i 0) d _ c.resolve.result c.unwrap_or-o.result o p.opens p.block_after c.if-o-eq0.true)

pub loop-i-preserved : goal.loop-i-preserved
loop-i-preserved c =
    let l = c.loop-i in
    let k = dec_block c.args.block.now in
    let hs = c.first-handles.result.now in
    let q = c.first-handles.ensures.value in
    let m : l.i < length hs = omega arith in
    let n : l.i < wait_list = omega (arith, c.first-handles.ensures.bound) in
    let d = words-next hs l.i m in
    let room = ap (λ (h : List ℕ). (store_of k h).full) q ∙ c.requires.words_value in
    let o = ap (λ (x : ObjectId). x.0) c.unwrap_or-o.ensures ∙ unwrap-object c.resolve.result in
    let p = c.resolve.ensures in
    open_more k hs l.block l.l l.i l.invariant room c.requires.block_value_2 (get_or hs l.i 0) d _ c.resolve.result c.unwrap_or-o.result o p.opens p.block_after c.if-o-eq0.false n

pub returns : goal.returns
returns c =
    let l = c.loop-i in
    let k = dec_block c.args.block.now in
    let hs = c.first-handles.result.now in
    let m : length hs ≤ l.i = omega arith in
    subst (λ (h : List ℕ). Opens k h l.block (Some l.l)) c.first-handles.ensures.value (open_end k hs l.block l.l l.i l.invariant (words-end hs l.i m))
