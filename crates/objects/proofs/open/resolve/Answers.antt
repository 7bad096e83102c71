use mathlib.Core.Path.{refl}
use borrow.Author.Tests.{eq-eqb, ne_eqb}
use Rattle.block.specs.Block.{dec_block}
use Rattle.object.specs.Kept.{resolve}
use Rattle.svc.specs.Call.{resolved}
use Rattle.objects.specs.Open.{Opens}
use Rattle.objects.proofs.Opened.{opens_same}
use Rattle.objects.proofs.Sound.{opened-block}
use Rattle.objects.proofs.open.resolve.Goals as goal

pub returns-then-n : goal.returns-then-n
unfolding resolve
returns-then-n c = let b = c.args.block.now in
    let p : Opens (dec_block b) (resolved (dec_block b) c.args.h.0) b c.open_current.new.block c.open_current.result = rw (eq-eqb _ 0xFFFF8000 c.if-n.true) (rw c.current-current.ensures at c.open_current.ensures) in
    record { opens = p; block_after = opened-block b c.requires.block_value c.args.h.0 _ _ p }

pub returns-then-n-2 : goal.returns-then-n-2
unfolding resolve
returns-then-n-2 c = let b = c.args.block.now in
    let p : Opens (dec_block b) (resolved (dec_block b) c.args.h.0) b c.open_process.new.block c.open_process.result = rw (ne_eqb _ 0xFFFF8000 c.if-n.false, eq-eqb _ 0xFFFF8001 c.if-n-2.true) c.open_process.ensures in
    record { opens = p; block_after = opened-block b c.requires.block_value c.args.h.0 _ _ p }

pub returns : goal.returns
unfolding resolve
returns c = let b = c.args.block.now in
    let p : Opens (dec_block b) (resolved (dec_block b) c.args.h.0) b b c.there.result =
    rw (ne_eqb _ 0xFFFF8000 c.if-n.false, ne_eqb _ 0xFFFF8001 c.if-n-2.false)
    (opens_same b c.requires.block_value _ c.there.result _ refl c.resolve-o.ensures c.there.ensures) in
    record { opens = p; block_after = opened-block b c.requires.block_value c.args.h.0 _ _ p }
