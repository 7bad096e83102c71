use Rattle.std.proofs.Common.{sym, subst, ◌∙◌, drop}
use Rattle.std.proofs.lemmas.Result.{err_from_is_err_and}
use Rattle.std.specs.Prelude.{List, ℕ, ◌+◌}
use Rattle.block.specs.Block.{dec_block}
use Rattle.sound.specs.View.{ids}
use Rattle.release.proofs.Lists.{list-next}
use Rattle.take.proofs.Taken.{Taking, refused-as, take_more, take-over}
use Rattle.take.proofs.take_list.Goals as goal

pub returns-in_err-take-clause-value : goal.returns-in_err-take-clause-value
returns-in_err-take-clause-value c =
    let p = err_from_is_err_and c.from_residual.result c.from_residual.ensures.1 in
    let q = refused-as _ tt _ (sym c.take.ensures.value ∙ c.in_err-take.was) in
    let l = c.loop-o in
    let a = c.args in
    let k = dec_block a.block.now in
    let os = ids a.list.now in
    let g = subst (λ (z : List ℕ). Taking k os a.w l.block z) (list-next a.list.now l.o-index c.loop-o-test.true) l.invariant in
    rw (p.1, p.2, q.1, take-over k os a.w l.block _ (drop (l.o-index + 1) os) g q.0)

pub loop-o-preserved : goal.loop-o-preserved
loop-o-preserved c =
    let l = c.loop-o in
    let a = c.args in
    let k = dec_block a.block.now in
    let e = list-next a.list.now l.o-index c.loop-o-test.true in
    let g = subst (λ (z : List ℕ). Taking k (ids a.list.now) a.w l.block z) e l.invariant in
    take_more k (ids a.list.now) a.w l.block c.take.new.block _ (drop (l.o-index + 1) (ids a.list.now)) g (c.take.ensures.block_after c.in_ok-take.was) c.take.ensures.block_after_2
