use Rattle.std.proofs.Common.{arith, sym, ◌∙◌}
use Rattle.std.proofs.lemmas.Bool.Decides.{nat_tests}
use Rattle.std.proofs.lemmas.Grind.{common_steps}
use Rattle.laws.specs.Logic.{◌and◌, and_no, and-false}
use Rattle.codec.specs.Layout.{dec_as}
use Rattle.block.specs.Block.{dec_block}
use Rattle.question.specs.LinearObjects.{store?}
use Rattle.question.proofs.store_ok.Goals as goal
use Rattle.question.proofs.store_ok.Goals.{then-contents, else-contents}

pub returns-then-objects_ok : goal.returns-then-objects_ok
unfolding store? dec_block dec_as ◌and◌
returns-then-objects_ok c =
    let m = c.read_columns-contents.ensures in
    let h = c.get_head-head.ensures in
    let g = rw (c.dead_marks-d.ensures, h) at m.value in
    let r = rw (m.heads_after, h) at c.records_ok.ensures in
    grind (arith, nat_tests, common_steps)

pub returns-else-objects_ok : goal.returns-else-objects_ok
unfolding store? dec_block dec_as ◌and◌
returns-else-objects_ok c =
    let m = c.read_columns-contents.ensures in
    let h = c.get_head-head.ensures in
    let g = rw (c.dead_marks-d.ensures, h) at m.value in
    elim c.if-contents.branch [
      | then-contents w ↦
          let o = rw (m.kinds_after, m.refs_after, m.nexts_after, m.named_after, c.bump_at.ensures, c.tally_kept.ensures, h) at w.objects_ok.ensures in
          c.if-objects_ok.false ∙ sym (and_no _ _ (sym o ∙ (sym w.value-is ∙ c.if-objects_ok.false)))
      | else-contents w ↦ c.if-objects_ok.false ∙ sym (rw (sym g ∙ w.if-contents.false) (and-false _))
    ]
