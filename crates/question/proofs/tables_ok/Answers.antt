use mathlib.Core.Path.{sym, ◌∙◌}
use Rattle.laws.specs.Logic.{and_no, and_yes}
use Rattle.codec.specs.Layout.{dec_as}
use Rattle.block.specs.Block.{dec_block}
use Rattle.question.specs.LinearObjects.{tables?}
use Rattle.question.proofs.tables_ok.Goals as goal

pub returns-then-not-handles_ok-clause-value : goal.returns-then-not-handles_ok-clause-value
unfolding tables? dec_block dec_as
returns-then-not-handles_ok-clause-value c =
    let r = rw c.get_head-head.ensures at c.handles_ok.ensures.value in
    sym (and_no _ _ (sym r ∙ c.if-not-handles_ok.true))

pub returns-then-threads_ok : goal.returns-then-threads_ok
unfolding tables? dec_block dec_as
returns-then-threads_ok c =
    let h = c.get_head-head.ensures in
    let k = c.handles_ok.ensures in
    let r = rw h at k.value in
    let t = rw (c.option_of-current.ensures, h) at c.threads_ok.ensures in
    let l = rw h at c.tls_ok.ensures in
    let y = c.if-not-handles_ok.false in
    record {
      value = l ∙ sym (and_yes _ _ (sym r ∙ y) ∙ and_yes _ _ (sym t ∙ c.if-threads_ok.true));
      c_after = λ e. rw (k.c_after y) at c.tally_lists.ensures;
    }

pub returns-else-threads_ok-clause-value : goal.returns-else-threads_ok-clause-value
unfolding tables? dec_block dec_as
returns-else-threads_ok-clause-value c =
    let h = c.get_head-head.ensures in
    let r = rw h at c.handles_ok.ensures.value in
    let t = rw (c.option_of-current.ensures, h) at c.threads_ok.ensures in
    c.if-threads_ok.false ∙ sym (and_yes _ _ (sym r ∙ c.if-not-handles_ok.false) ∙ and_no _ _ (sym t ∙ c.if-threads_ok.false))
