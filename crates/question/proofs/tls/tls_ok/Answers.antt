use Rattle.codec.proofs.Fit.{length-dec_all}
use Rattle.block.specs.Thread.{dec_thread}
use Rattle.block.specs.Tables.{threads_in}
use mathlib.Core.Path.{ap, sym, ◌∙◌}
use borrow.Author.Tests.{le-leb, lt-leb}
use Rattle.laws.specs.Logic.{and_no, and_yes}
use Rattle.sound.specs.Tls.{tls?}
use Rattle.question.specs.Linear.{once32?}
use Rattle.question.specs.SameTls.{once_is}
use Rattle.question.proofs.tls.tls_ok.Goals as goal
use Rattle.question.proofs.tls.tls_ok.Goals.{then-next-gt32-via-then-next-gt32, then-next-gt32-via-else-next-gt32+then-not-below_ok}

pub returns-then-next-gt32 : goal.returns-then-next-gt32
unfolding tls?
returns-then-next-gt32 c =
    sym (elim c.then-next-gt32.branch [
      | then-next-gt32-via-then-next-gt32 w ↦ and_no _ _ (lt-leb _ 32 w.if-next-gt32.true)
      | then-next-gt32-via-else-next-gt32+then-not-below_ok w ↦
          and_yes _ _ (le-leb _ 32 w.if-next-gt32.false) ∙ and_no _ _ (sym w.below_ok.ensures ∙ w.if-not-below_ok.true)
    ])

pub returns : goal.returns
unfolding tls?
returns c =
    sym (and_yes _ _ (le-leb _ 32 c.if-next-gt32.false) ∙ and_yes _ _ (sym c.below_ok.ensures ∙ c.if-not-below_ok.false)
    ∙ sym (c.once_ok.ensures ∙ ap once32? c.tally_tls.ensures ∙ once_is (threads_in c.args.b.now) (length-dec_all dec_thread 160 32 c.args.b.now 128)))
