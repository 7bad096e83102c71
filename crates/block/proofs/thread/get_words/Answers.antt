use Rattle.codec.specs.Layout.{dec_as}
use Rattle.block.specs.Thread.{words_list}
use Rattle.block.proofs.thread.get_words.Goals as goal

-- Each number where it stands.

pub returns : goal.returns
unfolding dec_as
returns c = λ i. words_list (record {
  a = c.get_four.ensures i;
  b = c.get_four-2.ensures i;
  c = c.get_four-3.ensures i;
  d = c.get_four-4.ensures i;
  wakeup_at = c.get64.ensures i;
  running_since = c.get64-2.ensures i;
})
