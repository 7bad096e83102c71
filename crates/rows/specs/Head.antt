-- The head of a block that holds a state is that state's. Assumes nothing.
use Rattle.std.specs.Prelude.{◌≡◌, true, List, ℕ}
use Rattle.std.proofs.Common.{ap, ◌∙◌}
use Rattle.types.specs.declared.kernel.Kernel.{Kernel}
use Rattle.block.specs.Block.{head_at, head_words, enc_block, dec_block}
use Rattle.block.proofs.Fits.{StateFits, head-back}
use Rattle.sound.specs.Question.{sound?}
use Rattle.sound.proofs.Question.{t_block}

pub head-held : (k : Kernel) → StateFits k → head_at (enc_block k) ≡ head_words k
unfolding enc_block
head-held k f = head-back k _ f.head

pub sound-head : (b : List ℕ) → sound? b ≡ true → head_at b ≡ head_words (dec_block b)
sound-head b e = let s = (t_block b).yes e in ap head_at s.canonical ∙ head-held (dec_block b) s.state.fits
