-- Question 2 on a block: it is the encoding of what it decodes to, and that is a sound state.
-- The first part asks for known statuses and kinds, flags of 0 or 1, and zero in everything unused or spare.
use Rattle.std.specs.Prelude.{◌≡◌, Bool, List, ℕ}
use Rattle.laws.specs.Logic.{◌and◌}
use Rattle.codec.specs.Bytes.{same}
use Rattle.block.specs.Block.{enc_block, dec_block}
use Rattle.sound.specs.Sound.{state?, Sound}

unfoldable pub sound? : List ℕ → Bool
sound? b = same b (enc_block (dec_block b)) and state? (dec_block b)

pub record SoundBlock (b : List ℕ) : Type 0 where
  pub canonical : b ≡ enc_block (dec_block b)
  pub state : Sound (dec_block b)
