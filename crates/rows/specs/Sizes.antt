-- How many threads and slots any block decodes to. Assumes nothing.
use Rattle.std.specs.Prelude.{◌≡◌, List, ℕ, length}
use Rattle.codec.proofs.Fit.{length-dec_all}
use Rattle.block.specs.Thread.{dec_thread}
use Rattle.block.specs.Slot.{dec_slot}
use Rattle.block.specs.Block.{dec_block}

module _ (b : List ℕ) where
  pub size-threads : length (dec_block b).threads ≡ 32
  unfolding dec_block
  size-threads = length-dec_all dec_thread 160 32 b 128

  pub size-slots : length (dec_block b).objects.slots ≡ 128
  unfolding dec_block
  size-slots = length-dec_all dec_slot 40 128 b 5248
