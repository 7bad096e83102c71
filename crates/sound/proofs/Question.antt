-- The test of a block tells that it is sound, and takes the block of a sound state.
use Rattle.std.specs.Prelude.{◌≡◌, true, List, ℕ}
use Rattle.laws.specs.Logic.{and-true, true-and}
use Rattle.laws.specs.Test.{Test}
use Rattle.codec.proofs.Same.{same-eq, same_refl}
use Rattle.types.specs.declared.kernel.Kernel.{Kernel}
use Rattle.block.specs.Block.{enc_block, dec_block}
use Rattle.block.proofs.Fits.{StateFits, block_back, block-bytes, block-fits}
use Rattle.sound.specs.Sound.{Sound}
use Rattle.sound.specs.Question.{sound?, SoundBlock}
use Rattle.sound.proofs.Sound.{t-sound}

-- an encoding is bytes, so what a canonical block says fits
canonical-fits : (b : List ℕ) → b ≡ enc_block (dec_block b) → StateFits (dec_block b)
canonical-fits b c = block-fits b (λ i. rw c (block-bytes (dec_block b) i))

pub t_block : (b : List ℕ) → Test (sound? b) (SoundBlock b)
unfolding sound?
t_block b = record {
  yes = λ e.
      let a = and-true _ _ e in
      let c = same-eq b (enc_block (dec_block b)) a.0 in
      record { canonical = c; state = (t-sound (dec_block b) (canonical-fits b c)).yes a.1 };
  has = λ h.
      true-and _ _ (rw (← h.canonical) (same_refl b)) ((t-sound (dec_block b) h.state.fits).has h.state);
}

-- the block of a sound state is accepted
pub encoded-sound : (k : Kernel) → Sound k → sound? (enc_block k) ≡ true
unfolding sound?
encoded-sound k s = rw (block_back k s.fits) (true-and _ _ (same_refl (enc_block k)) ((t-sound k s.fits).has s))
