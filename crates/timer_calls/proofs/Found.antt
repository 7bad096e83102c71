-- What a block decodes to has no finding of the store's. Assumes nothing.
use mathlib.Core.Path.{◌≡◌, refl}
use mathlib.Core.Bool.{false}
use mathlib.Core.List.{List}
use Prim.Native.Nat.{ℕ}
use Rattle.block.specs.Block.{dec_block}

pub down : (b : List ℕ) → ((dec_block b).objects.full ≡ false) × ((dec_block b).objects.overflow ≡ false)
unfolding dec_block
down b = (refl, refl)
