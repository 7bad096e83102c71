-- Words as signed numbers. Assumes nothing.
use Rattle.std.proofs.Common.{◌≡◌, ℕ, ◌<◌, true, false, arith}
use Rattle.std.proofs.lemmas.Int.{ints}
use Rattle.std.specs.Int.{w32, cast_signed, cast_unsigned, int_min}
use Rattle.std.specs.Int.RustNames.{FitsSigned}
use Rattle.std.specs.Prelude.{pos, ◌+ℤ◌}
use Rattle.laws.specs.Logic.{◌or◌}
use Rattle.svc.specs.Sync.{biased, word_sum, sum_over, word_min}

pub biased-is : (a : ℕ) → a < 4294967296 → pos (biased a) ≡ cast_signed w32 a +ℤ pos 2147483648
biased-is a h = grind (arith, ints)

pub sum-fits : (a b : ℕ) → a < 4294967296 → b < 4294967296 → FitsSigned w32 (cast_signed w32 a +ℤ cast_signed w32 b) → sum_over a b ≡ false
unfolding ◌or◌
sum-fits a b h k f = let e = biased-is a h in let g = biased-is b k in grind (arith, ints)

pub sum_over_lem : (a b : ℕ) → a < 4294967296 → b < 4294967296 → (FitsSigned w32 (cast_signed w32 a +ℤ cast_signed w32 b) → ⊥) → sum_over a b ≡ true
unfolding ◌or◌
sum_over_lem a b h k f = let e = biased-is a h in let g = biased-is b k in grind (arith, ints)

pub sum-is : (a b : ℕ) → a < 4294967296 → b < 4294967296 → FitsSigned w32 (cast_signed w32 a +ℤ cast_signed w32 b) → cast_signed w32 (word_sum a b) ≡ cast_signed w32 a +ℤ cast_signed w32 b
sum-is a b h k f = let e = biased-is a h in let g = biased-is b k in let d = biased-is (word_sum a b) (omega arith) in grind (arith, ints)

pub min-is : (a b : ℕ) → a < 4294967296 → b < 4294967296 → cast_unsigned w32 (int_min (cast_signed w32 a) (cast_signed w32 b)) ≡ word_min a b
min-is a b h k = let e = biased-is a h in let g = biased-is b k in grind (arith, ints)
