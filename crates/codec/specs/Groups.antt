-- Groups of words.
use Rattle.std.specs.Prelude.{List, ◌++◌, ℕ, ◌+◌}
use Rattle.codec.specs.Bytes.{le, bytes}
use Rattle.codec.specs.declared.Two.{Two}
use Rattle.codec.specs.declared.Four.{Four}

abbrev pub two_at : List ℕ → ℕ → Two
two_at s at = record { 0 = le 4 s at; 1 = le 4 s (at + 4) }

abbrev pub two_bytes : Two → List ℕ
two_bytes v = bytes 4 v.0 ++ bytes 4 v.1

abbrev pub four_at : List ℕ → ℕ → Four
four_at s at = record { 0 = le 4 s at; 1 = le 4 s (at + 4); 2 = le 4 s (at + 8); 3 = le 4 s (at + 12) }

abbrev pub four_bytes : Four → List ℕ
four_bytes v = bytes 4 v.0 ++ (bytes 4 v.1 ++ (bytes 4 v.2 ++ bytes 4 v.3))
