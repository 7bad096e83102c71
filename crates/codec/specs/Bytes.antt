-- Little-endian numbers in lists of bytes.
use Rattle.std.specs.Prelude.{Bool, true, false, List, [], ◌∷◌, ◌++◌, ℕ, zero, suc, ◌+◌, ◌*◌, ◌/◌, ◌%◌, eqb, length, take, drop}
use Rattle.laws.specs.Logic.{◌and◌}

-- the number that bytes say, the least first
abbrev pub num : List ℕ → ℕ
num [] = 0
num (b ∷ bs) = b + 256 * num bs

-- the n least bytes of v, the least first
unfoldable pub bytes : ℕ → ℕ → List ℕ
bytes zero v = []
bytes (suc n) v = v % 256 ∷ bytes n (v / 256)

-- the number in the n bytes from at
abbrev pub le : ℕ → List ℕ → ℕ → ℕ
le n s at = num (take n (drop at s))

-- s with xs over what stands from at on
abbrev pub over : List ℕ → ℕ → List ℕ → List ℕ
over s at xs = take at s ++ (xs ++ drop (at + length xs) s)

-- whether two lists are equal
unfoldable pub same : List ℕ → List ℕ → Bool
same [] [] = true
same [] (y ∷ ys) = false
same (x ∷ xs) [] = false
same (x ∷ xs) (y ∷ ys) = eqb x y and same xs ys
