-- What the host lends, and what comes back.
use Rattle.std.specs.Prelude.{Bool, List, ℕ, eqb, leb}
use Rattle.laws.specs.Logic.{◌and◌, ◌or◌}

-- the lent slices; one that an operation is not lent is empty
pub record Lent : Type 0 where
  pub block : List ℕ
  pub bank : List ℕ
  pub processor : List ℕ
  pub window : List ℕ
  pub answer : List ℕ

abbrev pub lent : List ℕ → List ℕ → List ℕ → List ℕ → List ℕ → Lent
lent b k p w a = record { block = b; bank = k; processor = p; window = w; answer = a }

-- the number, and the lent slices afterwards
pub record Back : Type 0 where
  pub number : ℕ
  pub after : Lent

abbrev pub back : ℕ → Lent → Back
back n l = record { number = n; after = l }

abbrev pub with_answer : Lent → List ℕ → Lent
with_answer l a = lent l.block l.bank l.processor l.window a

abbrev pub with_block : Lent → List ℕ → Lent
with_block l b = lent b l.bank l.processor l.window l.answer

-- 0 and the kernel answers, 16 to 18, are accepted; all else is a refusal
unfoldable pub accepted? : ℕ → Bool
accepted? n = eqb n 0 or (leb 16 n and leb n 18)
