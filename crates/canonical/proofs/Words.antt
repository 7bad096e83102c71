-- What `==` says of a thread's words. Assumes nothing.
use Rattle.std.proofs.Common.{◌≡◌, refl, Bool, true, false}
use mathlib.Core.Bool.{◌&&◌}
use lib.Dec.{eqb}
use Rattle.laws.specs.Logic.{◌and◌, and-end, and_assoc}
use Rattle.codec.specs.Bytes.{same}
use Rattle.codec.specs.declared.Four.{Four}
use Rattle.block.specs.declared.thread.ThreadWords.{ThreadWords}
use Rattle.block.specs.Thread.{words_list}

both : (a b : Bool) → a && b ≡ a and b
unfolding ◌and◌
both true b = refl
both false b = refl

-- the test that the derived `eq` of four words makes
abbrev fours : Four → Four → Bool
fours x y = eqb x.0 y.0 && (eqb x.1 y.1 && (eqb x.2 y.2 && eqb x.3 y.3))

abbrev pub words_eq : ThreadWords → ThreadWords → Bool
words_eq x y =
    fours x.a y.a && (fours x.b y.b && (fours x.c y.c && (fours x.d y.d && (eqb x.wakeup_at y.wakeup_at && eqb x.running_since y.running_since))))

pub words_test : (x y : ThreadWords) → words_eq x y ≡ same (words_list x) (words_list y)
unfolding same
words_test x y = simp (both, and-end, and_assoc)
