use mathlib.Core.Path.{◌≡◌}
use lib.ListN.{length, take}
use Rattle.codec.specs.Bytes.{num}
use Rattle.codec.specs.Layout.{dec_all}
use Rattle.types.specs.Thread.{wait_list}
use Rattle.guest.proofs.window.words_at.Given as goal

abbrev pub invariant-loop-i : goal.invariant-loop-i
invariant-loop-i l = (length l.l ≡ wait_list) × (take l.i l.l ≡ dec_all num 4 l.i l.window l.at)
