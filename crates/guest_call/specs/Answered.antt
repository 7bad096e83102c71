-- The number that a guest call answers: its own, or that of the refusal. Assumes nothing.
use Rattle.std.specs.Prelude.{◌≡◌, refl, Bool, true, false, ℕ, Result, Ok, Err}
use Rattle.laws.specs.Logic.{pick}
use Rattle.types.specs.declared.kernel.Kernel.{Kernel}
use Rattle.types.specs.declared.refusal.Refusal.{Refusal}
use Rattle.types.specs.Refusal.{refusal_number, found_in, unless_found}
use Rattle.svc.specs.declared.Registers.{Registers}
use Rattle.svc.specs.Table.{known?}
use Rattle.svc.specs.Dispatch.{runs?, too_many?, outside?, refusal}

abbrev pub answered : Result ℕ Refusal → ℕ
answered (Ok n) = n
answered (Err r) = refusal_number r

-- what questions 3 to 6 find is what a call is refused for
pub found-refusal : (base len number : ℕ) (r : Registers) (k : Kernel)
    → found_in {A = Unit {0}} (unless_found (refusal base len number r k) tt) ≡ refusal base len number r k
unfolding refusal
found-refusal base len number r k = go (known? number) (runs? k) (too_many? number r) (outside? base len number r)
  where
    go : (a b c d : Bool)
        → found_in {A = Unit {0}} (unless_found (pick a (pick b (pick c 5 (pick d 6 0)) 4) 3) tt)
        ≡ pick a (pick b (pick c 5 (pick d 6 0)) 4) 3
    go false b c d = refl
    go true false c d = refl
    go true true true d = refl
    go true true false true = refl
    go true true false false = refl
