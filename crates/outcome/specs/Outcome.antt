-- What a call leaves beside the state, and in the block. Assumes nothing.
use Rattle.std.specs.Prelude.{◌≡◌, Bool, List, ℕ, Some, None, Result, Ok, Err}
use Rattle.std.proofs.Math.Path.{refl, sym}
use Rattle.std.proofs.Math.Bool.{true, false}
use Rattle.std.proofs.Math.Dec.{eqb}
use borrow.Author.Tests.{eqb-true, eq-eqb, ne_eqb}
use Rattle.laws.specs.Logic.{pick}
use Rattle.types.specs.declared.refusal.Refusal.{Refusal}
use Rattle.types.specs.Refusal.{refusal_number, refusal_of, refusal-back, refusal-some, found_in, unless_found}
use Rattle.block.specs.Block.{enc_block}
use Rattle.svc.specs.declared.Served.{Served}
use Rattle.lent.specs.Operations.{finding}
use Rattle.outcome.specs.declared.Outcome.{Outcome}
use Rattle.outcome.specs.Findings.{found-finding}

-- the answer n, which r0 gets too
abbrev pub answered : ℕ → Outcome
answered n = record { answer = n; r0 = Some n; r1 = None; word = None }

-- done, and r1 gets v
abbrev pub given : ℕ → Outcome
given v = record { answer = 0; r0 = Some 0; r1 = Some v; word = None }

-- done, and no register is written
abbrev pub silent : Outcome
silent = record { answer = 0; r0 = None; r1 = None; word = None }

abbrev pub accepted : Served → Outcome
accepted s = record { answer = s.answer; r0 = s.r0; r1 = s.r1; word = s.word }

-- with a finding nothing is left but the refusal that it says
unfoldable pub outcome : Served → Result Outcome Refusal
outcome s = unless_found (finding s.kernel) (accepted s)

-- with a finding the block stays as it is
unfoldable pub left : Served → List ℕ → List ℕ
left s b = pick (eqb (finding s.kernel) 0) (enc_block s.kernel) b

module _ (s : Served) where
  pub outcome-0 : finding s.kernel ≡ 0 → outcome s ≡ Ok (accepted s)
  unfolding outcome
  outcome-0 e = rw (eq-eqb _ 0 e)

  pub outcome-found : (r : Refusal) → finding s.kernel ≡ refusal_number r → outcome s ≡ Err r
  unfolding outcome
  outcome-found r e = rw (e, ne_eqb (refusal_number r) 0 (refusal-some r), refusal-back r)

  pub found-is : found_in (outcome s) ≡ finding s.kernel
  unfolding outcome
  found-is = found-finding s.kernel (accepted s)

  module _ (b : List ℕ) where
    pub left-0 : finding s.kernel ≡ 0 → left s b ≡ enc_block s.kernel
    unfolding left
    left-0 e = rw (eq-eqb _ 0 e)

    pub left-found : (finding s.kernel ≡ 0 → ⊥) → left s b ≡ b
    unfolding left
    left-found z = rw (ne_eqb _ 0 z)
