-- A number that is no call's, and what it leaves. Assumes nothing.
use mathlib.Core.Path.{◌≡◌, refl}
use mathlib.Core.Bool.{Bool, true, false}
use mathlib.Core.Logic.{◌≢◌}
use mathlib.Core.List.{List}
use Prim.Native.Nat.{ℕ}
use lib.Dec.{eqb}
use borrow.Author.Tests.{ne_eqb}
use Rattle.std.proofs.lemmas.Grind.{common_steps}
use Rattle.laws.specs.Logic.{pick, pick_yes, pick_no}
use Rattle.types.specs.declared.kernel.Kernel.{Kernel}
use Rattle.block.specs.Block.{enc_block, dec_block}
use Rattle.sound.specs.Question.{sound?}
use Rattle.svc.specs.declared.Registers.{Registers}
use Rattle.svc.specs.Call.{silent}
use Rattle.svc.specs.Dispatch.{call, handle_call}
use Rattle.lent.specs.Operations.{finding}
use Rattle.rows.specs.Holds.{holds}
use Rattle.outcome.specs.Outcome.{left}

module _ (n : ℕ) (k : Kernel) (r : Registers) (words : List ℕ) (tick : ℕ) where
  pub no_handle_call : n ≢ 0x21 → n ≢ 0x22 → n ≢ 0x23 → n ≢ 0x24 → n ≢ 0x25 → n ≢ 0x27 → handle_call n k r words tick ≡ silent k
  no_handle_call e0 e1 e2 e3 e4 e5 = rw (ne_eqb n 0x21 e0, ne_eqb n 0x22 e1, ne_eqb n 0x23 e2, ne_eqb n 0x24 e3, ne_eqb n 0x25 e4, ne_eqb n 0x27 e5)

  pub handle-call : n ≢ 0x08 → n ≢ 0x09 → n ≢ 0x0A → n ≢ 0x0C → n ≢ 0x13 → n ≢ 0x14 → n ≢ 0x15 → n ≢ 0x16 → n ≢ 0x17 → n ≢ 0x18 → n ≢ 0x19 → n ≢ 0x1A → n ≢ 0x1B → n ≢ 0x1C → n ≢ 0x1D → call n k r words tick ≡ handle_call n k r words tick
  unfolding call
  handle-call e0 e1 e2 e3 e4 e5 e6 e7 e8 e9 e10 e11 e12 e13 e14 = rw (ne_eqb n 0x08 e0, ne_eqb n 0x09 e1, ne_eqb n 0x0A e2, ne_eqb n 0x0C e3, ne_eqb n 0x13 e4, ne_eqb n 0x14 e5, ne_eqb n 0x15 e6, ne_eqb n 0x16 e7, ne_eqb n 0x17 e8, ne_eqb n 0x18 e9, ne_eqb n 0x19 e10, ne_eqb n 0x1A e11, ne_eqb n 0x1B e12, ne_eqb n 0x1C e13, ne_eqb n 0x1D e14)

-- the block stays as it is, found or not
pub silent-left : (b : List ℕ) → sound? b ≡ true → b ≡ left (silent (dec_block b)) b
unfolding left
silent-left b s = go (eqb (finding (dec_block b)) 0)
  where
    go : (t : Bool) → b ≡ pick t (enc_block (dec_block b)) b
    go true = (holds b s).same
    go false = refl

pub ruleset calls = (common_steps, pick_yes, pick_no, silent-left)
