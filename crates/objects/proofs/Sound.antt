-- A block stays sound when a handle is opened. Assumes nothing.
use Rattle.std.specs.Prelude.{Result}
use mathlib.Core.Path.{◌≡◌, refl, sym, ap, ◌∙◌}
use mathlib.Core.Bool.{Bool, true, false}
use mathlib.Core.List.{List}
use Prim.Native.Nat.{ℕ}
use lib.Dec.{eqb}
use borrow.Author.Tests.{eqb-true, eqb-false}
use Rattle.laws.specs.Logic.{◌or◌}
use Rattle.types.specs.declared.kernel.Kernel.{Kernel}
use Rattle.block.specs.Block.{dec_block}
use Rattle.block.proofs.Fits.{block_back}
use Rattle.sound.specs.Sound.{Sound}
use Rattle.sound.specs.Question.{sound?}
use Rattle.sound.proofs.Question.{t_block, encoded-sound}
use Rattle.soundness.specs.Whole.{sound-parts, parts-sound}
use Rattle.calling.specs.Resolves.{resolved-parts}
use Rattle.svc.specs.Call.{with_objects, resolved}
use Rattle.lent.specs.Operations.{finding, out_of_handles?}
use Rattle.outcome.specs.Findings.{parts-finding, none_found}
use Rattle.units.specs.declared.ObjectId.{ObjectId}
use Rattle.types.specs.declared.refusal.Refusal.{Refusal}
use Rattle.types.specs.Refusal.{found_in}
use Rattle.objects.specs.Open.{Opens}

module _ (b : List ℕ) (s : sound? b ≡ true) (h : ℕ) where
  abbrev q : Kernel
  q = with_objects (dec_block b) (resolved (dec_block b) h).store

  -- the state with the handle's object is sound if there was room for one
  pub made-sound : (resolved (dec_block b) h).store.full ≡ false → Sound q
  made-sound e = parts-sound q (resolved-parts (dec_block b) (sound-parts (dec_block b) ((t_block b).yes s).state) h e)

  pub opened-sound : finding q ≡ 0 → Sound q
  opened-sound z =
      made-sound
      (none_found (resolved (dec_block b) h).store.full ((resolved (dec_block b) h).store.overflow or out_of_handles? (dec_block b)) (sym (parts-finding b (dec_block b).threads (resolved (dec_block b) h).store) ∙ z)).0

  pub opened-block : (e : List ℕ) (o : Result ObjectId Refusal) → Opens (dec_block b) (resolved (dec_block b) h) b e o → sound? e ≡ true
  opened-block e o p = go (eqb (found_in o) 0) refl
    where
      go : (t : Bool) → eqb (found_in o) 0 ≡ t → sound? e ≡ true
      go true f =
          let z = eqb-true (found_in o) 0 f in
          ap sound? (p.holds z).same ∙ encoded-sound q (opened-sound (sym p.found ∙ z))
      go false f = ap sound? (p.same (eqb-false (found_in o) 0 f)) ∙ s

  -- it decodes to that state
  pub opened-state : (e : List ℕ) (o : Result ObjectId Refusal) → Opens (dec_block b) (resolved (dec_block b) h) b e o → found_in o ≡ 0 → dec_block e ≡ q
  opened-state e o p z = ap dec_block (p.holds z).same ∙ block_back q (opened-sound (sym p.found ∙ z)).fits
