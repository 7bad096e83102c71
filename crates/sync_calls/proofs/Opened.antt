-- What a call goes on with once its handle h is open: o is its object, e the block. Assumes nothing.
use Rattle.std.specs.Prelude.{Result, Ok}
use Rattle.std.proofs.Common.{◌≡◌, List, ℕ, true, sym, ap, ◌∙◌}
use mathlib.Core.Logic.{◌≢◌}
use lib.Dec.{eqb}
use borrow.Author.Tests.{eq-eqb, ne_eqb}
use Rattle.laws.specs.Logic.{pick}
use Rattle.units.specs.declared.ObjectId.{ObjectId}
use Rattle.types.specs.declared.object.Slot.{Slot}
use Rattle.types.specs.declared.refusal.Refusal.{Refusal}
use Rattle.types.specs.Refusal.{found_in}
use Rattle.block.specs.Block.{dec_block}
use Rattle.sound.specs.View.{slot_at, object_at}
use Rattle.sound.specs.Question.{sound?}
use Rattle.types.specs.declared.kernel.Kernel.{Kernel}
use Rattle.svc.specs.declared.Served.{Served}
use Rattle.svc.specs.Call.{answers, with_objects, resolved}
use Rattle.lent.specs.Operations.{finding}
use Rattle.objects.specs.Open.{Opens, object_in}
use Rattle.objects.proofs.Calls.{accepted-call}
use Rattle.objects.proofs.Sound.{opened-state}
use Rattle.rows.specs.Holds.{Holds}
use Rattle.outcome.specs.declared.Outcome.{Outcome}
use Rattle.outcome.specs.Outcome.{outcome, left, accepted}

module _ (b : List ℕ) (s : sound? b ≡ true) (h : ℕ) (e : List ℕ) (r : Result ObjectId Refusal) (p : Opens (dec_block b) (resolved (dec_block b) h) b e r)
    (o : ObjectId) (q : r ≡ Ok o) where
  pub opened-is : dec_block e ≡ with_objects (dec_block b) (resolved (dec_block b) h).store
  opened-is = opened-state b s h e r p (ap found_in q)

  pub opened-nothing : finding (dec_block e) ≡ 0
  opened-nothing = ap finding opened-is ∙ sym p.found ∙ ap found_in q

  pub opened-object : o.0 ≡ (resolved (dec_block b) h).object.0
  opened-object = sym (ap object_in q) ∙ p.object (ap found_in q)

  pub opened-content : (x : Slot) → x ≡ slot_at (dec_block e).objects.slots o.0 → x.object ≡ object_at (resolved (dec_block b) h).store (resolved (dec_block b) h).object.0
  opened-content x f = ap (λ (x : Slot). x.object) f ∙ (λ i. object_at (opened-is i).objects (opened-object i))

  abbrev opened : Kernel
  opened = with_objects (dec_block b) (resolved (dec_block b) h).store

  -- the call v, which goes on by f, and finds what opening the handle found
  module _ (f : Kernel → ℕ → Served) (v : Served) (n : finding v.kernel ≡ finding opened)
      (u : pick (eqb (resolved (dec_block b) h).object.0 0) (answers 16 opened)
      (f opened (resolved (dec_block b) h).object.0) ≡ v)
      (a : Outcome) where
    pub opened-unknown : o.0 ≡ 0 → a ≡ accepted (answers 16 opened) → (Ok a ≡ outcome v) × (e ≡ left v b)
    opened-unknown z g =
        let w : answers 16 opened ≡ v = rw (eq-eqb _ 0 (sym opened-object ∙ z)) at u in
        accepted-call b h e r p v n (ap found_in q) _ w a g e (p.holds (ap found_in q))

    pub opened-known : o.0 ≢ 0 → a ≡ accepted (f (dec_block e) o.0) → (d : List ℕ)
        → Holds d (f (dec_block e) o.0).kernel → (Ok a ≡ outcome v) × (d ≡ left v b)
    opened-known z g d m =
        let w : f opened (resolved (dec_block b) h).object.0 ≡ v = rw (ne_eqb _ 0 (λ y. z (opened-object ∙ y))) at u in
        accepted-call b h e r p v n (ap found_in q) _ ((λ i. f (opened-is i) (opened-object i)) ∙ w) a g d m
