-- A call that opens its handle and goes on from there, by f. Assumes nothing.
use Rattle.std.specs.Prelude.{Result, Ok}
use mathlib.Core.Path.{◌≡◌, refl, sym, ap, ◌∙◌}
use mathlib.Core.Bool.{true}
use mathlib.Core.List.{List}
use mathlib.Core.Logic.{◌≢◌}
use Prim.Native.Nat.{ℕ}
use lib.Dec.{eqb}
use borrow.Author.Tests.{eq-eqb, ne_eqb}
use Rattle.units.specs.declared.ObjectId.{ObjectId}
use Rattle.types.specs.declared.refusal.Refusal.{Refusal}
use Rattle.types.specs.Refusal.{found_in}
use Rattle.types.specs.declared.kernel.Kernel.{Kernel}
use Rattle.block.specs.Block.{dec_block}
use Rattle.sound.specs.Question.{sound?}
use Rattle.object.specs.declared.kept.Resolved.{Resolved}
use Rattle.svc.specs.declared.Served.{Served}
use Rattle.svc.specs.Call.{answers, with_objects, resolved}
use Rattle.lent.specs.Operations.{finding}
use Rattle.rows.specs.Holds.{Holds}
use Rattle.outcome.specs.declared.Outcome.{Outcome}
use Rattle.outcome.specs.Outcome.{answered, accepted, outcome, left}
use Rattle.outcome.specs.Findings.{pick-finding}
use Rattle.objects.specs.Open.{Opens, object_in}
use Rattle.objects.proofs.Sound.{opened-state}
use Rattle.objects.proofs.Calls.{accepted-call}
use Rattle.arbiter_calls.specs.Kinds.{on_handle}

module _ (k : Kernel) (h : ℕ) (f : Kernel → ℕ → Served) where
  abbrev x : Resolved
  x = resolved k h

  abbrev opened : Kernel
  opened = with_objects k x.store

  pub unknown-is : x.object.0 ≡ 0 → answers 16 opened ≡ on_handle k h f
  unfolding on_handle
  unknown-is e = rw (eq-eqb x.object.0 0 e)

  pub known_is : x.object.0 ≢ 0 → f opened x.object.0 ≡ on_handle k h f
  unfolding on_handle
  known_is e = rw (ne_eqb x.object.0 0 e)

  -- where f finds nothing more
  pub handle_finding : ((q : Kernel) (o : ℕ) → finding (f q o).kernel ≡ finding q) → finding (on_handle k h f).kernel ≡ finding opened
  unfolding on_handle
  handle_finding g = pick-finding (eqb x.object.0 0) (finding opened) (answers 16 opened) (f opened x.object.0) refl (g opened x.object.0)

-- the handle opened the object i; e is the block then
module _ (b : List ℕ) (s : sound? b ≡ true) (h : ℕ) (f : Kernel → ℕ → Served) (e : List ℕ) (o : Result ObjectId Refusal) (p : Opens (dec_block b) (resolved (dec_block b) h) b e o) (i : ObjectId) (q : o ≡ Ok i)
    (g : finding (on_handle (dec_block b) h f).kernel ≡ finding (with_objects (dec_block b) (resolved (dec_block b) h).store)) where
  abbrev call : Served
  call = on_handle (dec_block b) h f

  none : found_in o ≡ 0
  none = ap found_in q

  object-is : i.0 ≡ (resolved (dec_block b) h).object.0
  object-is = sym (ap object_in q) ∙ p.object none

  pub not_known : i.0 ≡ 0 → (a : Outcome) → a ≡ answered 16 → (Ok a ≡ outcome call) × (e ≡ left call b)
  not_known w a u = accepted-call b h e o p call g none (answers 16 (with_objects (dec_block b) (resolved (dec_block b) h).store)) (unknown-is (dec_block b) h f (sym object-is ∙ w)) a u e (p.holds none)

  pub known : i.0 ≢ 0 → (a : Outcome) → a ≡ accepted (f (dec_block e) i.0) → (d : List ℕ) → Holds d (f (dec_block e) i.0).kernel → (Ok a ≡ outcome call) × (d ≡ left call b)
  known w a u d r =
      accepted-call b h e o p call g none (f (dec_block e) i.0)
      ((λ j. f (opened-state b s h e o p none j) (object-is j)) ∙ known_is (dec_block b) h f (λ v. w (object-is ∙ v))) a u d r
