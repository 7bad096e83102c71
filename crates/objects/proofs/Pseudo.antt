-- What a pseudo-handle names: the object of a thread or of the process. Assumes nothing.
use Rattle.std.specs.Prelude.{Option, Some, None, Result}
use mathlib.Core.Path.{◌≡◌, refl, sym, ap, ◌∙◌}
use mathlib.Core.Bool.{Bool, true, false}
use mathlib.Core.List.{List}
use mathlib.Core.Logic.{inl, inr}
use Prim.Native.Nat.{ℕ}
use native.Mathlib.Omega.{arith}
use lib.Dec.{eqb}
use Rattle.laws.specs.Logic.{pick, ◌or◌, lt-cases, false-true}
use Rattle.types.specs.declared.object.KObject.{KObject}
use Rattle.types.specs.declared.object.KObject.TheVariants.{Free, Semaphore}
use Rattle.types.specs.declared.sync.Semaphore as se
use Rattle.types.specs.declared.object.ObjectStore.{ObjectStore}
use Rattle.types.specs.declared.kernel.Kernel.{Kernel}
use Rattle.block.specs.Block.{dec_block, enc_block}
use Rattle.sound.specs.View.{slot_at, object_at}
use Rattle.sound.specs.Objects.{ref_of, of_none, kept_at, KeptOk, none-thread, none-process}
use Rattle.sound.specs.Question.{sound?}
use Rattle.object.specs.declared.kept.Resolved.{Resolved}
use Rattle.object.specs.Kept.{resolve, of_current, thread_object, process_object}
use Rattle.pass.specs.Asks.{pseudo}
use Rattle.svc.specs.Call.{with_objects, resolved}
use Rattle.svc.proofs.Handles.{plain}
use Rattle.rows.specs.Holds.{holds}
use Rattle.units.specs.declared.ObjectId.{ObjectId}
use Rattle.types.specs.declared.refusal.Refusal.{Refusal}
use Rattle.types.specs.Refusal.{found_in}
use Rattle.objects.specs.Open.{Opens}
use Rattle.objects.proofs.Sound.{opened-sound}

-- what holds of an object that names a thread or the process, and of none, holds of what a pseudo-handle names
module _ (P : KObject → Type 0) (none : P (Free 0)) (some : (x : KObject) → (ref_of x ≡ of_none → ⊥) → P x) where
  no-object : (s : ObjectStore) (o : ℕ) → o ≡ 0 → P (object_at s o)
  unfolding slot_at
  no-object s o e = rw e none

  of-thread : (s : ObjectStore) → KeptOk s → (t : ℕ) → P (object_at s (kept_at s t))
  of-thread s ok t = elim (lt-cases 0 (kept_at s t)) [
    | inl h ↦ some (object_at s (kept_at s t)) (λ e. none-thread t (sym e ∙ ok.thread t h))
    | inr h ↦ no-object s (kept_at s t) (omega arith)
  ]

  of-process : (s : ObjectStore) → KeptOk s → P (object_at s s.process_object.0)
  of-process s ok = elim (lt-cases 0 s.process_object.0) [
    | inl h ↦ some (object_at s s.process_object.0) (λ e. none-process (sym e ∙ ok.process h))
    | inr h ↦ no-object s s.process_object.0 (omega arith)
  ]

  object_if : (p q : Bool) (s : ObjectStore) (c : Option ℕ) (x : Resolved) → p or q ≡ true
      → KeptOk (pick p (of_current s c) (pick q (record { object = (process_object s).process_object; store = process_object s }) x)).store
      → P (object_at (pick p (of_current s c) (pick q (record { object = (process_object s).process_object; store = process_object s }) x)).store (pick p (of_current s c) (pick q (record { object = (process_object s).process_object; store = process_object s }) x)).object.0)
  unfolding ◌or◌
  object_if true q s None x e ok = no-object s 0 refl
  object_if true q s (Some t) x e ok = of-thread (thread_object s t) ok t
  object_if false true s c x e ok = of-process (process_object s) ok
  object_if false false s c x e ok = false-true e

  pub pseudo-object : (k : Kernel) (h : ℕ) → pseudo h ≡ true → KeptOk (resolved k h).store → P (object_at (resolved k h).store (resolved k h).object.0)
  unfolding resolve
  pseudo-object k h e ok = object_if (eqb h 0xFFFF8000) (eqb h 0xFFFF8001) k.objects k.current_thread _ e ok

free_other : (c : se.Semaphore) → Free 0 ≡ Semaphore c → ⊥
free_other c e = let z : ◌≡◌ {A = ℕ} 0 1 = cc in omega arith

-- a handle that names a semaphore makes no object
pub unmade : (b : List ℕ) (s : sound? b ≡ true) (h : ℕ) (e : List ℕ) (o : Result ObjectId Refusal) → Opens (dec_block b) (resolved (dec_block b) h) b e o → found_in o ≡ 0
    → (m : se.Semaphore) → object_at (resolved (dec_block b) h).store (resolved (dec_block b) h).object.0 ≡ Semaphore m → e ≡ b
unmade b s h e o p z m u = go (pseudo h) refl
  where
    go : (t : Bool) → pseudo h ≡ t → e ≡ b
    go true q = absurd (pseudo-object (λ x. x ≡ Semaphore m → ⊥) (free_other m) (λ x n w. n (ap ref_of w)) (dec_block b) h q (opened-sound b s h (sym p.found ∙ z)).kept u)
    go false q =
        let k = dec_block b in
        (p.holds z).same ∙ ap (λ (y : Resolved). enc_block (with_objects k y.store)) (plain k.current_thread k.handles k.objects h q) ∙ sym (holds b s).same
