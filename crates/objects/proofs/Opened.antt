-- Opening a handle: nothing made, an object made. Assumes nothing.
use Rattle.std.specs.Prelude.{Some, Result, Ok, Err}
use mathlib.Core.Path.{◌≡◌, refl, sym, ap, ◌∙◌}
use mathlib.Core.Bool.{true}
use mathlib.Core.List.{List}
use mathlib.Core.Logic.{◌≢◌, inl, inr}
use Prim.Native.Nat.{ℕ, ◌≤◌}
use native.Mathlib.Omega.{arith}
use lib.Dec.{ltb}
use lib.ListN.{length, get_or, set, length-map, get_or-map, get_or-eq_default}
use lib.Seq.{set_out, get_or-set_same}
use borrow.Author.Tests.{eq-eqb, ne_eqb, lt-ltb, le-ltb}
use Rattle.laws.specs.Logic.{pick, ◌or◌, lt-cases}
use Rattle.units.specs.declared.ObjectId.{ObjectId}
use Rattle.types.specs.declared.object.KObject.{KObject}
use Rattle.types.specs.declared.object.KObject.TheVariants.{Thread, Process}
use Rattle.types.specs.declared.object.ObjectStore.{ObjectStore}
use Rattle.types.specs.declared.kernel.Kernel.{Kernel}
use Rattle.block.specs.Block.{dec_block}
use Rattle.sound.specs.View.{ids}
use Rattle.sound.specs.Objects.{kept_at}
use Rattle.sound.specs.Question.{sound?}
use Rattle.object.specs.declared.kept.Resolved.{Resolved}
use Rattle.object.specs.Slots.{with_kept, with_process}
use Rattle.object.specs.Store.{insert}
use Rattle.object.specs.Kept.{thread_object, process_object, of_current}
use Rattle.svc.specs.Call.{with_objects}
use Rattle.lent.specs.Operations.{finding, out_of_handles?}
use Rattle.outcome.specs.Findings.{found_of, found-room, found-finding, parts-finding}
use Rattle.rows.specs.Rows.{kept_put}
use Rattle.rows.specs.Holds.{Holds, holds, put-kept}
use Rattle.types.specs.declared.refusal.Refusal.{Refusal}
use Rattle.types.specs.Refusal.{refusal-some, found_in, unless_found}
use Rattle.objects.specs.Open.{Opens, object_in, of_process, found_making}

-- an object kept for the thread t
pub kept_put_lem : (l : List ObjectId) (t o : ℕ) → length l ≡ 32 → get_or (ids (set l t (record { 0 = o }))) t 0 ≡ pick (ltb t 32) o 0
kept_put_lem l t o n = elim (lt-cases t 32) [
  | inl h ↦ rw (lt-ltb t 32 h) (get_or-map (λ (x : ObjectId). x.0) (set l t (record { 0 = o })) t (record { 0 = 0 }) ∙ ap (λ (x : ObjectId). x.0) (get_or-set_same l t (record { 0 = o }) (record { 0 = 0 }) (omega (arith, n))))
  | inr h ↦
      let g : length (ids l) ≤ t = simp length-map (omega (arith, n)) in
      rw (le-ltb t 32 h, set_out l t (record { 0 = o }) (omega (arith, n))) (get_or-eq_default (ids l) 0 g)
]

module _ (b : List ℕ) (s : sound? b ≡ true) where
  abbrev k : Kernel
  k = dec_block b

  -- ---- nothing is made
  pub opens_same : (x : Resolved) (o : Result ObjectId Refusal) (i : ObjectId) → x.store ≡ k.objects → i.0 ≡ x.object.0 → o ≡ unless_found (finding k) i → Opens k x b b o
  opens_same x o i e p f =
      let g : found_in o ≡ finding k = ap found_in f ∙ found-finding k i in record {
        found = g ∙ ap (λ (y : ObjectStore). finding (with_objects k y)) (sym e);
        same = λ z. refl;
        holds = λ z. rw e (holds b s);
        object = λ z. ap object_in (f ∙ ap (λ (n : ℕ). unless_found n i) (sym g ∙ z)) ∙ p;
      }

  pub thread-kept : (t : ℕ) → kept_at k.objects t ≢ 0 → thread_object k.objects t ≡ k.objects
  unfolding thread_object
  thread-kept t z = rw (ne_eqb (kept_at k.objects t) 0 z)

  pub process-kept : k.objects.process_object.0 ≢ 0 → process_object k.objects ≡ k.objects
  unfolding process_object
  process-kept z = rw (ne_eqb k.objects.process_object.0 0 z)

  -- ---- an object is made
  pub made-thread : (t : ℕ) → kept_at k.objects t ≡ 0
      → thread_object k.objects t ≡ with_kept (insert k.objects (Thread t)) (set k.objects.thread_objects t (record { 0 = k.objects.free }))
  unfolding thread_object
  made-thread t e = rw (eq-eqb (kept_at k.objects t) 0 e)

  pub made-process : k.objects.process_object.0 ≡ 0 → process_object k.objects ≡ with_process (insert k.objects Process) (record { 0 = k.objects.free })
  unfolding process_object
  made-process e = rw (eq-eqb k.objects.process_object.0 0 e)

  making : (y : ObjectStore) (v : KObject) → y.full ≡ (insert k.objects v).full → y.overflow ≡ (insert k.objects v).overflow → finding (with_objects k y) ≡ found_making k
  unfolding insert dec_block ◌or◌
  making y v e f = parts-finding b k.threads y ∙ (λ i. found_of (e i) (f i or out_of_handles? k))

  pub thread-finding : (t : ℕ) → kept_at k.objects t ≡ 0 → finding (with_objects k (thread_object k.objects t)) ≡ found_making k
  thread-finding t e = ap (λ (y : ObjectStore). finding (with_objects k y)) (made-thread t e) ∙ making _ (Thread t) refl refl

  pub process-finding : k.objects.process_object.0 ≡ 0 → finding (with_objects k (process_object k.objects)) ≡ found_making k
  process-finding e = ap (λ (y : ObjectStore). finding (with_objects k y)) (made-process e) ∙ making _ Process refl refl

  -- there was no room
  pub opens_refused : (x : Resolved) (r : Refusal) → unless_found {A = Unit {0}} (found_making k) tt ≡ Err r → finding (with_objects k x.store) ≡ found_making k → Opens k x b b (Err r)
  opens_refused x r q e = record {
    found = sym (ap found_in q) ∙ found-room {A = Unit {0}} _ _ tt ∙ sym e;
    same = λ w. refl;
    holds = λ w. absurd (refusal-some r w);
    object = λ w. absurd (refusal-some r w);
  }

  pub opens_process : (e : List ℕ) (i : ObjectId) → k.objects.process_object.0 ≡ 0 → i.0 ≡ k.objects.free → found_making k ≡ 0
      → Holds e (with_objects k (with_process (insert k.objects Process) (record { 0 = k.objects.free }))) → Opens k (of_process k.objects) b e (Ok i)
  opens_process e i p q g h = record {
    found = sym (process-finding p ∙ g);
    same = λ z. absurd (z refl);
    holds = λ z. rw (made-process p) h;
    object = λ z. q ∙ ap (λ (y : ObjectStore). y.process_object.0) (sym (made-process p));
  }

  pub opens_thread : (t : ℕ) (m : List ℕ) (i : ObjectId) → kept_at k.objects t ≡ 0 → i.0 ≡ pick (ltb t 32) k.objects.free 0 → found_making k ≡ 0
      → Holds m (with_objects k (with_process (insert k.objects (Thread t)) k.objects.process_object))
      → Opens k (of_current k.objects (Some t)) b (kept_put m t (record { 0 = k.objects.free })) (Ok i)
  unfolding insert
  opens_thread t m i p q g h = record {
    found = sym (thread-finding t p ∙ g);
    same = λ z. absurd (z refl);
    holds = λ z. rw (made-thread t p) (put-kept h t (record { 0 = k.objects.free }));
    object = λ z. q ∙ sym (ap (λ (y : ObjectStore). kept_at y t) (made-thread t p) ∙ kept_put_lem k.objects.thread_objects t k.objects.free (holds b s).sizes.ni);
  }
