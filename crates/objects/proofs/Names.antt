-- Whether a handle names an object once it is open. Assumes nothing.
use Rattle.std.specs.Prelude.{Option, Some}
use mathlib.Core.Path.{◌≡◌, refl, sym, ap, ◌∙◌}
use mathlib.Core.Bool.{Bool, true, false, not}
use mathlib.Core.List.{List}
use mathlib.Core.Logic.{◌≢◌}
use Prim.Native.Nat.{ℕ}
use native.Mathlib.Decide.{ℕ_discrete}
use lib.Dec.{eqb}
use borrow.Author.Tests.{eq-eqb, ne_eqb, lt-ltb, eqb-true, eqb-false}
use Rattle.laws.specs.Logic.{◌and◌, false-true}
use Rattle.types.specs.declared.object.ObjectStore.{ObjectStore}
use Rattle.types.specs.declared.kernel.Kernel.{Kernel}
use Rattle.types.specs.Thread.{option_flag, option_value}
use Rattle.block.specs.Block.{dec_block}
use Rattle.sound.specs.Objects.{kept_at}
use Rattle.sound.specs.Question.{sound?}
use Rattle.object.specs.declared.kept.Resolved.{Resolved}
use Rattle.object.specs.Handles.{object_of}
use Rattle.object.specs.Kept.{thread_object, process_object, of_current, resolve}
use Rattle.svc.specs.Call.{resolved}
use Rattle.rows.specs.Holds.{holds}
use Rattle.rows.specs.Current.{some-thread, no-thread, current-place}
use Rattle.objects.specs.Open.{makes_current, no_room, named, Names}
use Rattle.objects.proofs.Opened.{thread-kept, process-kept, made-thread, made-process, kept_put_lem}

-- no slot free, and one is to be made
lacks : (f m : Bool) → f ≡ true → m ≡ true → f and m ≡ false → ⊥
unfolding ◌and◌
lacks f m a c e = false-true (sym e ∙ rw (a, c))

module _ (b : List ℕ) (s : sound? b ≡ true) (h : ℕ) where
  abbrev k : Kernel
  k = dec_block b

  -- ---- the current thread's
  module _ (e : h ≡ 0xFFFF8000) where
    current-is : resolved k h ≡ of_current k.objects k.current_thread
    unfolding resolve
    current-is = rw (eq-eqb h 0xFFFF8000 e)

    room-is : (t : ℕ) → k.current_thread ≡ Some t → no_room k h ≡ eqb k.objects.free 0 and eqb (kept_at k.objects t) 0
    room-is t q = rw (eq-eqb h 0xFFFF8000 e) (ap (λ (c : Option ℕ). eqb k.objects.free 0 and makes_current k.objects c) q)

    thread-some : (t : ℕ) → k.current_thread ≡ Some t → no_room k h ≡ false → kept_at (thread_object k.objects t) t ≢ 0
    thread-some t q r z = elim (ℕ_discrete (kept_at k.objects t) 0) [
      | yes w ↦
          let p : k.objects.free ≡ 0 = sym (ap (λ (y : ObjectStore). kept_at y t) (made-thread b s t w) ∙ kept_put_lem k.objects.thread_objects t k.objects.free (holds b s).sizes.ni ∙ rw (lt-ltb t 32 (current-place b s t q))) ∙ z in
          lacks _ _ (eq-eqb k.objects.free 0 p) (eq-eqb (kept_at k.objects t) 0 w) (sym (room-is t q) ∙ r)
      | no w ↦ w (ap (λ (y : ObjectStore). kept_at y t) (sym (thread-kept b s t w)) ∙ z)
    ]

    names-nobody : option_flag k.current_thread ≡ 0 → Names k h false
    names-nobody z = record {
      none = λ _. current-is ∙ ap (of_current k.objects) (no-thread k.current_thread z);
      some = λ w. false-true w;
    }

    names-current : option_flag k.current_thread ≢ 0 → Names k h true
    names-current z = record {
      none = λ w. false-true (sym w);
      some = λ _ r w. let u = some-thread k.current_thread z in thread-some (option_value k.current_thread) u r (sym (ap (λ (y : Resolved). y.object.0) (current-is ∙ ap (of_current k.objects) u)) ∙ w);
    }

    names-flag : (t : Bool) → eqb (option_flag k.current_thread) 0 ≡ t → Names k h (not t)
    names-flag true z = names-nobody (eqb-true (option_flag k.current_thread) 0 z)
    names-flag false z = names-current (eqb-false (option_flag k.current_thread) 0 z)

  module _ (e : h ≢ 0xFFFF8000) where
    -- ---- the process's
    module _ (f : h ≡ 0xFFFF8001) where
      process-is : resolved k h ≡ record { object = (process_object k.objects).process_object; store = process_object k.objects }
      unfolding resolve
      process-is = rw (ne_eqb h 0xFFFF8000 e, eq-eqb h 0xFFFF8001 f)

      process-room : no_room k h ≡ eqb k.objects.free 0 and eqb k.objects.process_object.0 0
      process-room = rw (ne_eqb h 0xFFFF8000 e, eq-eqb h 0xFFFF8001 f)

      process-some : no_room k h ≡ false → (process_object k.objects).process_object.0 ≢ 0
      process-some r z = elim (ℕ_discrete k.objects.process_object.0 0) [
        | yes w ↦
            let p : k.objects.free ≡ 0 = sym (ap (λ (y : ObjectStore). y.process_object.0) (made-process b s w)) ∙ z in
            lacks _ _ (eq-eqb k.objects.free 0 p) (eq-eqb k.objects.process_object.0 0 w) (sym process-room ∙ r)
        | no w ↦ w (ap (λ (y : ObjectStore). y.process_object.0) (sym (process-kept b s w)) ∙ z)
      ]

      names-process : Names k h true
      names-process = record {
        none = λ w. false-true (sym w);
        some = λ _ r w. process-some r (sym (ap (λ (y : Resolved). y.object.0) process-is) ∙ w);
      }

    -- ---- one of the table
    module _ (f : h ≢ 0xFFFF8001) where
      plain-is : resolved k h ≡ record { object = record { 0 = object_of k.handles h }; store = k.objects }
      unfolding resolve
      plain-is = rw (ne_eqb h 0xFFFF8000 e, ne_eqb h 0xFFFF8001 f)

      names-plain : (t : Bool) → eqb (object_of k.handles h) 0 ≡ t → Names k h (not t)
      names-plain true z = record { none = λ _. plain-is ∙ ap (λ (m : ℕ). record { object = record { 0 = m }; store = k.objects }) (eqb-true (object_of k.handles h) 0 z); some = λ w. false-true w }
      names-plain false z = record { none = λ w. false-true (sym w); some = λ _ _ w. eqb-false (object_of k.handles h) 0 z (sym (ap (λ (y : Resolved). y.object.0) plain-is) ∙ w) }

  pub names-is : Names k h (named k.current_thread k.handles h)
  names-is = elim (ℕ_discrete h 0xFFFF8000) [
    | yes e ↦ rw (eq-eqb h 0xFFFF8000 e) (names-flag e (eqb (option_flag k.current_thread) 0) refl)
    | no e ↦ elim (ℕ_discrete h 0xFFFF8001) [
      | yes f ↦ rw (ne_eqb h 0xFFFF8000 e, eq-eqb h 0xFFFF8001 f) (names-process e f)
      | no f ↦ rw (ne_eqb h 0xFFFF8000 e, ne_eqb h 0xFFFF8001 f) (names-plain e f (eqb (object_of k.handles h) 0) refl)
    ]
  ]
