-- A block that holds a state, with the object of a thread written into it, kept and with a handle. Assumes nothing.
use mathlib.Core.Path.{◌≡◌, refl, sym, ap, subst, ◌∙◌}
use mathlib.Core.List.{List}
use Prim.Native.Nat.{ℕ, zero, suc, ◌+◌, ◌<◌}
use native.Mathlib.Omega.{arith}
use lib.Dec.{ltb}
use lib.ListN.{get_or, set, length-map}
use lib.Seq.{set-set, get_or-set_same}
use borrow.Author.Tests.{eq-eqb}
use Rattle.laws.specs.Logic.{pick}
use Rattle.units.specs.declared.ObjectId.{ObjectId}
use Rattle.types.specs.declared.object.KObject.TheVariants.{Thread}
use Rattle.types.specs.declared.object.Slot.{Slot}
use Rattle.types.specs.declared.object.ObjectStore.{ObjectStore}
use Rattle.types.specs.declared.kernel.Kernel.{Kernel}
use Rattle.block.specs.declared.Head.{Head}
use Rattle.block.specs.Block.{head_words}
use Rattle.sound.specs.View.{ids, slot_at}
use Rattle.sound.specs.Objects.{names, kept_at}
use Rattle.sound.specs.Sound.{Sound}
use Rattle.object.specs.Slots.{with_kept, with_slots, with_refcount}
use Rattle.object.specs.Slots as object
use Rattle.object.specs.Store.{is_free, insert, add_ref}
use Rattle.object.specs.Handles.{give, create}
use Rattle.object.specs.Kept.{thread_object}
use Rattle.soundness.specs.Slots.{map-set, slot_same}
use Rattle.soundness.specs.Objects.{free-slot}
use Rattle.soundness.specs.Whole.{sound-parts}
use Rattle.svc.specs.Call.{with_handles}
use Rattle.svc.specs.Threads.{thread_handle}
use Rattle.rows.specs.Rows.{slot_put, kept_put, entry_put, head_put, slot_inserted, head_inserted, entry_given, head_given}
use Rattle.rows.specs.Holds.{Holds, put-slot, put-kept, put-entry, put-head}

put-twice : (l : List Slot) (o : ℕ) (x y : Slot) → object.slot_put (object.slot_put l o x) o y ≡ object.slot_put l o y
unfolding object.slot_put
put-twice l zero x y = refl
put-twice l (suc i) x y = set-set l i x y

pub thread_object-made : (s : ObjectStore) (t : ℕ) → kept_at s t ≡ 0 → thread_object s t ≡ with_kept (insert s (Thread t)) (set s.thread_objects t (record { 0 = s.free }))
unfolding thread_object
thread_object-made s t e = rw (eq-eqb (kept_at s t) 0 e)

module _ (k : Kernel) (h : Sound k) (t : ℕ) (l : t < 32) (e : kept_at k.objects t ≡ 0) (z : 0 < k.objects.free) where
  abbrev s : ObjectStore
  s = k.objects

  abbrev f : ℕ
  f = s.free

  -- with n names
  abbrev named : ℕ → Slot
  named n = record { object = Thread t; refcount = n; pulsed = (slot_at s.slots f).pulsed }

  abbrev keeps : ObjectStore
  keeps = with_kept (insert s (Thread t)) (set s.thread_objects t (record { 0 = f }))

  abbrev twice : ObjectStore
  twice = with_slots keeps (object.slot_put s.slots f (named 2))

  abbrev with_twice : Kernel
  with_twice = with_handles k (give k.handles f) twice

  kept-at : kept_at keeps t ≡ f
  kept-at =
      ap (λ (x : List ℕ). get_or x t 0) (map-set (λ (o : ObjectId). o.0) s.thread_objects t (record { 0 = f }))
      ∙ get_or-set_same (ids s.thread_objects) t f 0 (omega (arith, h.fits.ni, length-map s.thread_objects (λ (o : ObjectId). o.0)))

  there : slot_at (object.slot_put s.slots f (named 1)) f ≡ named 1
  there = slot_same s.slots f (named 1) z (free-slot s (names k.handles k.threads) (sound-parts k h).ob z)

  counted : add_ref keeps f ≡ twice
  unfolding add_ref insert
  counted =
      (λ i. pick (is_free (there i).object) keeps (with_slots keeps (object.slot_put (object.slot_put s.slots f (named 1)) f (with_refcount (there i) (pick (ltb (there i).refcount 4294967295) ((there i).refcount + 1) (there i).refcount)))))
      ∙ ap (λ (x : List Slot). with_slots keeps x) (put-twice s.slots f (named 1) (named 2))

  handle_is : (thread_handle k t).kernel ≡ with_twice
  unfolding create
  handle_is =
      let m = thread_object-made s t e in
      (λ i. with_handles k (give k.handles (kept_at (m i) t)) (add_ref (m i) (kept_at (m i) t)))
      ∙ (λ i. with_handles k (give k.handles (kept-at i)) (add_ref keeps (kept-at i)))
      ∙ ap (with_handles k (give k.handles f)) counted

  as_handle : (d : List ℕ) → Holds d with_twice → Holds d (thread_handle k t).kernel
  as_handle d g = subst (λ (y : Kernel). Holds d y) (sym handle_is) g

  module _ (b : List ℕ) (g : Holds b k) where
    -- what is written, with the head w of the state
    abbrev written : Head → List ℕ
    written w =
        let x = slot_at s.slots w.free in
        let o : ObjectId = record { 0 = w.free } in
        head_put (entry_put (kept_put (slot_put b w.free (slot_inserted x (Thread t) 2)) t o) w.handle_count (entry_given (head_inserted w x) o)) (head_given (head_inserted w x))

    in_tables : Holds (written (head_words k)) with_twice
    unfolding insert give
    in_tables = put-head (put-entry (put-kept (put-slot g f (named 2)) t (record { 0 = f })) k.handles.count _) with_twice refl refl refl refl refl

    pub handled : (w : Head) → w ≡ head_words k → Holds (written w) (thread_handle k t).kernel
    handled w e = rw e (as_handle _ in_tables)
