-- `close_handle` and `duplicate_handle` keep a state sound.
use Rattle.std.specs.Prelude.{◌≡◌, refl, Bool, true, false, ℕ, ◌+◌, ◌<◌, eqb}
use Rattle.std.proofs.Common.{sym, ◌∙◌, inl, inr, arith}
use Rattle.std.proofs.lemmas.Bool.{eqb-false}
use Rattle.laws.specs.Logic.{pick}
use Rattle.laws.specs.Count.{count}
use Rattle.types.specs.declared.object.HandleTable.{HandleTable}
use Rattle.types.specs.declared.object.ObjectStore.{ObjectStore}
use Rattle.types.specs.declared.kernel.Kernel.{Kernel}
use Rattle.sound.specs.View.{handled}
use Rattle.sound.specs.Objects.{names, kept_names, ContentOk}
use Rattle.sound.specs.Sound.{Sound}
use Rattle.object.specs.declared.handles.Both.{Both}
use Rattle.object.specs.Handles.{create, close}
use Rattle.soundness.specs.Objects.{ObOk, ok_as, named-slot}
use Rattle.soundness.specs.Each.{each-create, each-close, content-free}
use Rattle.soundness.specs.Handles.{BothOk, create-ok, close-ok, create-chains, close-chains}
use Rattle.soundness.specs.Fits.{create-fits, close-fits}
use Rattle.soundness.specs.Fine.{add_ref-full}
use Rattle.soundness.specs.Slots.{pick-both}
use Rattle.soundness.specs.Whole.{Parts, sound-parts, parts-sound, names_of, few-names}
use Rattle.svc.specs.declared.Registers.{Registers}
use Rattle.svc.specs.declared.Served.{Served}
use Rattle.svc.specs.Call.{gives, answers, invalid_handle, with_objects, with_handles, resolved}
use Rattle.svc.specs.Handles.{close_handle, duplicate_handle}
use Rattle.calling.specs.Resolves.{resolved-parts, resolved-named}
use Rattle.calling.specs.Call.{Clear, Accepted, both-parts, listed}

-- the names, apart
module _ (k : Kernel) (p : Parts k) where
  pub apart : ObOk k.objects (λ i. count i (handled k.handles.entries) + listed k i)
  apart = ok_as _ (λ i z. omega (arith, names_of k i)) p.ob

-- ---- `close_handle`
module _ (k : Kernel) (p : Parts k) (h : ℕ) where
  close-parts : Clear (with_handles k (close k.handles k.objects h).table (close k.handles k.objects h).store)
      → Parts (with_handles k (close k.handles k.objects h).table (close k.handles k.objects h).store)
  close-parts c =
      let n : ℕ = k.thread_count in
      let b : Both = close k.handles k.objects h in
      let q : BothOk b (listed k) = close-ok k.handles k.objects h (listed k) p.table (apart k p) in
      let f = close-fits k.handles k.objects h p.table_fits p.store_fits in
      both-parts k p b.table b.store q.table f.0 c.table_full c.table_overflow
      (record {
        ob = ok_as _ (λ i z. omega (arith, names_of (with_handles k b.table b.store) i)) q.store;
        contents = each-close (ContentOk n k.threads) (content-free n k.threads) k.handles k.objects h p.contents;
        chains = close-chains n k.handles k.objects h (listed k) (apart k p) p.chains;
        fits = f.1;
        full = c.store_full;
        overflow = c.store_overflow;
      })

pub close_handle-sound : (k : Kernel) (r : Registers) → Sound k → Clear (close_handle k r).kernel → Sound (close_handle k r).kernel
unfolding close_handle
close_handle-sound k r s c = parts-sound _ (close-parts k (sound-parts k s) r.r0 c)

pub close_handle-answers : (k : Kernel) (r : Registers) → Accepted (close_handle k r).answer
unfolding close_handle
close_handle-answers k r = inl refl

-- ---- a handle more for an object with a name
module _ (k : Kernel) (p : Parts k) (o : ℕ) (z : 0 < o) (d : 0 < names k.handles k.threads o + kept_names k.objects o) where
  pub handle_parts : Clear (with_handles k (create k.handles k.objects o).table (create k.handles k.objects o).store)
      → Parts (with_handles k (create k.handles k.objects o).table (create k.handles k.objects o).store)
  handle_parts c =
      let n : ℕ = k.thread_count in
      let b : Both = create k.handles k.objects o in
      let q : BothOk b (listed k) =
      create-ok k.handles k.objects o (listed k) p.table (apart k p) z (omega (arith, d, names_of k o)) (omega (arith, few-names k p o, names_of k o)) c.table_full c.table_overflow in
      let f = create-fits k.handles k.objects o (omega (arith, named-slot k.objects (names k.handles k.threads) p.ob o z d, p.ob.ns)) p.table_fits p.store_fits in
      both-parts k p b.table b.store q.table f.0 c.table_full c.table_overflow
      (record {
        ob = ok_as _ (λ i w. omega (arith, names_of (with_handles k b.table b.store) i)) q.store;
        contents = each-create (ContentOk n k.threads) k.handles k.objects o p.contents;
        chains = create-chains n k.handles k.objects o p.chains;
        fits = f.1;
        full = c.store_full;
        overflow = c.store_overflow;
      })

pub create-full : (t : HandleTable) (s : ObjectStore) (o : ℕ) → (create t s o).store.full ≡ s.full
unfolding create
create-full t s o = add_ref-full s o

-- ---- `duplicate_handle`
module _ (k : Kernel) (p : Parts k) (h : ℕ) where
  abbrev duplicated : Bool → Served
  duplicated q =
      pick q (answers invalid_handle (with_objects k (resolved k h).store))
      (gives (with_handles k (create k.handles (resolved k h).store (resolved k h).object.0).table (create k.handles (resolved k h).store (resolved k h).object.0).store) k.handles.next.0)

  duplicate_as : (q : Bool) → eqb (resolved k h).object.0 0 ≡ q → Clear (duplicated q).kernel → Parts (duplicated q).kernel
  duplicate_as true e c = resolved-parts k p h c.store_full
  duplicate_as false e c =
      let z : 0 < (resolved k h).object.0 = let m = eqb-false (resolved k h).object.0 0 e in omega arith in
      let f : (resolved k h).store.full ≡ false = sym (create-full k.handles (resolved k h).store (resolved k h).object.0) ∙ c.store_full in
      handle_parts (with_objects k (resolved k h).store) (resolved-parts k p h f) (resolved k h).object.0 z (resolved-named k p h f z) c

pub duplicate_handle-sound : (k : Kernel) (r : Registers) → Sound k → Clear (duplicate_handle k r).kernel → Sound (duplicate_handle k r).kernel
unfolding duplicate_handle
duplicate_handle-sound k r s c = parts-sound _ (duplicate_as k (sound-parts k s) r.r1 (eqb (resolved k r.r1).object.0 0) refl c)

pub duplicate_handle-answers : (k : Kernel) (r : Registers) → Accepted (duplicate_handle k r).answer
unfolding duplicate_handle
duplicate_handle-answers k r = pick-both (λ (v : Served). Accepted v.answer) (eqb (resolved k r.r1).object.0 0) _ _ (inr (omega arith, omega arith)) (inl refl)
