-- One holder more for each of a list of objects, slot by slot in the block. Assumes nothing.
use mathlib.Core.Path.{◌≡◌, refl, sym, ap, subst, ◌∙◌}
use mathlib.Core.Bool.{true}
use mathlib.Core.List.{List, [], ◌∷◌}
use Prim.Native.Nat.{ℕ}
use Rattle.types.specs.declared.object.Slot.{Slot}
use Rattle.types.specs.declared.kernel.Kernel.{Kernel}
use Rattle.block.specs.Block.{enc_block, dec_block}
use Rattle.block.proofs.Fits.{StateFits, block_back}
use Rattle.sound.specs.View.{slot_at}
use Rattle.sound.specs.Question.{sound?}
use Rattle.sound.proofs.Question.{t_block}
use Rattle.object.specs.Slots.{with_slots}
use Rattle.object.specs.Slots as object
use Rattle.object.specs.Store.{add_ref, add_refs}
use Rattle.object.specs.Held.{held}
use Rattle.object.proofs.Laws.{add-ref-held}
use Rattle.soundness.specs.Fits.{StoreFits, add_ref-fits}
use Rattle.svc.specs.Call.{with_objects}
use Rattle.rows.specs.Rows.{slot_put}
use Rattle.rows.specs.Holds.{Sizes, Holds, sizes-of, put-slot}

store-fits : (k : Kernel) → StateFits k → StoreFits k.objects
store-fits k f =
    let c = f.head.1.1.1.1.1.1.1.1 in
    record { slots = f.slots; free = c.0; waiters = f.waiters; free_waiter = c.1.0; ids = f.thread_objects; process = c.1.1.1.1.0 }

-- the state with one holder more of o
module _ (k : Kernel) (f : StateFits k) (o : ℕ) where
  abbrev slots : List Slot
  slots = object.slot_put k.objects.slots o (held (slot_at k.objects.slots o))

  one_more : with_objects k (with_slots k.objects slots) ≡ with_objects k (add_ref k.objects o)
  one_more = ap (with_objects k) (sym (add-ref-held k.objects o))

  one_holds : (b : List ℕ) → Holds b k → Holds (slot_put b o (held (slot_at k.objects.slots o))) (with_objects k (add_ref k.objects o))
  one_holds b g = subst (Holds (slot_put b o (held (slot_at k.objects.slots o)))) one_more (put-slot g o (held (slot_at k.objects.slots o)))

  one-fits : Sizes (with_objects k (add_ref k.objects o)) → StateFits (with_objects k (add_ref k.objects o))
  one-fits n =
      let s = rw (add-ref-held k.objects o) at (add_ref-fits k.objects (store-fits k f) o) in
      let m = rw (add-ref-held k.objects o) at n in
      subst StateFits one_more (record {
        head = f.head;
        nt = f.nt;
        threads = f.threads;
        ns = m.ns;
        slots = s.slots;
        ne = f.ne;
        entries = f.entries;
        nw = f.nw;
        waiters = f.waiters;
        ni = f.ni;
        thread_objects = f.thread_objects;
        clean = f.clean;
      })

-- from the state k on, where the objects os are to be held; those of the rest are still to come
module _ (k : Kernel) (os : List ℕ) where
  pub record Holding (b rest : List ℕ) : Type 0 where
    pub fits : StateFits (dec_block b)
    pub same : b ≡ enc_block (dec_block b)
    pub goal : with_objects (dec_block b) (add_refs (dec_block b).objects rest) ≡ with_objects k (add_refs k.objects os)

  pub hold_more : (b : List ℕ) (o : ℕ) (rest : List ℕ) → Holding b (o ∷ rest) → (x y : Slot) → x ≡ slot_at (dec_block b).objects.slots o → y ≡ held x → Holding (slot_put b o y) rest
  unfolding add_refs
  hold_more b o rest g x y ex ey =
      let q : Kernel = dec_block b in
      let n : Kernel = with_objects q (add_ref q.objects o) in
      let h : Holds (slot_put b o y) n = rw (ey, ex) (one_holds q g.fits o b (record { same = g.same; sizes = sizes-of q g.fits })) in
      let f : StateFits n = one-fits q g.fits o h.sizes in
      let e : dec_block (slot_put b o y) ≡ n = ap dec_block h.same ∙ block_back n f in
      record {
        fits = subst StateFits (sym e) f;
        same = h.same ∙ ap enc_block (sym e);
        goal = ap (λ (z : Kernel). with_objects z (add_refs z.objects rest)) e ∙ g.goal;
      }

  pub hold_end : (b : List ℕ) → Holding b [] → Holds b (with_objects k (add_refs k.objects os))
  unfolding add_refs
  hold_end b g = subst (Holds b) g.goal (record { same = g.same; sizes = sizes-of (dec_block b) g.fits })

pub hold_none : (b : List ℕ) → sound? b ≡ true → (os : List ℕ) → Holding (dec_block b) os b os
hold_none b s os = let t = (t_block b).yes s in record { fits = t.state.fits; same = t.canonical; goal = refl }
