-- A block in which the thread that a place had is forgotten. Assumes nothing.
use Rattle.std.proofs.lemmas.Grind.{common_steps}
use mathlib.Core.Path.{◌≡◌, refl, sym, ap, subst, ◌∙◌}
use mathlib.Core.Logic.{◌≢◌}
use mathlib.Core.Bool.{false, not}
use mathlib.Core.List.{List, ◌∷◌}
use Prim.Native.Nat.{ℕ, suc, ◌+◌, ◌-◌, ◌≤◌, ◌<◌}
use native.Mathlib.Numerals.{add-one}
use native.Mathlib.Omega.{arith}
use lib.Dec.{eqb}
use lib.ListN.{length, get_or, set, drop}
use lib.Seq.{drop-cons, drop-set-lt}
use borrow.Author.Tests.{eq-eqb, ne_eqb}
use Rattle.laws.specs.Walk.{walk}
use Rattle.codec.specs.Bytes.{over}
use Rattle.codec.specs.Layout.{enc_all}
use Rattle.types.specs.declared.object.Slot.{Slot}
use Rattle.types.specs.declared.object.Waiter.{Waiter}
use Rattle.types.specs.declared.object.ObjectStore.{ObjectStore}
use Rattle.types.specs.declared.kernel.Kernel.{Kernel}
use Rattle.types.specs.Object.{head_of}
use Rattle.block.specs.declared.Head.{Head}
use Rattle.block.specs.Table.{enc_waiter}
use Rattle.block.specs.Block.{head_at, head_words, dec_block}
use Rattle.sound.specs.View.{no_slot, waiter_nexts}
use Rattle.sound.specs.Objects.{kept_at}
use Rattle.object.specs.Slots.{with_object}
use Rattle.object.specs.Store.{release}
use Rattle.object.specs.declared.waiters.Links.{Links}
use Rattle.object.specs.Waiters.{waiter_at, with_head, unlink, drop_thread}
use Rattle.object.proofs.Laws.{with_records, drop_head, drop-none, drop-end}
use Rattle.soundness.specs.Fits.{StoreFits, drop_thread-fits, unkept-fits}
use Rattle.soundness.specs.Kept.{unkept}
use Rattle.thread.specs.Threads.{with_threads, let_go}
use Rattle.rows.specs.Rows.{slot_put, kept_put, head_put}
use Rattle.rows.specs.Holds.{Holds, put-kept, put-waiters, put-head}
use Rattle.rows.specs.Slots.{before, slotted, put_holds, SlotsFrom, from_next, from-put}
use Rattle.release.specs.Encoded.{Encoded, sound-encoded, encoded-holds, encoded-head}
use Rattle.release.specs.Encoded.{held-state, held-encoded, store-fits, stored_fits}

-- the state k with other objects
abbrev with : Kernel → ObjectStore → Kernel
with k s = with_threads k k.threads s

-- ---- the kept object
module _ (b : List ℕ) (en : Encoded b) (t : ℕ) where
  abbrev k : Kernel
  k = dec_block b

  pub none_kept : kept_at k.objects t ≡ 0 → k ≡ with k (let_go k.objects t)
  none_kept e = rw (eq-eqb (kept_at k.objects t) 0 e)

  pub unkept_in : (dec_block (kept_put b t (record { 0 = 0 })) ≡ with k (unkept k.objects t)) × Encoded (kept_put b t (record { 0 = 0 }))
  unkept_in =
      let h = put-kept (encoded-holds b en) t (record { 0 = 0 }) in
      let f = stored_fits k en.fits (unkept k.objects t) (unkept-fits k.objects t (store-fits k en.fits)) h.sizes en.fits.clean.2 en.fits.clean.3 in
      (held-state _ _ h f, held-encoded _ _ h f)

  -- x is the block without the object's number, y that with the object let go
  pub kept-gone : (o : ℕ) → o ≡ kept_at k.objects t → o ≢ 0 → (x y : List ℕ) → dec_block x ≡ with k (unkept k.objects t) → dec_block y ≡ with (dec_block x) (release (dec_block x).objects o)
      → dec_block y ≡ with k (let_go k.objects t)
  kept-gone o e z x y dx dy =
      let n : eqb (kept_at k.objects t) 0 ≡ false = ne_eqb (kept_at k.objects t) 0 (λ w. z (e ∙ w)) in
      dy ∙ ap (λ (v : Kernel). with v (release v.objects o)) dx ∙ rw (n, e)

-- ---- the records
-- two rows that go on alike
row_same : (l m : List Slot) (i : ℕ) → i < length l → i < length m → drop i l ≡ drop i m → (get_or l i no_slot ≡ get_or m i no_slot) × (drop (i + 1) l ≡ drop (i + 1) m)
row_same l m i h j e =
    let p : get_or l i no_slot ∷ drop (suc i) l ≡ get_or m i no_slot ∷ drop (suc i) m = sym (drop-cons l i no_slot h) ∙ e ∙ drop-cons m i no_slot j in
    (ap (λ (z : List Slot). get_or z 0 no_slot) p, rw (add-one i) (ap (drop 1) p))

-- s is the block before; the slots of the first i objects are done, with the records ws and the first free one
module _ (s : List ℕ) (t : ℕ) where
  pub record DropTo (i : ℕ) (b : List ℕ) (ws : List Waiter) (free : ℕ) : Type 0 where
    pub rows : SlotsFrom s i b
    pub slots : List Slot
    pub holds : Holds b (slotted s slots)
    pub same : drop i slots ≡ drop i (before s)
    pub goal : drop_thread (128 - i) (i + 1) t (with_records (dec_block s).objects slots ws free) ≡ drop_thread 128 1 t (dec_block s).objects

  pub drop-start : length s ≡ 16384 → Encoded s → (ws : List Waiter) → ws ≡ (dec_block s).objects.waiters → DropTo 0 s ws (dec_block s).objects.free_waiter
  drop-start n en ws e = record {
    rows = record { long = n; rest = refl };
    slots = before s;
    holds = encoded-holds s en;
    same = refl;
    goal = ap (λ (z : List Waiter). drop_thread 128 1 t (with_records (dec_block s).objects (before s) z (dec_block s).objects.free_waiter)) e;
  }

  module _ (i : ℕ) (b : List ℕ) (ws : List Waiter) (free : ℕ) (h : i < 128) (g : DropTo i b ws free) (en : Encoded s) where
    rows_are : (get_or g.slots i no_slot ≡ get_or (before s) i no_slot) × (drop (i + 1) g.slots ≡ drop (i + 1) (before s))
    rows_are = row_same g.slots (before s) i (omega (arith, g.holds.sizes.ns)) (omega (arith, en.fits.ns)) g.same

    -- an object without records
    pub drop-next : head_of (get_or (before s) i no_slot).object ≡ 0 → DropTo (i + 1) b ws free
    drop-next e = record {
      rows = from_next s i b h g.rows;
      slots = g.slots;
      holds = g.holds;
      same = rows_are.1;
      goal = drop-none (dec_block s).objects g.slots ws free t i h (ap (λ (x : Slot). head_of x.object) rows_are.0 ∙ e) ∙ g.goal;
    }

    pub drop_more : (u : Links) → u ≡ unlink (λ x. not (eqb (waiter_at ws x).thread t)) ws free (walk (waiter_nexts ws) 64 (head_of (get_or (before s) i no_slot).object))
        → (x : Slot) → x ≡ with_object (get_or (before s) i no_slot) (with_head (get_or (before s) i no_slot).object u.head) → DropTo (i + 1) (slot_put b (i + 1) x) u.waiters u.free
    drop_more u eu x ex =
        let r = rows_are.0 in
        let y : x ≡ with_object (get_or g.slots i no_slot) (with_head (get_or g.slots i no_slot).object u.head) = ex ∙ ap (λ (z : Slot). with_object z (with_head z.object u.head)) (sym r) in
        let v : u ≡ unlink (λ x. not (eqb (waiter_at ws x).thread t)) ws free (walk (waiter_nexts ws) 64 (head_of (get_or g.slots i no_slot).object)) = eu ∙ ap (λ (z : Slot). unlink (λ x. not (eqb (waiter_at ws x).thread t)) ws free (walk (waiter_nexts ws) 64 (head_of z.object))) (sym r) in
        record {
          rows = from-put s i b h g.rows x;
          slots = set g.slots i x;
          holds = subst (λ (n : ℕ). Holds (slot_put b n x) (slotted s (set g.slots i x))) (sym (add-one i)) (put_holds s b g.slots i x g.holds);
          same = drop-set-lt (i + 1) g.slots i x (omega arith) ∙ rows_are.1;
          goal = rw y (drop_head (dec_block s).objects g.slots ws free t i h u v) ∙ g.goal;
        }

  -- e is the block after the slots, w the records
  pub dropped : (i : ℕ) (e : List ℕ) (ws : List Waiter) (free : ℕ) → 128 ≤ i → DropTo i e ws free → Encoded s → length ws ≡ 64 → (h : Head) → h ≡ head_at s
      → let x = head_put (over e 12416 (enc_all enc_waiter ws)) (record h { free_waiter = free }) in
      (dec_block x ≡ with (dec_block s) (drop_thread 128 1 t (dec_block s).objects)) × Encoded x
  dropped i e ws free l g en n h eh =
      let k = dec_block s in
      let q = with_records k.objects g.slots ws free in
      let d : q ≡ drop_thread 128 1 t k.objects = sym (drop-end q t i l) ∙ g.goal in
      let w : h ≡ head_words k = eh ∙ encoded-head s en in
      let a = put-head (put-waiters g.holds ws n) (with k q) refl refl refl refl refl in
      let f = stored_fits k en.fits q (subst StoreFits (sym d) (drop_thread-fits 128 1 t k.objects (store-fits k en.fits))) a.sizes en.fits.clean.2 en.fits.clean.3 in
      rw w (held-state _ _ a f ∙ ap (with k) d, held-encoded _ _ a f)

pub ruleset forgets = (common_steps, sound-encoded, none_kept, unkept_in, kept-gone)
