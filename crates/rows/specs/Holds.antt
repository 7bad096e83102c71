-- What a block holds, after one record of it, a table or its head is written anew. Assumes nothing.
use Rattle.std.specs.Prelude.{◌≡◌, Bool, true, false, ◌⊎◌, set, replicate}
use Rattle.std.proofs.Math.Path.{refl, sym, ap}
use Rattle.std.proofs.Common.{◌∙◌, length-append, lt-ltb, le-ltb}
use mathlib.Core.List.{List, [], ◌++◌, append_assoc}
use Rattle.std.proofs.Math.Logic.{inl, inr}
use Prim.Native.Nat.{ℕ, zero, suc, ◌+◌, ◌*◌}
use native.Mathlib.Omega.{arith}
use Rattle.std.proofs.Math.ListN.{length, length-set}
use Rattle.std.proofs.Math.Seq.{set_out}
use Rattle.laws.specs.Logic.{lt-cases}
use Rattle.codec.specs.Bytes.{over}
use Rattle.codec.specs.Layout.{enc_all}
use Rattle.units.specs.declared.ObjectId.{ObjectId}
use Rattle.types.specs.declared.thread.Thread.{Thread}
use Rattle.types.specs.declared.object.Slot.{Slot}
use Rattle.types.specs.declared.object.HandleEntry.{HandleEntry}
use Rattle.types.specs.declared.object.HandleTable.{HandleTable}
use Rattle.types.specs.declared.object.Waiter.{Waiter}
use Rattle.types.specs.declared.object.ObjectStore.{ObjectStore}
use Rattle.types.specs.declared.kernel.Kernel.{Kernel}
use Rattle.block.specs.Table.{enc_entry, enc_waiter, enc_id}
use Rattle.block.specs.Thread.{enc_thread}
use Rattle.block.specs.Slot.{enc_slot}
use Rattle.block.specs.Block.{head_words, enc_head, enc_block, dec_block}
use Rattle.block.proofs.Row.{length-all}
use Rattle.block.proofs.Sizes.{length-enc_head, length-enc_thread, length-enc_slot, length-enc_entry, length-enc_waiter, length-enc_id}
use Rattle.block.proofs.Fits.{StateFits}
use Rattle.sound.specs.Question.{sound?}
use Rattle.sound.proofs.Question.{t_block}
use Rattle.tally.specs.Place.{is_slot, slot_index, slot-some, slot-past, index-slot}
use Rattle.object.specs.Slots.{with_slots, with_kept}
use Rattle.object.specs.Slots as object
use Rattle.thread.specs.Threads.{with_threads}
use Rattle.rows.specs.Rows.{thread_put, slot_put, entry_put, kept_put, head_put}
use Rattle.rows.specs.Over.{over-at, replace}

pub record Sizes (k : Kernel) : Type 0 where
  pub nt : length k.threads ≡ 32
  pub ns : length k.objects.slots ≡ 128
  pub ne : length k.handles.entries ≡ 256
  pub nw : length k.objects.waiters ≡ 64
  pub ni : length k.objects.thread_objects ≡ 32

-- the block b is the encoding of the state k
pub record Holds (b : List ℕ) (k : Kernel) : Type 0 where
  pub same : b ≡ enc_block k
  pub sizes : Sizes k

abbrev pub with_table : Kernel → HandleTable → Kernel
with_table k t = record {
  status_word = k.status_word;
  objects = k.objects;
  handles = t;
  threads = k.threads;
  thread_count = k.thread_count;
  current_thread = k.current_thread;
  next_tls_slot = k.next_tls_slot;
  next_guest_id = k.next_guest_id;
  all_blocked = k.all_blocked;
  relief = k.relief;
  full = k.full;
  overflow = k.overflow;
}

abbrev pub with_entries : HandleTable → List HandleEntry → HandleTable
with_entries t es = record { entries = es; count = t.count; next = t.next; full = t.full; overflow = t.overflow }

abbrev pub with_waiters : ObjectStore → List Waiter → ObjectStore
with_waiters s ws = record { slots = s.slots; free = s.free; waiters = ws; free_waiter = s.free_waiter; thread_objects = s.thread_objects; process_object = s.process_object; full = s.full; overflow = s.overflow }

pub sizes-of : (k : Kernel) → StateFits k → Sizes k
sizes-of k f = record { nt = f.nt; ns = f.ns; ne = f.ne; nw = f.nw; ni = f.ni }

-- a sound block is the encoding of what it decodes to
pub holds : (b : List ℕ) → sound? b ≡ true → Holds b (dec_block b)
holds b e = let s = (t_block b).yes e in record { same = s.canonical; sizes = sizes-of _ s.state.fits }

-- ---- the parts of an encoding
abbrev H : Kernel → List ℕ
H k = enc_head (head_words k)

abbrev X1 : Kernel → List ℕ
X1 k = enc_all enc_thread k.threads

abbrev X2 : Kernel → List ℕ
X2 k = enc_all enc_slot k.objects.slots

abbrev X3 : Kernel → List ℕ
X3 k = enc_all enc_entry k.handles.entries

abbrev X4 : Kernel → List ℕ
X4 k = enc_all enc_waiter k.objects.waiters

abbrev X5 : Kernel → List ℕ
X5 k = enc_all enc_id k.objects.thread_objects

abbrev Z : List ℕ
Z = replicate 3072 0

-- what stands before each table
module _ (k : Kernel) (n : Sizes k) where
  len-1 : length (H k ++ X1 k) ≡ 5248
  len-1 = rw (length-append, length-enc_head (head_words k), length-all enc_thread 160 length-enc_thread 32 k.threads n.nt)

  len-2 : length ((H k ++ X1 k) ++ X2 k) ≡ 10368
  len-2 = length-append (H k ++ X1 k) (X2 k) ∙ (λ i. len-1 i + length-all enc_slot 40 length-enc_slot 128 k.objects.slots n.ns i)

  len-3 : length (((H k ++ X1 k) ++ X2 k) ++ X3 k) ≡ 12416
  len-3 = length-append ((H k ++ X1 k) ++ X2 k) (X3 k) ∙ (λ i. len-2 i + length-all enc_entry 8 length-enc_entry 256 k.handles.entries n.ne i)

  len-4 : length ((((H k ++ X1 k) ++ X2 k) ++ X3 k) ++ X4 k) ≡ 13184
  len-4 = length-append (((H k ++ X1 k) ++ X2 k) ++ X3 k) (X4 k) ∙ (λ i. len-3 i + length-all enc_waiter 12 length-enc_waiter 64 k.objects.waiters n.nw i)

-- an encoding, with what stands before a table together
apart-3 : (k : Kernel) (y : List ℕ) → H k ++ (X1 k ++ (X2 k ++ (X3 k ++ y))) ≡ (((H k ++ X1 k) ++ X2 k) ++ X3 k) ++ y
apart-3 k y = simp append_assoc

apart-4 : (k : Kernel) (y : List ℕ) → H k ++ (X1 k ++ (X2 k ++ (X3 k ++ (X4 k ++ y)))) ≡ ((((H k ++ X1 k) ++ X2 k) ++ X3 k) ++ X4 k) ++ y
apart-4 k y = simp append_assoc

bool_cases : (t : Bool) → (t ≡ true) ⊎ (t ≡ false)
bool_cases true = inl refl
bool_cases false = inr refl

module _ {b : List ℕ} {k : Kernel} (g : Holds b k) where
  -- ---- one record of a table
  pub put-thread : (i : ℕ) (x : Thread) → Holds (thread_put b i x) (with_threads k (set k.threads i x) k.objects)
  unfolding thread_put enc_block
  put-thread i x = record {
    same = elim (lt-cases i 32) [
      | inl h ↦ rw (lt-ltb i 32 h, g.same) (replace enc_thread 160 length-enc_thread (H k) (X2 k ++ (X3 k ++ (X4 k ++ (X5 k ++ Z)))) 128 k.threads i x (length-enc_head (head_words k)) (omega (arith, g.sizes.nt)))
      | inr h ↦ rw (le-ltb i 32 h, set_out k.threads i x (omega (arith, g.sizes.nt))) g.same
    ];
    sizes = record { nt = length-set k.threads i x ∙ g.sizes.nt; ns = g.sizes.ns; ne = g.sizes.ne; nw = g.sizes.nw; ni = g.sizes.ni };
  }

  -- the slot before the number in the list
  slot-in : (o : ℕ) (x : Slot) → is_slot o ≡ true → object.slot_put k.objects.slots o x ≡ set k.objects.slots (slot_index o) x
  unfolding object.slot_put
  slot-in zero x e = absurd (omega (arith, slot-some zero e))
  slot-in (suc i) x e = let j : slot_index (suc i) ≡ i = index-slot (suc i) e ∙ omega arith in rw j

  slot-out : (o : ℕ) (x : Slot) → is_slot o ≡ false → object.slot_put k.objects.slots o x ≡ k.objects.slots
  unfolding object.slot_put
  slot-out zero x e = refl
  slot-out (suc i) x e = set_out k.objects.slots i x (omega (arith, g.sizes.ns, slot-past (suc i) e (omega arith)))

  size-slots : (o : ℕ) (x : Slot) → length (object.slot_put k.objects.slots o x) ≡ 128
  unfolding object.slot_put
  size-slots zero x = g.sizes.ns
  size-slots (suc i) x = length-set k.objects.slots i x ∙ g.sizes.ns

  pub put-slot : (o : ℕ) (x : Slot) → Holds (slot_put b o x) (with_threads k k.threads (with_slots k.objects (object.slot_put k.objects.slots o x)))
  unfolding slot_put enc_block
  put-slot o x = record {
    same = elim (bool_cases (is_slot o)) [
      | inl e ↦
          let P = H k ++ X1 k in
          let Q = X3 k ++ (X4 k ++ (X5 k ++ Z)) in
          let h = slot-some o e in
          let j = index-slot o e in
          rw (e, g.same, slot-in o x e, ← append_assoc (H k) (X1 k) (X2 k ++ Q), ← append_assoc (H k) (X1 k) (enc_all enc_slot (set k.objects.slots (slot_index o) x) ++ Q))
          (replace enc_slot 40 length-enc_slot P Q 5248 k.objects.slots (slot_index o) x (len-1 k g.sizes) (omega (arith, g.sizes.ns, j, h)))
      | inr e ↦ rw (e, slot-out o x e) g.same
    ];
    sizes = record { nt = g.sizes.nt; ns = size-slots o x; ne = g.sizes.ne; nw = g.sizes.nw; ni = g.sizes.ni };
  }

  pub put-entry : (i : ℕ) (x : HandleEntry) → Holds (entry_put b i x) (with_table k (with_entries k.handles (set k.handles.entries i x)))
  unfolding entry_put enc_block
  put-entry i x = record {
    same = elim (lt-cases i 256) [
      | inl h ↦
          let P = (H k ++ X1 k) ++ X2 k in
          let Q = X4 k ++ (X5 k ++ Z) in
          rw (lt-ltb i 256 h, g.same, ← append_assoc (H k) (X1 k) (X2 k ++ (X3 k ++ Q)), ← append_assoc (H k ++ X1 k) (X2 k) (X3 k ++ Q))
          (replace enc_entry 8 length-enc_entry P Q 10368 k.handles.entries i x (len-2 k g.sizes) (omega (arith, g.sizes.ne))
          ∙ append_assoc (H k ++ X1 k) (X2 k) (enc_all enc_entry (set k.handles.entries i x) ++ Q)
          ∙ append_assoc (H k) (X1 k) (X2 k ++ (enc_all enc_entry (set k.handles.entries i x) ++ Q)))
      | inr h ↦ rw (le-ltb i 256 h, set_out k.handles.entries i x (omega (arith, g.sizes.ne))) g.same
    ];
    sizes = record { nt = g.sizes.nt; ns = g.sizes.ns; ne = length-set k.handles.entries i x ∙ g.sizes.ne; nw = g.sizes.nw; ni = g.sizes.ni };
  }

  pub put-kept : (i : ℕ) (x : ObjectId) → Holds (kept_put b i x) (with_threads k k.threads (with_kept k.objects (set k.objects.thread_objects i x)))
  unfolding kept_put enc_block
  put-kept i x = record {
    same = elim (lt-cases i 32) [
      | inl h ↦
          let P = (((H k ++ X1 k) ++ X2 k) ++ X3 k) ++ X4 k in
          let Y = enc_all enc_id (set k.objects.thread_objects i x) ++ Z in
          rw (lt-ltb i 32 h, g.same)
          (ap (λ (t : List ℕ). over t (13184 + i * 4) (enc_id x)) (apart-4 k (X5 k ++ Z))
          ∙ replace enc_id 4 length-enc_id P Z 13184 k.objects.thread_objects i x (len-4 k g.sizes) (omega (arith, g.sizes.ni))
          ∙ sym (apart-4 k Y))
      | inr h ↦ rw (le-ltb i 32 h, set_out k.objects.thread_objects i x (omega (arith, g.sizes.ni))) g.same
    ];
    sizes = record { nt = g.sizes.nt; ns = g.sizes.ns; ne = g.sizes.ne; nw = g.sizes.nw; ni = length-set k.objects.thread_objects i x ∙ g.sizes.ni };
  }

  -- ---- a whole table
  pub put-threads : (ts : List Thread) → length ts ≡ 32 → Holds (over b 128 (enc_all enc_thread ts)) (with_threads k ts k.objects)
  unfolding enc_block
  put-threads ts n =
      let Q = X2 k ++ (X3 k ++ (X4 k ++ (X5 k ++ Z))) in
      record {
        same =
            rw g.same
            (over-at (H k) (X1 k) (enc_all enc_thread ts) Q 128 5120 (length-enc_head (head_words k)) (length-all enc_thread 160 length-enc_thread 32 k.threads g.sizes.nt) (length-all enc_thread 160 length-enc_thread 32 ts n));
        sizes = record { nt = n; ns = g.sizes.ns; ne = g.sizes.ne; nw = g.sizes.nw; ni = g.sizes.ni };
      }

  pub put-waiters : (ws : List Waiter) → length ws ≡ 64 → Holds (over b 12416 (enc_all enc_waiter ws)) (with_threads k k.threads (with_waiters k.objects ws))
  unfolding enc_block
  put-waiters ws n =
      let P = ((H k ++ X1 k) ++ X2 k) ++ X3 k in
      let Q = X5 k ++ Z in
      record {
        same =
            rw g.same
            (ap (λ (t : List ℕ). over t 12416 (enc_all enc_waiter ws)) (apart-3 k (X4 k ++ Q))
            ∙ over-at P (X4 k) (enc_all enc_waiter ws) Q 12416 768 (len-3 k g.sizes) (length-all enc_waiter 12 length-enc_waiter 64 k.objects.waiters g.sizes.nw) (length-all enc_waiter 12 length-enc_waiter 64 ws n)
            ∙ sym (apart-3 k (enc_all enc_waiter ws ++ Q)));
        sizes = record { nt = g.sizes.nt; ns = g.sizes.ns; ne = g.sizes.ne; nw = n; ni = g.sizes.ni };
      }

  -- ---- the head, where the tables are as they were
  pub put-head : (q : Kernel) → q.threads ≡ k.threads → q.objects.slots ≡ k.objects.slots → q.handles.entries ≡ k.handles.entries
      → q.objects.waiters ≡ k.objects.waiters → q.objects.thread_objects ≡ k.objects.thread_objects → Holds (head_put b (head_words q)) q
  unfolding head_put enc_block
  put-head q e1 e2 e3 e4 e5 =
      let Y = X1 k ++ (X2 k ++ (X3 k ++ (X4 k ++ (X5 k ++ Z)))) in
      record {
        same =
            rw g.same (over-at [] (H k) (H q) Y 0 128 refl (length-enc_head (head_words k)) (length-enc_head (head_words q)))
            ∙ (λ i. H q ++ (enc_all enc_thread (sym e1 i) ++ (enc_all enc_slot (sym e2 i) ++ (enc_all enc_entry (sym e3 i) ++ (enc_all enc_waiter (sym e4 i) ++ (enc_all enc_id (sym e5 i) ++ Z))))));
        sizes = record { nt = ap length e1 ∙ g.sizes.nt; ns = ap length e2 ∙ g.sizes.ns; ne = ap length e3 ∙ g.sizes.ne; nw = ap length e4 ∙ g.sizes.nw; ni = ap length e5 ∙ g.sizes.ni };
      }
