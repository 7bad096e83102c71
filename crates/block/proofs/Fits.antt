-- Widths: a state whose numbers fit comes back from its block, every block is bytes, and what a block of bytes says fits. Assumes nothing.
use mathlib.Core.Path.{◌≡◌, refl, sym, ap, ◌∙◌}
use mathlib.Core.Bool.{false}
use mathlib.Core.List.{List, [], ◌∷◌, ◌++◌, append_assoc, append-nil}
use Prim.Native.Nat.{ℕ, zero, suc, ◌^◌, ◌<◌}
use native.Mathlib.Omega.{arith}
use lib.Dec.{eqb}
use lib.ListN.{length, drop, get_or, replicate}
use lib.Seq.{drop_at}
use Rattle.laws.specs.All.{All, all_as}
use Rattle.codec.specs.Bytes.{bytes, le}
use Rattle.codec.specs.Layout.{enc_as, dec_as, enc_all, dec_all}
use Rattle.codec.proofs.Rows.{length-enc_as}
use Rattle.codec.proofs.Back.{Fit, Bytes, dec_as_enc}
use Rattle.codec.proofs.Fit.{◌&◌, le-lt, fit_dec, fit_at, all_dec, length-dec_all, bytes_append, bytes-bytes, bytes_zeros, bytes-enc_as, bytes-enc_all, flag-back, flag-fits, drop-next, word_at, all-at}
use Rattle.units.specs.declared.ObjectId.{ObjectId}
use Rattle.types.specs.declared.thread.Thread.{Thread}
use Rattle.types.specs.declared.object.Slot.{Slot}
use Rattle.types.specs.declared.object.HandleEntry.{HandleEntry}
use Rattle.types.specs.declared.object.Waiter.{Waiter}
use Rattle.types.specs.declared.kernel.Kernel.{Kernel}
use Rattle.types.specs.Thread.{wait_list, option_of}
use Rattle.block.specs.declared.thread.ThreadWords.{ThreadWords}
use Rattle.block.specs.declared.slot.ObjectWords.{ObjectWords}
use Rattle.block.specs.declared.Head.{Head}
use Rattle.block.specs.Table.{enc_entry, dec_entry, enc_waiter, dec_waiter, enc_id, enc_ids, dec_id}
use Rattle.block.specs.Thread.{spare_bytes, thread_words, words_list, thread_w, thread_of, enc_words, enc_thread, dec_thread}
use Rattle.block.specs.Slot.{words, slot_w, slot_fields, slot_of, enc_slot, dec_slot}
use Rattle.block.specs.Block.{head_words, head_at, head_list, head_w, enc_head, enc_block, kernel_of, dec_block}
use Rattle.block.proofs.Row.{length-all}
use Rattle.block.proofs.Sizes.{length-enc_id, enc_ids-all, length-enc_entry, length-enc_waiter, length-enc_slot, length-enc_thread, length-enc_head}
use Rattle.block.proofs.Enums.{option-back, option-flag-fits, option_value_fits, tick-option-back, tick_value_fits, status-back, status-fits, result-back, result_fits, result-index-fits, syscall_back, syscall_fits, object-back, object-fits}

-- ---- object numbers
abbrev pub IdFits : ObjectId → Type 0
IdFits x = x.0 < 256 ^ 4

pub id_back : (x : ObjectId) → IdFits x → dec_id (enc_id x) ≡ x
unfolding dec_id enc_id
id_back x f = λ i. record { 0 = word_at 4 x.0 (bytes 4 x.0) 0 [] (sym (append-nil (bytes 4 x.0))) f i }

pub id_fits : (s : List ℕ) → Bytes s → IdFits (dec_id s)
unfolding dec_id
id_fits s b = le-lt 4 s 0 b

pub id_bytes : (x : ObjectId) → Bytes (enc_id x)
unfolding enc_id
id_bytes x = bytes-bytes 4 x.0

ids-bytes : (n : ℕ) (l : List ObjectId) → Bytes (enc_ids n l)
unfolding enc_ids
ids-bytes zero l = λ i. omega arith
ids-bytes (suc n) [] = bytes_append (bytes 4 0) (enc_ids n []) (bytes-bytes 4 0) (ids-bytes n [])
ids-bytes (suc n) (x ∷ xs) = bytes_append (enc_id x) (enc_ids n xs) (id_bytes x) (ids-bytes n xs)

ids_at : (n : ℕ) (l : List ObjectId) (s : List ℕ) (at : ℕ) (post : List ℕ) → drop at s ≡ enc_all enc_id l ++ post → length l ≡ n → All IdFits l
    → dec_all dec_id 4 n s at ≡ l
ids_at n l s at post d e a = all-at enc_id dec_id 4 length-enc_id n l s at post d e (all_as IdFits (λ x. dec_id (enc_id x) ≡ x) id_back l a)

-- ---- handle entries
abbrev pub entry_w : List ℕ
entry_w = 4 ∷ 4 ∷ []

abbrev pub entry_list : HandleEntry → List ℕ
entry_list x = x.handle.0 ∷ x.object.0 ∷ []

abbrev pub EntryFits : HandleEntry → Type 0
EntryFits x = Fit entry_w (entry_list x)

pub entry_as : (x : HandleEntry) → enc_entry x ≡ enc_as entry_w (entry_list x) ++ []
unfolding enc_entry enc_as
entry_as x = simp (append_assoc, append-nil)

pub entry-back : (x : HandleEntry) → EntryFits x → dec_entry (enc_entry x) ≡ x
unfolding dec_entry dec_as
entry-back x f =
    let e = dec_as_enc entry_w (entry_list x) [] f in
    ap dec_entry (entry_as x) ∙ (λ i. record { handle = record { 0 = get_or (e i) 0 0 }; object = record { 0 = get_or (e i) 1 0 } })

pub entry-fits : (s : List ℕ) → Bytes s → EntryFits (dec_entry s)
unfolding dec_entry dec_as
entry-fits s b = fit_dec entry_w s 0 b

pub entry-bytes : (x : HandleEntry) → Bytes (enc_entry x)
entry-bytes x = rw (entry_as x, append-nil) (bytes-enc_as entry_w (entry_list x))

-- ---- arbiter records
abbrev pub waiter_w : List ℕ
waiter_w = 4 ∷ 4 ∷ 4 ∷ []

abbrev pub waiter_list : Waiter → List ℕ
waiter_list x = x.thread ∷ x.address ∷ x.next ∷ []

abbrev pub WaiterFits : Waiter → Type 0
WaiterFits x = Fit waiter_w (waiter_list x)

pub waiter_as : (x : Waiter) → enc_waiter x ≡ enc_as waiter_w (waiter_list x) ++ []
unfolding enc_waiter enc_as
waiter_as x = simp (append_assoc, append-nil)

pub waiter-back : (x : Waiter) → WaiterFits x → dec_waiter (enc_waiter x) ≡ x
unfolding dec_waiter dec_as
waiter-back x f =
    let e = dec_as_enc waiter_w (waiter_list x) [] f in
    ap dec_waiter (waiter_as x) ∙ (λ i. record { thread = get_or (e i) 0 0; address = get_or (e i) 1 0; next = get_or (e i) 2 0 })

pub waiter-fits : (s : List ℕ) → Bytes s → WaiterFits (dec_waiter s)
unfolding dec_waiter dec_as
waiter-fits s b = fit_dec waiter_w s 0 b

pub waiter-bytes : (x : Waiter) → Bytes (enc_waiter x)
waiter-bytes x = rw (waiter_as x, append-nil) (bytes-enc_as waiter_w (waiter_list x))

-- ---- object slots
abbrev pub SlotFits : Slot → Type 0
SlotFits x = Fit slot_w (slot_fields x)

pub slot_as : (x : Slot) → enc_slot x ≡ enc_as slot_w (slot_fields x) ++ []
unfolding enc_slot enc_as
slot_as x = simp (append_assoc, append-nil)

pub slot-back : (x : Slot) → SlotFits x → dec_slot (enc_slot x) ≡ x
unfolding dec_slot
slot-back x f =
    ap dec_slot (slot_as x) ∙ ap slot_of (dec_as_enc slot_w (slot_fields x) [] f)
    ∙ (λ i. record { object = object-back x.object i; refcount = x.refcount; pulsed = flag-back x.pulsed i })

pub slot-fits : (s : List ℕ) → Bytes s → SlotFits (dec_slot s)
unfolding dec_slot dec_as
slot-fits s b =
    let v = fit_at slot_w (dec_as slot_w s 0) (fit_dec slot_w s 0 b) in
    let w : ObjectWords = words (le 4 s 0) (le 4 s 12) (le 4 s 16) (le 4 s 20) (le 8 s 24) (le 8 s 32) in
    let f = object-fits w (record { kind = v 0; a = v 3; b = v 4; c = v 5; x = v 6; y = v 7 }) in
    f.kind & v 1 & flag-fits (eqb (le 4 s 8) 1) & f.a & f.b & f.c & f.x & f.y & tt

pub slot-bytes : (x : Slot) → Bytes (enc_slot x)
slot-bytes x = rw (slot_as x, append-nil) (bytes-enc_as slot_w (slot_fields x))

-- ---- threads
abbrev pub ThreadFits : Thread → Type 0
ThreadFits x = Fit thread_w (words_list (thread_words x)) × All IdFits x.wait_objects × (length x.wait_objects ≡ wait_list)

words_as : (w : ThreadWords) → enc_words w ≡ enc_as thread_w (words_list w)
unfolding enc_words enc_as
words_as w = simp (append_assoc, append-nil)

thread_again : (x : Thread) → thread_of (words_list (thread_words x)) x.wait_objects ≡ x
thread_again x = λ i. record {
  status = status-back x.status i;
  priority = x.priority;
  entry = x.entry;
  stack_top = x.stack_top;
  tls = x.tls;
  processor_id = x.processor_id;
  wait_objects = x.wait_objects;
  wait_count = x.wait_count;
  wait_all = flag-back x.wait_all i;
  wakeup_at = tick-option-back x.wakeup_at i;
  running_since = x.running_since;
  waited = flag-back x.waited i;
  wait_address = option-back x.wait_address i;
  wait_result = result-back x.wait_result i;
  wait_syscall = syscall_back x.wait_syscall i;
  guest_id = x.guest_id;
}

pub thread_as : (x : Thread) → length x.wait_objects ≡ wait_list
    → enc_thread x ≡ enc_as thread_w (words_list (thread_words x)) ++ (enc_all enc_id x.wait_objects ++ replicate spare_bytes 0)
unfolding enc_thread
thread_as x e = λ i. words_as (thread_words x) i ++ (sym (enc_ids-all wait_list x.wait_objects e) i ++ replicate spare_bytes 0)

pub thread-back : (x : Thread) → ThreadFits x → dec_thread (enc_thread x) ≡ x
unfolding dec_thread
thread-back x f =
    let vs = words_list (thread_words x) in
    let Z = enc_all enc_id x.wait_objects ++ replicate spare_bytes 0 in
    let W = enc_as thread_w vs ++ Z in
    let e : dec_as thread_w W 0 ≡ vs = dec_as_enc thread_w vs Z f.0 in
    let d : drop 80 W ≡ Z = drop_at (enc_as thread_w vs) Z 80 (length-enc_as thread_w vs) in
    let l : dec_all dec_id 4 wait_list W 80 ≡ x.wait_objects = ids_at wait_list x.wait_objects W 80 (replicate spare_bytes 0) d f.2 f.1 in
    ap dec_thread (thread_as x f.2) ∙ (λ i. thread_of (e i) (l i)) ∙ thread_again x

pub thread-fits : (s : List ℕ) → Bytes s → ThreadFits (dec_thread s)
unfolding dec_thread dec_as
thread-fits s b =
    let v = fit_at thread_w (dec_as thread_w s 0) (fit_dec thread_w s 0 b) in (
      status-fits (dec_thread s).status
          & v 1
          & v 2
          & v 3
          & v 4
          & v 5
          & v 6
          & flag-fits (dec_thread s).wait_all
          & flag-fits (dec_thread s).waited
          & option-flag-fits (dec_thread s).wakeup_at
          & option-flag-fits (dec_thread s).wait_address
          & option_value_fits (le 4 s 40) (le 4 s 44) (v 11)
          & result_fits (dec_thread s).wait_result
          & result-index-fits (le 4 s 48) (le 4 s 52) (v 13)
          & syscall_fits (dec_thread s).wait_syscall
          & v 15
          & tick_value_fits (le 4 s 36) (le 8 s 64) (v 16)
          & v 17
          & tt,
      all_dec IdFits dec_id 4 wait_list s 80 id_fits b,
      length-dec_all dec_id 4 wait_list s 80,
    )

pub thread-bytes : (x : Thread) → Bytes (enc_thread x)
unfolding enc_thread
thread-bytes x =
    let I = enc_ids wait_list x.wait_objects in
    rw (words_as (thread_words x))
    (bytes_append (enc_as thread_w (words_list (thread_words x))) (I ++ replicate spare_bytes 0) (bytes-enc_as thread_w (words_list (thread_words x)))
    (bytes_append I (replicate spare_bytes 0) (ids-bytes wait_list x.wait_objects) (bytes_zeros spare_bytes)))

-- ---- the block
-- the findings, which no block holds, are down
abbrev pub Clean : Kernel → Type 0
Clean k =
    (k.full ≡ false) × (k.overflow ≡ false) × (k.objects.full ≡ false) × (k.objects.overflow ≡ false) × (k.handles.full ≡ false)
    × (k.handles.overflow ≡ false)

pub record StateFits (k : Kernel) : Type 0 where
  pub head : Fit head_w (head_list (head_words k))
  pub nt : length k.threads ≡ 32
  pub threads : All ThreadFits k.threads
  pub ns : length k.objects.slots ≡ 128
  pub slots : All SlotFits k.objects.slots
  pub ne : length k.handles.entries ≡ 256
  pub entries : All EntryFits k.handles.entries
  pub nw : length k.objects.waiters ≡ 64
  pub waiters : All WaiterFits k.objects.waiters
  pub ni : length k.objects.thread_objects ≡ 32
  pub thread_objects : All IdFits k.objects.thread_objects
  pub clean : Clean k

head_as : (h : Head) → enc_head h ≡ enc_as head_w (head_list h) ++ replicate 64 0
unfolding enc_head enc_as
head_as h = simp (append_assoc, append-nil)

-- the head of an encoding, whatever follows it
pub head-back : (k : Kernel) (y : List ℕ) → Fit head_w (head_list (head_words k)) → head_at (enc_head (head_words k) ++ y) ≡ head_words k
unfolding dec_as
head-back k y f =
    let h = head_words k in
    let w : enc_head h ++ y ≡ enc_as head_w (head_list h) ++ (replicate 64 0 ++ y) = rw (head_as h, append_assoc) in
    let e = ap (λ (s : List ℕ). dec_as head_w s 0) w ∙ dec_as_enc head_w (head_list h) (replicate 64 0 ++ y) f in
    λ i. record {
      status_word = get_or (e i) 0 0;
      thread_count = get_or (e i) 1 0;
      current_flag = get_or (e i) 2 0;
      current_value = get_or (e i) 3 0;
      next_tls_slot = get_or (e i) 4 0;
      next_guest_id = get_or (e i) 5 0;
      all_blocked = get_or (e i) 6 0;
      relief = get_or (e i) 7 0;
      free = get_or (e i) 8 0;
      free_waiter = get_or (e i) 9 0;
      handle_count = get_or (e i) 10 0;
      next_handle = get_or (e i) 11 0;
      process_object = get_or (e i) 12 0;
      spare = get_or (e i) 13 0 ∷ get_or (e i) 14 0 ∷ get_or (e i) 15 0 ∷ [];
    }

kernel_again : (k : Kernel) → Clean k
    → kernel_of (head_words k) k.threads k.objects.slots k.handles.entries k.objects.waiters k.objects.thread_objects ≡ k
kernel_again k f = λ i. record {
  status_word = k.status_word;
  objects = record {
    slots = k.objects.slots;
    free = k.objects.free;
    waiters = k.objects.waiters;
    free_waiter = k.objects.free_waiter;
    thread_objects = k.objects.thread_objects;
    process_object = k.objects.process_object;
    full = sym f.2 i;
    overflow = sym f.3 i;
  };
  handles = record { entries = k.handles.entries; count = k.handles.count; next = k.handles.next; full = sym f.4 i; overflow = sym f.5 i };
  threads = k.threads;
  thread_count = k.thread_count;
  current_thread = option-back k.current_thread i;
  next_tls_slot = k.next_tls_slot;
  next_guest_id = k.next_guest_id;
  all_blocked = flag-back k.all_blocked i;
  relief = flag-back k.relief i;
  full = sym f.0 i;
  overflow = sym f.1 i;
}

pub block_back : (k : Kernel) → StateFits k → dec_block (enc_block k) ≡ k
unfolding dec_block enc_block
block_back k f =
    let H = enc_head (head_words k) in
    let X1 = enc_all enc_thread k.threads in
    let X2 = enc_all enc_slot k.objects.slots in
    let X3 = enc_all enc_entry k.handles.entries in
    let X4 = enc_all enc_waiter k.objects.waiters in
    let X5 = enc_all enc_id k.objects.thread_objects in
    let Y5 = X5 ++ replicate 3072 0 in
    let Y4 = X4 ++ Y5 in
    let Y3 = X3 ++ Y4 in
    let Y2 = X2 ++ Y3 in
    let Y1 = X1 ++ Y2 in
    let W = H ++ Y1 in
    let e = head-back k Y1 f.head in
    let d1 : drop 128 W ≡ Y1 = drop_at H Y1 128 (length-enc_head (head_words k)) in
    let d2 : drop 5248 W ≡ Y2 = drop-next W 128 5120 X1 Y2 d1 (length-all enc_thread 160 length-enc_thread 32 k.threads f.nt) in
    let d3 : drop 10368 W ≡ Y3 = drop-next W 5248 5120 X2 Y3 d2 (length-all enc_slot 40 length-enc_slot 128 k.objects.slots f.ns) in
    let d4 : drop 12416 W ≡ Y4 = drop-next W 10368 2048 X3 Y4 d3 (length-all enc_entry 8 length-enc_entry 256 k.handles.entries f.ne) in
    let d5 : drop 13184 W ≡ Y5 = drop-next W 12416 768 X4 Y5 d4 (length-all enc_waiter 12 length-enc_waiter 64 k.objects.waiters f.nw) in
    let a1 = all-at enc_thread dec_thread 160 length-enc_thread 32 k.threads W 128 Y2 d1 f.nt (all_as ThreadFits (λ x. dec_thread (enc_thread x) ≡ x) thread-back k.threads f.threads) in
    let a2 = all-at enc_slot dec_slot 40 length-enc_slot 128 k.objects.slots W 5248 Y3 d2 f.ns (all_as SlotFits (λ x. dec_slot (enc_slot x) ≡ x) slot-back k.objects.slots f.slots) in
    let a3 = all-at enc_entry dec_entry 8 length-enc_entry 256 k.handles.entries W 10368 Y4 d3 f.ne (all_as EntryFits (λ x. dec_entry (enc_entry x) ≡ x) entry-back k.handles.entries f.entries) in
    let a4 = all-at enc_waiter dec_waiter 12 length-enc_waiter 64 k.objects.waiters W 12416 Y5 d4 f.nw (all_as WaiterFits (λ x. dec_waiter (enc_waiter x) ≡ x) waiter-back k.objects.waiters f.waiters) in
    let a5 = ids_at 32 k.objects.thread_objects W 13184 (replicate 3072 0) d5 f.ni f.thread_objects in
    ◌∙◌ {a = dec_block W} (λ i. kernel_of (e i) (a1 i) (a2 i) (a3 i) (a4 i) (a5 i)) (kernel_again k f.clean)

-- every encoding is bytes
pub block-bytes : (k : Kernel) → Bytes (enc_block k)
unfolding enc_block
block-bytes k =
    let vs = head_list (head_words k) in
    let H = enc_head (head_words k) in
    let X1 = enc_all enc_thread k.threads in
    let X2 = enc_all enc_slot k.objects.slots in
    let X3 = enc_all enc_entry k.handles.entries in
    let X4 = enc_all enc_waiter k.objects.waiters in
    let X5 = enc_all enc_id k.objects.thread_objects in
    let Z : List ℕ = replicate 3072 0 in
    let h : Bytes H = rw (head_as (head_words k)) (bytes_append (enc_as head_w vs) (replicate 64 0) (bytes-enc_as head_w vs) (bytes_zeros 64)) in
    bytes_append H (X1 ++ (X2 ++ (X3 ++ (X4 ++ (X5 ++ Z))))) h
    (bytes_append X1 (X2 ++ (X3 ++ (X4 ++ (X5 ++ Z)))) (bytes-enc_all enc_thread k.threads thread-bytes)
    (bytes_append X2 (X3 ++ (X4 ++ (X5 ++ Z))) (bytes-enc_all enc_slot k.objects.slots slot-bytes)
    (bytes_append X3 (X4 ++ (X5 ++ Z)) (bytes-enc_all enc_entry k.handles.entries entry-bytes)
    (bytes_append X4 (X5 ++ Z) (bytes-enc_all enc_waiter k.objects.waiters waiter-bytes)
    (bytes_append X5 Z (bytes-enc_all enc_id k.objects.thread_objects id_bytes) (bytes_zeros 3072))))))

-- what bytes say fits
pub block-fits : (b : List ℕ) → Bytes b → StateFits (dec_block b)
unfolding dec_block dec_as
block-fits b h =
    let v = fit_at head_w (dec_as head_w b 0) (fit_dec head_w b 0 h) in
    let z : 0 < 256 ^ 4 = omega arith in
    let current = option_of (le 4 b 8) (le 4 b 12) in
    record {
      head = v 0 & v 1 & option-flag-fits current & option_value_fits (le 4 b 8) (le 4 b 12) (v 3) & v 4 & v 5 & flag-fits (eqb (le 4 b 24) 1) & flag-fits (eqb (le 4 b 28) 1) & v 8 & v 9 & v 10 & v 11 & v 12 & z & z & z & tt;
      nt = length-dec_all dec_thread 160 32 b 128;
      threads = all_dec ThreadFits dec_thread 160 32 b 128 thread-fits h;
      ns = length-dec_all dec_slot 40 128 b 5248;
      slots = all_dec SlotFits dec_slot 40 128 b 5248 slot-fits h;
      ne = length-dec_all dec_entry 8 256 b 10368;
      entries = all_dec EntryFits dec_entry 8 256 b 10368 entry-fits h;
      nw = length-dec_all dec_waiter 12 64 b 12416;
      waiters = all_dec WaiterFits dec_waiter 12 64 b 12416 waiter-fits h;
      ni = length-dec_all dec_id 4 32 b 13184;
      thread_objects = all_dec IdFits dec_id 4 32 b 13184 id_fits h;
      clean = (refl, refl, refl, refl, refl, refl);
    }
