-- The block: a head, the threads, the object slots, the handles, the arbiter records, the kept thread objects, spare bytes.
use Rattle.std.specs.Prelude.{false, List, [], ◌∷◌, ◌++◌, ℕ, eqb, get_or, replicate}
use mir.Val.{bool_byte}
use Rattle.codec.specs.Bytes.{le}
use Rattle.codec.specs.Layout.{enc_all, dec_all}
use Rattle.codec.specs.Groups.{four_bytes}
use Rattle.units.specs.declared.ObjectId.{ObjectId}
use Rattle.types.specs.declared.thread.Thread.{Thread}
use Rattle.types.specs.declared.object.Slot.{Slot}
use Rattle.types.specs.declared.object.HandleEntry.{HandleEntry}
use Rattle.types.specs.declared.object.Waiter.{Waiter}
use Rattle.types.specs.declared.kernel.Kernel.{Kernel}
use Rattle.types.specs.Thread.{option_flag, option_value, option_of}
use Rattle.block.specs.declared.Head.{Head}
use Rattle.block.specs.Table.{enc_entry, dec_entry, enc_waiter, dec_waiter, enc_id, dec_id}
use Rattle.block.specs.Thread.{four, enc_thread, dec_thread}
use Rattle.block.specs.Slot.{enc_slot, dec_slot}

abbrev pub head_words : Kernel → Head
head_words k = record {
  status_word = k.status_word;
  thread_count = k.thread_count;
  current_flag = option_flag k.current_thread;
  current_value = option_value k.current_thread;
  next_tls_slot = k.next_tls_slot;
  next_guest_id = k.next_guest_id;
  all_blocked = bool_byte k.all_blocked;
  relief = bool_byte k.relief;
  free = k.objects.free;
  free_waiter = k.objects.free_waiter;
  handle_count = k.handles.count;
  next_handle = k.handles.next.0;
  process_object = k.objects.process_object.0;
  spare = 0 ∷ 0 ∷ 0 ∷ [];
}

abbrev pub head_at : List ℕ → Head
head_at s = record {
  status_word = le 4 s 0;
  thread_count = le 4 s 4;
  current_flag = le 4 s 8;
  current_value = le 4 s 12;
  next_tls_slot = le 4 s 16;
  next_guest_id = le 4 s 20;
  all_blocked = le 4 s 24;
  relief = le 4 s 28;
  free = le 4 s 32;
  free_waiter = le 4 s 36;
  handle_count = le 4 s 40;
  next_handle = le 4 s 44;
  process_object = le 4 s 48;
  spare = le 4 s 52 ∷ le 4 s 56 ∷ le 4 s 60 ∷ [];
}

abbrev pub head_list : Head → List ℕ
head_list h =
    h.status_word ∷ h.thread_count ∷ h.current_flag ∷ h.current_value
    ∷ h.next_tls_slot ∷ h.next_guest_id ∷ h.all_blocked ∷ h.relief
    ∷ h.free ∷ h.free_waiter ∷ h.handle_count ∷ h.next_handle
    ∷ h.process_object ∷ get_or h.spare 0 0 ∷ get_or h.spare 1 0 ∷ get_or h.spare 2 0 ∷ []

abbrev pub head_w : List ℕ
head_w = 4 ∷ 4 ∷ 4 ∷ 4 ∷ 4 ∷ 4 ∷ 4 ∷ 4 ∷ 4 ∷ 4 ∷ 4 ∷ 4 ∷ 4 ∷ 4 ∷ 4 ∷ 4 ∷ []

unfoldable pub enc_head : Head → List ℕ
enc_head h =
    four_bytes (four h.status_word h.thread_count h.current_flag h.current_value)
    ++ (four_bytes (four h.next_tls_slot h.next_guest_id h.all_blocked h.relief)
    ++ (four_bytes (four h.free h.free_waiter h.handle_count h.next_handle)
    ++ (four_bytes (four h.process_object (get_or h.spare 0 0) (get_or h.spare 1 0) (get_or h.spare 2 0))
    ++ replicate 64 0)))

unfoldable pub enc_block : Kernel → List ℕ
enc_block k =
    enc_head (head_words k)
    ++ (enc_all enc_thread k.threads
    ++ (enc_all enc_slot k.objects.slots
    ++ (enc_all enc_entry k.handles.entries
    ++ (enc_all enc_waiter k.objects.waiters
    ++ (enc_all enc_id k.objects.thread_objects
    ++ replicate 3072 0)))))

-- the findings are not in the block
abbrev pub kernel_of : Head → List Thread → List Slot → List HandleEntry → List Waiter → List ObjectId → Kernel
kernel_of h ts ss es ws os = record {
  status_word = h.status_word;
  objects = record {
    slots = ss;
    free = h.free;
    waiters = ws;
    free_waiter = h.free_waiter;
    thread_objects = os;
    process_object = record { 0 = h.process_object };
    full = false;
    overflow = false;
  };
  handles = record {
    entries = es;
    count = h.handle_count;
    next = record { 0 = h.next_handle };
    full = false;
    overflow = false;
  };
  threads = ts;
  thread_count = h.thread_count;
  current_thread = option_of h.current_flag h.current_value;
  next_tls_slot = h.next_tls_slot;
  next_guest_id = h.next_guest_id;
  all_blocked = eqb h.all_blocked 1;
  relief = eqb h.relief 1;
  full = false;
  overflow = false;
}

unfoldable pub dec_block : List ℕ → Kernel
dec_block b =
    kernel_of (head_at b) (dec_all dec_thread 160 32 b 128) (dec_all dec_slot 40 128 b 5248)
    (dec_all dec_entry 8 256 b 10368) (dec_all dec_waiter 12 64 b 12416)
    (dec_all dec_id 4 32 b 13184)
