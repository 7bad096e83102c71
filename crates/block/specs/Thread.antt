-- A thread record as 160 bytes.
use Rattle.std.specs.Prelude.{List, [], ◌∷◌, ◌++◌, ℕ, ◌+◌, ◌-◌, ◌*◌, eqb, get_or, replicate}
use mir.Val.{bool_byte}
use Rattle.codec.specs.Bytes.{bytes}
use Rattle.codec.specs.Layout.{dec_as, dec_all}
use Rattle.codec.specs.Groups.{four_bytes}
use Rattle.codec.specs.declared.Four.{Four}
use Rattle.units.specs.declared.ObjectId.{ObjectId}
use Rattle.types.specs.declared.thread.Thread.{Thread}
use Rattle.types.specs.Thread.{wait_list, status_number, status_of, option_flag, tick_value, tick_option, option_value}
use Rattle.types.specs.Thread.{option_of, result_number, result_index, result_of, syscall_number, syscall_of}
use Rattle.block.specs.declared.thread.ThreadWords.{ThreadWords}
use Rattle.block.specs.Table.{enc_ids, dec_id}

abbrev pub four : ℕ → ℕ → ℕ → ℕ → Four
four a b c d = record { 0 = a; 1 = b; 2 = c; 3 = d }

-- all fields but the list, in the order of the block
abbrev pub thread_words : Thread → ThreadWords
thread_words x = record {
  a = four (status_number x.status) x.priority x.entry x.stack_top;
  b = four x.tls x.processor_id x.wait_count (bool_byte x.wait_all);
  c = four (bool_byte x.waited) (option_flag x.wakeup_at) (option_flag x.wait_address) (option_value x.wait_address);
  d = four (result_number x.wait_result) (result_index x.wait_result) (syscall_number x.wait_syscall) x.guest_id;
  wakeup_at = tick_value x.wakeup_at;
  running_since = x.running_since.0;
}

abbrev pub words_list : ThreadWords → List ℕ
words_list w =
    w.a.0 ∷ w.a.1 ∷ w.a.2 ∷ w.a.3 ∷ w.b.0 ∷ w.b.1 ∷ w.b.2 ∷ w.b.3 ∷ w.c.0 ∷ w.c.1 ∷ w.c.2 ∷ w.c.3 ∷ w.d.0 ∷ w.d.1 ∷ w.d.2 ∷ w.d.3
    ∷ w.wakeup_at ∷ w.running_since ∷ []

-- their widths
abbrev pub thread_w : List ℕ
thread_w = 4 ∷ 4 ∷ 4 ∷ 4 ∷ 4 ∷ 4 ∷ 4 ∷ 4 ∷ 4 ∷ 4 ∷ 4 ∷ 4 ∷ 4 ∷ 4 ∷ 4 ∷ 4 ∷ 8 ∷ 8 ∷ []

abbrev pub thread_of : List ℕ → List ObjectId → Thread
thread_of vs l = record {
  status = status_of (get_or vs 0 0);
  priority = get_or vs 1 0;
  entry = get_or vs 2 0;
  stack_top = get_or vs 3 0;
  tls = get_or vs 4 0;
  processor_id = get_or vs 5 0;
  wait_objects = l;
  wait_count = get_or vs 6 0;
  wait_all = eqb (get_or vs 7 0) 1;
  wakeup_at = tick_option (get_or vs 9 0) (get_or vs 16 0);
  running_since = record { 0 = get_or vs 17 0 };
  waited = eqb (get_or vs 8 0) 1;
  wait_address = option_of (get_or vs 10 0) (get_or vs 11 0);
  wait_result = result_of (get_or vs 12 0) (get_or vs 13 0);
  wait_syscall = syscall_of (get_or vs 14 0);
  guest_id = get_or vs 15 0;
}

unfoldable pub enc_words : ThreadWords → List ℕ
enc_words w = four_bytes w.a ++ (four_bytes w.b ++ (four_bytes w.c ++ (four_bytes w.d ++ (bytes 8 w.wakeup_at ++ bytes 8 w.running_since))))

-- a record has 160 bytes: its numbers, from 80 on its list, and spare bytes
abbrev pub spare_at : ℕ
spare_at = 80 + wait_list * 4

abbrev pub spare_bytes : ℕ
spare_bytes = 160 - spare_at

unfoldable pub enc_thread : Thread → List ℕ
enc_thread x = enc_words (thread_words x) ++ (enc_ids wait_list x.wait_objects ++ replicate spare_bytes 0)

unfoldable pub dec_thread : List ℕ → Thread
dec_thread s = thread_of (dec_as thread_w s 0) (dec_all dec_id 4 wait_list s 80)
