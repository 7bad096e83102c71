-- The head with one thread more, or as many where a place is used again.
use Rattle.std.specs.Prelude.{Bool, ℕ, ◌+◌, leb, ltb}
use Rattle.laws.specs.Logic.{pick, ◌or◌}
use Rattle.block.specs.declared.Head.{Head}

abbrev pub head_made : Head → Bool → ℕ → Head
head_made h reused tls = record h {
  thread_count = pick (reused or leb 32 h.thread_count) h.thread_count (h.thread_count + 1);
  next_tls_slot = pick (ltb tls h.next_tls_slot) h.next_tls_slot (tls + 1);
  next_guest_id = pick (ltb h.next_guest_id 4294967295) (h.next_guest_id + 1) h.next_guest_id;
}
