use mathlib.Core.Path.{refl, ◌∙◌}
use mathlib.Core.List.{append_assoc}
use Prim.Native.Nat.{ℕ}
use lib.ListN.{get_or, replicate, length-replicate}
use Rattle.codec.specs.Groups.{four_bytes}
use Rattle.block.specs.Thread.{four}
use Rattle.block.specs.Block.{enc_head}
use Rattle.block.proofs.Row.{start, next, whole}
use Rattle.block.proofs.Sizes.{length-four}
use Rattle.block.proofs.put_head.Goals as goal

-- Four groups of four words and spare bytes, one after the other.

pub returns : goal.returns
unfolding enc_head
returns c =
    let h = c.args.h in
    let f1 = four h.status_word h.thread_count h.current_flag h.current_value in
    let f2 = four h.next_tls_slot h.next_guest_id h.all_blocked h.relief in
    let f3 = four h.free h.free_waiter h.handle_count h.next_handle in
    let f4 = four h.process_object (get_or h.spare 0 0) (get_or h.spare 1 0) (get_or h.spare 2 0) in
    let r1 = next (four_bytes f1) 16 (start c.requires) (length-four f1) refl c.put_four.ensures in
    let r2 = next (four_bytes f2) 16 r1 (length-four f2) refl c.put_four-2.ensures in
    let r3 = next (four_bytes f3) 16 r2 (length-four f3) refl c.put_four-3.ensures in
    let r4 = next (four_bytes f4) 16 r3 (length-four f4) refl c.put_four-4.ensures in
    let r5 = next (replicate 64 0) 64 r4 (length-replicate {A = ℕ} 64 0) refl c.put_zeros.ensures in
    whole r5 ∙ simp append_assoc
