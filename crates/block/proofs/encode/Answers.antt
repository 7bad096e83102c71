use mathlib.Core.Path.{◌≡◌, refl, ap, ◌∙◌}
use mathlib.Core.List.{List, ◌++◌, append_assoc}
use Prim.Native.Nat.{ℕ}
use lib.ListN.{take, drop, replicate, length-replicate}
use Rattle.codec.specs.Bytes.{over}
use Rattle.codec.specs.Layout.{enc_all}
use Rattle.codec.proofs.Laws.{part_over}
use Rattle.block.specs.declared.Head.{Head}
use Rattle.block.specs.Table.{enc_entry, enc_waiter, enc_id}
use Rattle.block.specs.Thread.{enc_thread}
use Rattle.block.specs.Slot.{enc_slot}
use Rattle.block.specs.Block.{enc_head, enc_block}
use Rattle.block.proofs.Row.{start, next, whole, length-all}
use Rattle.block.proofs.Sizes.{length-enc_head, length-enc_thread, length-enc_slot, length-enc_entry, length-enc_waiter, length-enc_id}
use Rattle.block.proofs.encode.Goals as goal

-- The head, the five rows and the spare bytes, one after the other.

pub returns : goal.returns
unfolding enc_block
returns c =
    let w = c.head_words-head in
    let k = c.args.k in
    let b = c.args.b.now in
    let H = enc_head w.result in
    let X1 = enc_all enc_thread k.threads in
    let X2 = enc_all enc_slot k.objects.slots in
    let X3 = enc_all enc_entry k.handles.entries in
    let X4 = enc_all enc_waiter k.objects.waiters in
    let X5 = enc_all enc_id k.objects.thread_objects in
    let l1 = length-all enc_thread 160 length-enc_thread 32 k.threads c.write_all.ensures.l_len in
    let l2 = length-all enc_slot 40 length-enc_slot 128 k.objects.slots c.write_all-2.ensures.l_len in
    let l3 = length-all enc_entry 8 length-enc_entry 256 k.handles.entries c.write_all-3.ensures.l_len in
    let l4 = length-all enc_waiter 12 length-enc_waiter 64 k.objects.waiters c.write_all-4.ensures.l_len in
    let l5 = length-all enc_id 4 length-enc_id 32 k.objects.thread_objects c.write_all-5.ensures.l_len in
    let e : take 0 b ++ (c.put_head.new.b ++ drop 128 (drop 0 b)) ≡ over b 0 H =
    ap (λ (t : List ℕ). take 0 b ++ (t ++ drop 128 (drop 0 b))) c.put_head.ensures ∙ part_over b H 0 128 (length-enc_head w.result) in
    let r0 = next H 128 (start c.told-b) (length-enc_head w.result) refl e in
    let r1 = next X1 5120 r0 l1 refl c.write_all.ensures.b_after in
    let r2 = next X2 5120 r1 l2 refl c.write_all-2.ensures.b_after in
    let r3 = next X3 2048 r2 l3 refl c.write_all-3.ensures.b_after in
    let r4 = next X4 768 r3 l4 refl c.write_all-4.ensures.b_after in
    let r5 = next X5 128 r4 l5 refl c.write_all-5.ensures.b_after in
    let r6 = next (replicate 3072 0) 3072 r5 (length-replicate {A = ℕ} 3072 0) refl c.put_zeros.ensures in
    whole r6 ∙ (simp append_assoc)
    ∙ ap (λ (h : Head). enc_head h ++ (X1 ++ (X2 ++ (X3 ++ (X4 ++ (X5 ++ replicate 3072 0)))))) w.ensures
