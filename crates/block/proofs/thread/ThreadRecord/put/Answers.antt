use mathlib.Core.Path.{refl, ap, ◌∙◌}
use mathlib.Core.List.{◌++◌, append_assoc}
use Prim.Native.Nat.{ℕ, ◌*◌}
use lib.ListN.{replicate, length-replicate}
use Rattle.types.specs.Thread.{wait_list}
use Rattle.block.specs.declared.thread.ThreadWords.{ThreadWords}
use Rattle.block.specs.Table.{enc_ids}
use Rattle.block.specs.Thread.{spare_bytes, enc_words, enc_thread}
use Rattle.block.proofs.Row.{start, next, whole}
use Rattle.block.proofs.Sizes.{length-enc_ids, enc_ids-all, length-enc_words}
use Rattle.block.proofs.thread.ThreadRecord.put.Goals as goal

-- The numbers of a thread, its list and spare bytes, one after the other.

pub returns : goal.returns
unfolding enc_thread
returns c =
    let x = c.args.self in
    let t = c.thread_words in
    let e = enc_ids-all wait_list x.wait_objects c.write_all.ensures.l_len in
    let r1 = next (enc_words t.result) 80 (start c.requires) (length-enc_words t.result) refl c.put_words.ensures in
    let r2 = next (enc_ids wait_list x.wait_objects) (wait_list * 4) r1 (length-enc_ids wait_list x.wait_objects) refl (rw e at c.write_all.ensures.b_after) in
    let r3 = next (replicate spare_bytes 0) spare_bytes r2 (length-replicate {A = ℕ} spare_bytes 0) refl c.put_zeros.ensures in
    whole r3 ∙ (simp append_assoc)
    ∙ ap (λ (w : ThreadWords). enc_words w ++ (enc_ids wait_list x.wait_objects ++ replicate spare_bytes 0)) t.ensures
