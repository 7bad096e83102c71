use mathlib.Core.Path.{refl, ◌∙◌}
use mathlib.Core.List.{append_assoc}
use Rattle.codec.specs.Bytes.{bytes}
use Rattle.codec.specs.Groups.{four_bytes}
use Rattle.codec.proofs.Laws.{length-bytes}
use Rattle.block.specs.Thread.{enc_words}
use Rattle.block.proofs.Row.{start, next}
use Rattle.block.proofs.Sizes.{length-four}
use Rattle.block.proofs.thread.put_words.Goals as goal

-- Four groups of four words and two long words, one after the other.

pub returns : goal.returns
unfolding enc_words
returns c =
    let w = c.args.w in
    let r1 = next (four_bytes w.a) 16 (start c.requires) (length-four w.a) refl c.put_four.ensures in
    let r2 = next (four_bytes w.b) 16 r1 (length-four w.b) refl c.put_four-2.ensures in
    let r3 = next (four_bytes w.c) 16 r2 (length-four w.c) refl c.put_four-3.ensures in
    let r4 = next (four_bytes w.d) 16 r3 (length-four w.d) refl c.put_four-4.ensures in
    let r5 = next (bytes 8 w.wakeup_at) 8 r4 (length-bytes 8 w.wakeup_at) refl c.put64.ensures in
    let r6 = next (bytes 8 w.running_since) 8 r5 (length-bytes 8 w.running_since) refl c.put64-2.ensures in
    r6.same ∙ simp append_assoc
