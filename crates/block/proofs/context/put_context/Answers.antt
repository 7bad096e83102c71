use mathlib.Core.Path.{refl, ◌∙◌}
use mathlib.Core.List.{append_assoc}
use native.Mathlib.Omega.{arith}
use Rattle.codec.specs.Bytes.{bytes}
use Rattle.codec.specs.Layout.{enc_all}
use Rattle.codec.specs.Groups.{two_bytes}
use Rattle.codec.specs.declared.Two.{Two}
use Rattle.codec.proofs.Laws.{length-bytes}
use Rattle.block.specs.Context.{enc_context}
use Rattle.block.proofs.Row.{start, next, whole, length-all}
use Rattle.block.proofs.Sizes.{length_two}
use Rattle.block.proofs.Contexts.{length-enc_context}
use Rattle.block.proofs.context.put_context.Goals as goal

-- Five writes, one after the other.

pub returns : goal.returns
unfolding enc_context
returns c =
    let x = c.args.x in
    let v : Two = record { 0 = x.fpscr; 1 = x.fpexc } in
    let l1 = length-all (bytes 4) 4 (length-bytes 4) 16 x.regs (omega arith) in
    let l3 = length-all (bytes 4) 4 (length-bytes 4) 32 x.vfp_regs (omega arith) in
    let r1 = next (enc_all (bytes 4) x.regs) 64 (start c.requires) l1 refl c.put_words.ensures in
    let r2 = next (bytes 4 x.cpsr) 4 r1 (length-bytes 4 x.cpsr) refl c.put32.ensures in
    let r3 = next (enc_all (bytes 4) x.vfp_regs) 128 r2 l3 refl c.put_words-2.ensures in
    let r4 = next (two_bytes v) 8 r3 (length_two v) refl c.put_two.ensures in
    let r5 = next (bytes 4 x.tls_pointer) 4 r4 (length-bytes 4 x.tls_pointer) refl c.put32-2.ensures in
    record { b_after = whole r5 ∙ simp append_assoc; x_len = length-enc_context x (omega arith) (omega arith) }
