-- How long a context is. Assumes nothing.
use mathlib.Core.Path.{◌≡◌}
use mathlib.Core.List.{List}
use Prim.Native.Nat.{ℕ, ◌*◌}
use lib.ListN.{length, length-append}
use Rattle.codec.specs.Bytes.{bytes}
use Rattle.codec.specs.Layout.{enc_all}
use Rattle.codec.proofs.Laws.{length-bytes}
use Rattle.types.specs.declared.thread.ThreadContext.{ThreadContext}
use Rattle.block.specs.Context.{enc_context}
use Rattle.block.proofs.Row.{length-all}

length-words : (n : ℕ) (xs : List ℕ) → length xs ≡ n → length (enc_all (bytes 4) xs) ≡ n * 4
length-words n xs e = length-all (bytes 4) 4 (length-bytes 4) n xs e

pub length-enc_context : (x : ThreadContext) → length x.regs ≡ 16 → length x.vfp_regs ≡ 32 → length (enc_context x) ≡ 208
unfolding enc_context
length-enc_context x nr nv = simp (length-append, length-bytes, length-words 16 x.regs nr, length-words 32 x.vfp_regs nv)
