-- A context as 208 bytes: 16 registers, status word, 32 float registers, fpscr, fpexc, TLS slot.
use Rattle.std.specs.Prelude.{List, ◌++◌, ℕ}
use Rattle.codec.specs.Bytes.{bytes}
use Rattle.codec.specs.Layout.{enc_all}
use Rattle.types.specs.declared.thread.ThreadContext.{ThreadContext}

unfoldable pub enc_context : ThreadContext → List ℕ
enc_context x =
    enc_all (bytes 4) x.regs ++ (bytes 4 x.cpsr ++ (enc_all (bytes 4) x.vfp_regs ++ ((bytes 4 x.fpscr ++ bytes 4 x.fpexc) ++ bytes 4 x.tls_pointer)))
