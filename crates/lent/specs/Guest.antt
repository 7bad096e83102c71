-- The exports for guest code: a guest call, and collect.
use Rattle.std.specs.Prelude.{Bool, List, ◌++◌, ℕ, ◌+◌, ◌-◌, ◌%◌, eqb, leb, length, Option, Some, None}
use Rattle.laws.specs.Logic.{pick, ◌and◌}
use Rattle.codec.specs.Bytes.{num, bytes, le, over}
use Rattle.codec.specs.Layout.{dec_all}
use Rattle.types.specs.declared.kernel.Kernel.{Kernel}
use Rattle.types.specs.Thread.{result_number, result_index, syscall_number}
use Rattle.block.specs.Block.{enc_block}
use Rattle.svc.specs.declared.Registers.{Registers}
use Rattle.svc.specs.declared.Served.{Served}
use Rattle.svc.specs.Table.{row_of, written}
use Rattle.svc.specs.Dispatch.{words_read, given, runs?, refusal, call}
use Rattle.svc.specs.Collect as svc
use Rattle.lent.specs.Lent.{Lent, lent, Back, back}
use Rattle.lent.specs.Operations.{change, row_made}

-- ---- a guest call
-- the first six words of the processor
abbrev pub registers : List ℕ → Registers
registers p = record { r0 = le 4 p 0; r1 = le 4 p 4; r2 = le 4 p 8; r3 = le 4 p 12; r4 = le 4 p 16; r5 = le 4 p 20 }

-- question 1: a window of whole words that ends at 2^32 at most
abbrev pub window_ok : ℕ → List ℕ → Bool
window_ok base w = leb (length w) 65536 and (eqb (length w % 4) 0 and leb (base + length w) 4294967296)

-- the words that the call reads at r1
abbrev pub words_in : ℕ → List ℕ → ℕ → Registers → List ℕ
words_in base w number r = dec_all num 4 (words_read number r) w (r.r1 - base)

-- what the call does with the registers that it may read
abbrev pub served : ℕ → ℕ → ℕ → Lent → Kernel → Served
served base number tick l k =
    let r : Registers = given number (registers l.processor) in
    call number k r (words_in base l.window number r) tick

-- r0 and r1, as far as the call may write them
abbrev pub processor_after : ℕ → List ℕ → Served → List ℕ
processor_after number p s =
    over (over p 0 (bytes 4 (written (row_of number).writes 1 s.r0 (le 4 p 0)))) 4 (bytes 4 (written (row_of number).writes 2 s.r1 (le 4 p 4)))

-- the word that 0x22 counts down
abbrev pub window_after : ℕ → List ℕ → Registers → Option ℕ → List ℕ
window_after base w r None = w
window_after base w r (Some v) = over w (r.r1 - base) (bytes 4 v)

-- a thread that 0x08 makes gets its row of the bank
abbrev pub bank_after : ℕ → List ℕ → Kernel → Registers → List ℕ
bank_after number bank k r = pick (eqb number 0x08) (row_made bank k r.r1 r.r3 r.r2) bank

abbrev pub served_written : ℕ → ℕ → Lent → Kernel → Served → Lent
served_written base number l k s =
    let r : Registers = given number (registers l.processor) in
    lent (enc_block s.kernel) (bank_after number l.bank k r) (processor_after number l.processor s) (window_after base l.window r s.word) l.answer

-- the answer is the call's
unfoldable pub dispatch : ℕ → ℕ → ℕ → Lent → Back
dispatch base number tick l =
    change
    (eqb (length l.block) 16384 and (eqb (length l.bank) 6656 and (eqb (length l.processor) 208 and window_ok base l.window)))
    (refusal base (length l.window) number (given number (registers l.processor)))
    (λ k. (served base number tick l k).kernel)
    (λ k. back (served base number tick l k).answer (served_written base number l k (served base number tick l k))) l

-- ---- collect
-- the result, its index, and the kind of the call that waited
abbrev pub collect_bytes : Kernel → List ℕ
collect_bytes k =
    (bytes 4 (result_number (svc.collected_result k)) ++ bytes 4 (result_index (svc.collected_result k))) ++ bytes 4 (syscall_number (svc.collected_syscall k))

unfoldable pub collect : Lent → Back
collect l =
    change (eqb (length l.block) 16384 and eqb (length l.answer) 12) (λ k. pick (runs? k) 0 4) svc.collect
    (λ k. back 0 (lent (enc_block (svc.collect k)) l.bank l.processor l.window (collect_bytes k))) l
