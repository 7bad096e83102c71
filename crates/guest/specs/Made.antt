-- The row of the thread that 0x08 makes, with what is looked up of it before the call. Assumes nothing.
use Rattle.std.specs.Prelude.{◌≡◌, refl, Bool, true, false, List, ℕ, ◌*◌, eqb, Option, Some, None}
use Rattle.laws.specs.Logic.{pick}
use Rattle.codec.specs.Bytes.{over}
use Rattle.types.specs.declared.kernel.Kernel.{Kernel}
use Rattle.block.specs.Context.{enc_context}
use Rattle.thread.specs.Thread.{new_context}
use Rattle.thread.specs.Threads.{ended_thread, tls_slot}
use Rattle.svc.specs.declared.Registers.{Registers}
use Rattle.lent.specs.Guest.{bank_after}
use Rattle.guest.specs.declared.bank.Made.{Made}

abbrev pub made_by : ℕ → Kernel → Option Made
made_by number k = pick (eqb number 8)
    (Some (record { id = ended_thread k; tls = tls_slot k; status_word = k.status_word })) None

abbrev pub bank_made : List ℕ → Option Made → Registers → List ℕ
bank_made bank None r = bank
bank_made bank (Some m) r = over bank (m.id * 208) (enc_context (new_context m.status_word r.r1 r.r3 r.r2 m.tls))

-- as the definition has it
pub bank-made : (number : ℕ) (bank : List ℕ) (k : Kernel) (r : Registers)
    → bank_made bank (made_by number k) r ≡ bank_after number bank k r
bank-made number bank k r = go (eqb number 8)
  where
    go : (t : Bool) → bank_made bank
        (pick t (Some (record { id = ended_thread k; tls = tls_slot k; status_word = k.status_word })) None) r
        ≡ pick t (over bank (ended_thread k * 208) (enc_context (new_context k.status_word r.r1 r.r3 r.r2 (tls_slot k)))) bank
    go true = refl
    go false = refl
