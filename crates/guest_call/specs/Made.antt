-- A thread that 0x08 makes has a place, unless its making was found too full. Assumes nothing.
use Rattle.std.specs.Prelude.{◌≡◌, Bool, true, false, List, ℕ, ◌<◌, eqb, leb, IfSome, Some, None}
use Rattle.std.proofs.Common.{leb-false}
use Rattle.guest.specs.declared.bank.Made.{Made}
use Rattle.guest.specs.Made.{made_by}
use Rattle.laws.specs.Logic.{pick, or-false}
use Rattle.types.specs.declared.kernel.Kernel.{Kernel}
use Rattle.thread.specs.Threads as thread
use Rattle.svc.specs.declared.Registers.{Registers}
use Rattle.svc.specs.declared.Served.{Served}
use Rattle.svc.specs.Threads as svc
use Rattle.svc.specs.Dispatch.{call}

made : (k : Kernel) (r : Registers) (rest : Served) (b : Bool)
    → (pick b (svc.create_thread k r) rest).kernel.full ≡ false
    → IfSome (pick b (Some (record {
      id = thread.ended_thread k;
      tls = thread.tls_slot k;
      status_word = k.status_word;
    })) None) (λ (m : Made). m.id < 32)
unfolding svc.create_thread thread.create_thread
made k r rest true e = leb-false 32 (thread.ended_thread k) (or-false k.full (leb 32 (thread.ended_thread k)) e).1
made k r rest false e = tt

pub call-made : (number : ℕ) (k : Kernel) (r : Registers) (words : List ℕ) (tick : ℕ) → (call number k r words tick).kernel.full ≡ false
    → IfSome (made_by number k) (λ (m : Made). m.id < 32)
unfolding call
call-made number k r words tick e = made k r _ (eqb number 8) e
