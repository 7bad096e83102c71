-- A list of operations by the states alone: where a test on states says that each is accepted, its entries are what the definitions do to the states.
use Rattle.std.specs.Prelude.{◌≡◌, Bool, not, ◌⊎◌, ℕ, length, replicate}
use Rattle.std.proofs.Common.{arith}
use Rattle.std.proofs.Math.Bool.{true, false}
use mathlib.Core.List.{List, [], ◌∷◌}
use Rattle.std.proofs.Math.Dec.{eqb}
use Rattle.laws.specs.Logic.{pick, ◌and◌}
use Rattle.codec.proofs.Fit.{bytes_zeros}
use Rattle.types.specs.declared.kernel.Kernel.{Kernel}
use Rattle.block.specs.Block.{dec_block}
use Rattle.sound.specs.Question.{sound?}
use Rattle.thread.specs.Threads as thread
use Rattle.pass.specs.Schedule as pass
use Rattle.svc.specs.declared.Registers.{Registers}
use Rattle.svc.specs.Dispatch.{given, runs?, refusal, call}
use Rattle.svc.specs.Collect as svc
use Rattle.demand.specs.Words.{Event}
use Rattle.course.specs.Course.{effect, event}
use Rattle.lent.specs.Lent.{accepted?}
use Rattle.lent.specs.Operations.{out_of_handles?, finding, end_refusal}
use Rattle.lent.specs.Guest.{registers, window_ok, words_in}
use Rattle.history.specs.Step.{Op, op_fresh_start, op_next_event, op_create_thread, op_schedule, op_satisfied_now, op_quiet_release, op_end_thread, op_dispatch, op_collect}
use Rattle.history.specs.Events.{doing}

-- ---- the entries of accepted operations, from a state
unfoldable pub play : List Op → Kernel → List Event
play [] k = []
play (op ∷ ops) k = event true k (doing op) (effect (doing op) k) ∷ play ops (effect (doing op) k)

-- ---- a block that question 2 accepts and that says a state
pub record Says (b : List ℕ) (k : Kernel) : Type 0 where
  pub sound : sound? b ≡ true
  pub state : dec_block b ≡ k

-- ---- whether an operation is accepted on a block that says k; of the operations that no list here has, none is
unfoldable pub takes? : Op → Kernel → Bool
takes? (op_fresh_start bank u word h) k = eqb (length bank) 6656
takes? (op_next_event answer u) k = eqb (length answer) 16 and not (out_of_handles? k)
takes? (op_create_thread bank u answer v entry e stack s arg a priority p processor q) k =
    (eqb (length bank) 6656 and eqb (length answer) 4) and eqb (finding (thread.create_thread k entry stack priority processor)) 0
takes? (op_schedule bank u processor p answer v tick h) k =
    (eqb (length bank) 6656 and (eqb (length processor) 208 and eqb (length answer) 4)) and eqb (finding (pass.schedule k tick).kernel) 0
takes? (op_satisfied_now handles w answer u all h tick t) k = false
takes? (op_quiet_release answer u handle h tick t) k = false
takes? (op_end_thread t h) k = eqb (end_refusal t k) 0 and eqb (finding (thread.end_thread k t)) 0
takes? (op_dispatch bank u processor p window w base x number n tick t) k =
    let r : Registers = given number (registers processor) in
    let words : List ℕ = words_in base window number r in
    (eqb (length bank) 6656 and (eqb (length processor) 208 and window_ok base window))
    and (eqb (refusal base (length window) number r k) 0 and (eqb (finding (call number k r words tick).kernel) 0 and accepted? (call number k r words tick).answer))
takes? (op_collect answer u) k = eqb (length answer) 12 and (eqb (pick (runs? k) 0 4) 0 and eqb (finding (svc.collect k)) 0)

unfoldable pub takes_all? : List Op → Kernel → Bool
takes_all? [] k = true
takes_all? (op ∷ ops) k = takes? op k and takes_all? ops (effect (doing op) k)

-- ---- from a fresh start on any 16,384 bytes
abbrev pub start : Op
start = op_fresh_start (replicate 6656 0) (bytes_zeros 6656) 0 (omega arith)

-- one that is lent no bank
abbrev pub start_refused : Op
start_refused = op_fresh_start [] (bytes_zeros 0) 0 (omega arith)

-- P holds of an entry with those after it
abbrev pub Somewhere : (Event → List Event → Type 0) → List Event → Type 0
Somewhere P [] = ⊥
Somewhere P (e ∷ es) = P e es ⊎ Somewhere P es
