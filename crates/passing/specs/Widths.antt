-- The widths of a thread's numbers by name, in groups that change together. Its flags and enums fit whatever they are.
use Rattle.std.specs.Prelude.{◌≡◌, List, ℕ, ◌^◌, ◌<◌, length}
use Rattle.laws.specs.All.{All}
use Rattle.units.specs.declared.ObjectId.{ObjectId}
use Rattle.types.specs.declared.thread.Thread.{Thread}
use Rattle.types.specs.Thread.{wait_list, tick_value, option_value, result_index}
use Rattle.codec.proofs.Fit.{◌&◌, flag-fits}
use Rattle.block.proofs.Enums.{status-fits, option-flag-fits, result_fits, syscall_fits}
use Rattle.block.proofs.Fits.{IdFits, ThreadFits}
use Rattle.soundness.specs.Fits.{Word}

-- what a thread is made with
pub record Own (p e s t c g : ℕ) : Type 0 where
  pub priority : Word p
  pub entry : Word e
  pub stack : Word s
  pub tls : Word t
  pub processor : Word c
  pub guest : Word g

-- what it waits for
pub record Wait (n a w : ℕ) (l : List ObjectId) : Type 0 where
  pub count : Word n
  pub address : Word a
  pub wakeup : w < 256 ^ 8
  pub ids : All IdFits l
  pub size : length l ≡ wait_list

pub record Widths (t : Thread) : Type 0 where
  pub own : Own t.priority t.entry t.stack_top t.tls t.processor_id t.guest_id
  pub wait : Wait t.wait_count (option_value t.wait_address) (tick_value t.wakeup_at) t.wait_objects
  pub index : Word (result_index t.wait_result)
  pub since : t.running_since.0 < 256 ^ 8

pub widths-of : (t : Thread) → ThreadFits t → Widths t
widths-of t f =
    let a = f.0.1 in
    let b = a.1.1.1.1.1 in
    let c = b.1.1.1.1.1 in
    let d = c.1.1.1.1 in
    record {
      own = record { priority = a.0; entry = a.1.0; stack = a.1.1.0; tls = a.1.1.1.0; processor = a.1.1.1.1.0; guest = d.0 };
      wait = record { count = b.0; address = c.0; wakeup = d.1.0; ids = f.1; size = f.2 };
      index = c.1.1.0;
      since = d.1.1.0;
    }

pub fits-of : (t : Thread) → Widths t → ThreadFits t
fits-of t w = (
  status-fits t.status
      & w.own.priority
      & w.own.entry
      & w.own.stack
      & w.own.tls
      & w.own.processor
      & w.wait.count
      & flag-fits t.wait_all
      & flag-fits t.waited
      & option-flag-fits t.wakeup_at
      & option-flag-fits t.wait_address
      & w.wait.address
      & result_fits t.wait_result
      & w.index
      & syscall_fits t.wait_syscall
      & w.own.guest
      & w.wait.wakeup
      & w.since
      & tt,
  w.wait.ids,
  w.wait.size,
)
