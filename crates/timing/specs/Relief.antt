-- The relief flag is a pass's own: nothing else touches it.
use Rattle.units.specs.declared.Ticks.{Ticks}
use Rattle.std.specs.Prelude.{◌≡◌, refl, Bool, List, ℕ, Option, Some, None}
use Rattle.units.specs.declared.ObjectId.{ObjectId}
use Rattle.types.specs.declared.kernel.Kernel.{Kernel}
use Rattle.thread.specs.Threads.{create_thread, set_priority, end_wait, end_thread}
use Rattle.pass.specs.Waits.{begin_wait_as, begin_wait, sleep_as, sleep_current}

pub create-relief : (k : Kernel) (entry stack priority processor : ℕ) → (create_thread k entry stack priority processor).relief ≡ k.relief
unfolding create_thread
create-relief k entry stack priority processor = refl

pub end-relief : (k : Kernel) (t : ℕ) → (end_thread k t).relief ≡ k.relief
unfolding end_thread end_wait
end-relief k t = refl

pub priority-relief : (k : Kernel) (t p : ℕ) → (set_priority k t p).relief ≡ k.relief
unfolding set_priority
priority-relief k t p = refl

begin-flag : (c : Option ℕ) (k : Kernel) (os : List ObjectId) (n : ℕ) (all : Bool) (timeout : Option Ticks) (tick : ℕ)
    → (begin_wait_as c k os n all timeout tick).relief ≡ k.relief
begin-flag None k os n all timeout tick = refl
begin-flag (Some c) k os n all timeout tick = refl

pub begin-relief : (k : Kernel) (os : List ObjectId) (n : ℕ) (all : Bool) (timeout : Option Ticks) (tick : ℕ)
    → (begin_wait k os n all timeout tick).relief ≡ k.relief
unfolding begin_wait
begin-relief k os n all timeout tick = begin-flag k.current_thread k os n all timeout tick

sleep-flag : (c : Option ℕ) (k : Kernel) (ticks tick : ℕ) → (sleep_as c k ticks tick).relief ≡ k.relief
sleep-flag None k ticks tick = refl
sleep-flag (Some c) k ticks tick = refl

pub sleep-relief : (k : Kernel) (ticks tick : ℕ) → (sleep_current k ticks tick).relief ≡ k.relief
unfolding sleep_current
sleep-relief k ticks tick = sleep-flag k.current_thread k ticks tick
