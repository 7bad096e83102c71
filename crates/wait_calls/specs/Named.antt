-- `wait_synchronization1` once the timers have fired and the handle is open: k is the state then, o the object. Assumes nothing.
use Rattle.std.specs.Prelude.{◌≡◌, refl, ℕ, eqb}
use Rattle.laws.specs.Logic.{pick}
use Rattle.types.specs.declared.kernel.Kernel.{Kernel}
use Rattle.svc.specs.declared.Registers.{Registers}
use Rattle.svc.specs.declared.Served.{Served}
use Rattle.svc.specs.Call.{answers, with_objects, pair, resolved}
use Rattle.svc.specs.Timers.{caught_up}
use Rattle.svc.specs.Waits.{wait1_as, wait_synchronization1}

abbrev pub wait1_opened : Kernel → ℕ → Registers → ℕ → Served
wait1_opened k o r tick = pick (eqb o 0) (answers 16 k) (wait1_as k.current_thread k o (pair r.r2 r.r3) tick)

pub wait1_is : (k : Kernel) (r : Registers) (tick : ℕ)
    → wait_synchronization1 k r tick ≡ wait1_opened (with_objects (caught_up k tick) (resolved (caught_up k tick) r.r0).store) (resolved (caught_up k tick) r.r0).object.0 r tick
unfolding wait_synchronization1
wait1_is k r tick = refl
