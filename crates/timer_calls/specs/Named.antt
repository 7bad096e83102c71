-- The calls that name a timer, once the timers have fired and the handle is open: k is the state then, o the object. Assumes nothing.
use Rattle.std.specs.Prelude.{ℕ}
use Rattle.types.specs.declared.object.KObject.{KObject}
use Rattle.types.specs.declared.kernel.Kernel.{Kernel}
use Rattle.sound.specs.View.{object_at}
use Rattle.object.specs.declared.kept.Resolved.{Resolved}
use Rattle.object.specs.Slots.{content}
use Rattle.svc.specs.declared.Registers.{Registers}
use Rattle.svc.specs.declared.Served.{Served}
use Rattle.svc.specs.Call.{done, with_objects, pair, resolved}
use Rattle.svc.specs.Timers.{caught_up, not_below, set_timer_as}

abbrev pub set_opened : Kernel → ℕ → Registers → ℕ → Served
set_opened k o r tick = set_timer_as (object_at k.objects o) k o (not_below (pair r.r2 r.r3)) (not_below (pair r.r1 r.r4)) tick

-- the object with what f makes of it
abbrev pub changed : (KObject → KObject) → Kernel → ℕ → Kernel
changed f k o = with_objects k (content k.objects o (f (object_at k.objects o)))

-- what `cancel_timer` and `clear_timer` share: the timers fire, the handle is opened, its object changes
unfoldable pub change_caught : (KObject → KObject) → Kernel → Registers → ℕ → Served
change_caught f k r tick =
    let c : Kernel = caught_up k tick in
    let x : Resolved = resolved c r.r0 in
    done (changed f (with_objects c x.store) x.object.0)
