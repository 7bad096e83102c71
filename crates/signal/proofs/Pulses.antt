-- A slot without a pulse stays as it is. Assumes nothing.
use mathlib.Core.Path.{◌≡◌}
use mathlib.Core.Bool.{false}
use Rattle.types.specs.declared.object.Slot.{Slot}
use Rattle.pass.specs.Signal.{unpulsed_slot}

pub unpulsed_same : (s : Slot) → s.pulsed ≡ false → unpulsed_slot s ≡ s
unpulsed_same s e = rw e
