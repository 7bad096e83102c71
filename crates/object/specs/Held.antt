-- One holder more of a slot. Assumes nothing.
use Rattle.std.specs.Prelude.{◌+◌, ltb}
use Rattle.laws.specs.Logic.{pick}
use Rattle.types.specs.declared.object.Slot.{Slot}
use Rattle.object.specs.Slots.{with_refcount}
use Rattle.object.specs.Store.{is_free}

abbrev pub held : Slot → Slot
held x = pick (is_free x.object) x (with_refcount x (pick (ltb x.refcount 4294967295) (x.refcount + 1) x.refcount))
