-- The objects that a list of handles makes, and the slots for them. Assumes nothing.
use Rattle.std.specs.Prelude.{Bool, true, false, List, [], ◌∷◌, ℕ, eqb, Option}
use Rattle.laws.specs.Logic.{pick, ◌and◌, ◌or◌}
use Rattle.types.specs.declared.object.HandleTable.{HandleTable}
use Rattle.types.specs.declared.object.ObjectStore.{ObjectStore}
use Rattle.types.specs.Object.{next_of}
use Rattle.sound.specs.View.{object_at}
use Rattle.objects.specs.Open.{makes_current, named}

-- whether the pseudo-handle p is met, before a handle that names no object
unfoldable pub met : Option ℕ → HandleTable → ℕ → List ℕ → Bool
met c t p [] = false
met c t p (h ∷ hs) = pick (eqb h p) true (pick (named c t h) (met c t p hs) false)

-- with no slot free one object is too many, with one slot two are
abbrev pub lacking : Bool → Bool → Bool → Bool → Bool
lacking none one thread process = pick none (thread or process) (one and (thread and process))

abbrev pub lacks_room : Option ℕ → HandleTable → ObjectStore → List ℕ → Bool
lacks_room c t s hs =
    lacking (eqb s.free 0) (eqb (next_of (object_at s s.free)) 0)
    (makes_current s c and met c t 0xFFFF8000 hs) (eqb s.process_object.0 0 and met c t 0xFFFF8001 hs)
