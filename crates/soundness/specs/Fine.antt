-- The laws as implications from "the flag is down after", for compositions: what is known before may hang on the flag too.
use Rattle.std.specs.Prelude.{◌≡◌, refl, List, [], ◌∷◌, ℕ}
use Rattle.std.proofs.Common.{◌∙◌}
use Rattle.types.specs.declared.object.ObjectStore.{ObjectStore}
use Rattle.sound.specs.View.{object_at}
use Rattle.object.specs.Store.{is_free, add_ref, add_refs}
use Rattle.soundness.specs.Slots.{pick-both}

pub add_ref-full : (s : ObjectStore) (o : ℕ) → (add_ref s o).full ≡ s.full
unfolding add_ref
add_ref-full s o = pick-both (λ (y : ObjectStore). y.full ≡ s.full) (is_free (object_at s o)) s _ refl refl

pub add_refs-full : (os : List ℕ) (s : ObjectStore) → (add_refs s os).full ≡ s.full
unfolding add_refs
add_refs-full [] s = refl
add_refs-full (o ∷ os) s = add_refs-full os (add_ref s o) ∙ add_ref-full s o
