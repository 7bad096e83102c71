-- What leaves records and the heads of chains as they were, so every chain too.
use Rattle.std.specs.Prelude.{◌≡◌, refl, List, [], ◌∷◌, map, ℕ, ◌<◌}
use Rattle.std.proofs.Common.{ap, sym, ◌∙◌}
use Rattle.laws.specs.Walk.{walk}
use Rattle.types.specs.declared.object.KObject.{KObject}
use Rattle.types.specs.declared.object.Slot.{Slot}
use Rattle.types.specs.declared.object.Waiter.{Waiter}
use Rattle.types.specs.declared.object.ObjectStore.{ObjectStore}
use Rattle.types.specs.Object.{head_of}
use Rattle.sound.specs.View.{waiter_nexts, object_at}
use Rattle.sound.specs.Records.{chain_of}
use Rattle.object.specs.Slots.{with_slots}
use Rattle.object.specs.Store.{is_free, insert, add_ref, add_refs}
use Rattle.soundness.specs.Slots.{pick-both, head_at, slot-f}
use Rattle.soundness.specs.Objects.{Shape, shape_of, ObOk, slot_at-map, free-head, free-kind}

pub record SameRecs (s s' : ObjectStore) : Type 0 where
  pub waiters : s'.waiters ≡ s.waiters
  pub free : s'.free_waiter ≡ s.free_waiter
  pub heads : (o : ℕ) → head_of (object_at s' o) ≡ head_of (object_at s o)

pub same_refl : (s : ObjectStore) → SameRecs s s
same_refl s = record { waiters = refl; free = refl; heads = λ o. refl }

pub same_trans : (s s' s'' : ObjectStore) → SameRecs s s' → SameRecs s' s'' → SameRecs s s''
same_trans s s' s'' a b = record { waiters = b.waiters ∙ a.waiters; free = b.free ∙ a.free; heads = λ o. b.heads o ∙ a.heads o }

pub chain_same : (s s' : ObjectStore) → SameRecs s s' → (o : ℕ) → chain_of s' o ≡ chain_of s o
chain_same s s' e o =
    ap (λ (w : List Waiter). walk (waiter_nexts w) 64 (head_of (object_at s' o))) e.waiters ∙ ap (walk (waiter_nexts s.waiters) 64) (e.heads o)

pub contents-same : (g : Slot → Slot) → ((x : Slot) → shape_of (g x).object ≡ shape_of x.object) → (s : ObjectStore) → SameRecs s (with_slots s (map g s.slots))
contents-same g e s = record { waiters = refl; free = refl; heads = λ o. slot_at-map head_at g (λ x. ap (λ (q : Shape). q.head) (e x)) s.slots o }

pub add_ref-same : (s : ObjectStore) (o : ℕ) → SameRecs s (add_ref s o)
unfolding add_ref
add_ref-same s o = pick-both (SameRecs s) (is_free (object_at s o)) s _ (same_refl s) (record { waiters = refl; free = refl; heads = λ i. slot-f head_at s.slots o _ i refl })

pub add_refs-same : (os : List ℕ) (s : ObjectStore) → SameRecs s (add_refs s os)
unfolding add_refs
add_refs-same [] s = same_refl s
add_refs-same (o ∷ os) s = same_trans s (add_ref s o) _ (add_ref-same s o) (add_refs-same os (add_ref s o))

pub insert-same : (s : ObjectStore) (v : KObject) (f : ℕ → ℕ) → head_of v ≡ 0 → 0 < s.free → ObOk s f → SameRecs s (insert s v)
unfolding insert
insert-same s v f hz z h = record { waiters = refl; free = refl; heads = λ o. slot-f head_at s.slots s.free _ o (hz ∙ sym (free-head (object_at s s.free) (free-kind s f h z))) }
