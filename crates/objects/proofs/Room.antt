-- Whether an object can be made for a handle, and what the store says after that. Assumes nothing.
use Rattle.std.proofs.lemmas.Grind.{common_steps}
use Rattle.std.specs.Prelude.{Option, Some, None}
use mathlib.Core.Path.{◌≡◌, refl, sym, ap, ◌∙◌}
use mathlib.Core.Bool.{Bool, true, false}
use mathlib.Core.List.{List}
use mathlib.Core.Logic.{◌≢◌}
use Prim.Native.Nat.{ℕ}
use lib.Dec.{eqb}
use borrow.Author.Tests.{eq-eqb, ne_eqb}
use Rattle.laws.specs.Logic.{pick, ◌and◌, ◌or◌, and-end, and-false}
use Rattle.codec.specs.Bytes.{le}
use Rattle.codec.specs.Layout.{dec_as}
use Rattle.types.specs.declared.object.ObjectStore.{ObjectStore}
use Rattle.types.specs.declared.kernel.Kernel.{Kernel}
use Rattle.block.specs.Block.{dec_block}
use Rattle.sound.specs.Objects.{kept_at}
use Rattle.object.specs.declared.kept.Resolved.{Resolved}
use Rattle.object.specs.Store.{insert}
use Rattle.object.specs.Kept.{thread_object, process_object, of_current, resolve}
use Rattle.svc.specs.Call.{with_objects, resolved}
use Rattle.calling.specs.Resolves.{resolve-overflow}
use Rattle.lent.specs.Operations.{finding, out_of_handles?}
use Rattle.outcome.specs.Findings.{found_of, parts-finding}
use Rattle.objects.specs.Open.{makes_current, makes, no_room}

-- y is s, or s with an object more
made-full : (t f : Bool) (s y : ObjectStore) → s.full ≡ false → y.full ≡ s.full or f → (pick t y s).full ≡ f and t
unfolding ◌or◌
made-full true f s y e g = g ∙ ap (λ (v : Bool). v or f) e ∙ sym (and-end f)
made-full false f s y e g = e ∙ sym (and-false f)

module _ (s : ObjectStore) (e : s.full ≡ false) where
  current-full : (c : Option ℕ) → (of_current s c).store.full ≡ eqb s.free 0 and makes_current s c
  unfolding thread_object insert
  current-full None = e ∙ sym (and-false (eqb s.free 0))
  current-full (Some t) = made-full (eqb (kept_at s t) 0) (eqb s.free 0) s _ e refl

  process-full : (process_object s).full ≡ eqb s.free 0 and eqb s.process_object.0 0
  unfolding process_object insert
  process-full = made-full (eqb s.process_object.0 0) (eqb s.free 0) s _ e refl

full_as : (p q f a b : Bool) (x y z : Resolved) → x.store.full ≡ f and a → y.store.full ≡ f and b → z.store.full ≡ false
    → (pick p x (pick q y z)).store.full ≡ f and pick p a (pick q b false)
full_as true q f a b x y z e g h = e
full_as false true f a b x y z e g h = g
full_as false false f a b x y z e g h = h ∙ sym (and-false f)

module _ (k : Kernel) (h : ℕ) where
  pub resolved-full : k.objects.full ≡ false → (resolved k h).store.full ≡ no_room k h
  unfolding resolve
  resolved-full e = full_as (eqb h 0xFFFF8000) (eqb h 0xFFFF8001) (eqb k.objects.free 0) _ _ _ _ _ (current-full k.objects e k.current_thread) (process-full k.objects e) e

-- ---- from what a block decodes to
module _ (b : List ℕ) (h : ℕ) where
  none-full : (dec_block b).objects.full ≡ false
  unfolding dec_block
  none-full = refl

  none-sum : (dec_block b).objects.overflow ≡ false
  unfolding dec_block
  none-sum = refl

  pub opened-full : (resolved (dec_block b) h).store.full ≡ no_room (dec_block b) h
  opened-full = resolved-full (dec_block b) h none-full

  pub opened-sum : (resolved (dec_block b) h).store.overflow ≡ false
  opened-sum = resolve-overflow (dec_block b).current_thread (dec_block b).handles (dec_block b).objects h ∙ none-sum

  -- what opening the handle finds
  pub opened-finding : finding (with_objects (dec_block b) (resolved (dec_block b) h).store) ≡ found_of (no_room (dec_block b) h) (out_of_handles? (dec_block b))
  unfolding ◌or◌
  opened-finding = parts-finding b (dec_block b).threads (resolved (dec_block b) h).store ∙ (λ i. found_of (opened-full i) (opened-sum i or out_of_handles? (dec_block b)))

-- ---- as the block is asked
module _ (b : List ℕ) (h : ℕ) where
  abbrev j : Kernel
  j = dec_block b

  -- f is its first free slot
  module _ (f : ℕ) (e : f ≡ le 4 b 32) where
    pub free-is : f ≡ j.objects.free
    unfolding dec_block dec_as
    free-is = e

    pub room-some : f ≢ 0 → false ≡ no_room j h
    unfolding ◌and◌
    room-some z = rw (ne_eqb j.objects.free 0 (λ w. z (free-is ∙ w)))

    pub room-none : f ≡ 0 → makes j h ≡ no_room j h
    unfolding ◌and◌
    room-none z = rw (eq-eqb j.objects.free 0 (sym free-is ∙ z))

  pub makes-current : h ≡ 0xFFFF8000 → (c : Option ℕ) → c ≡ j.current_thread → makes_current j.objects c ≡ makes j h
  makes-current w c q = rw (q, eq-eqb h 0xFFFF8000 w)

  -- p is the process's object
  module _ (n : h ≢ 0xFFFF8000) where
    pub makes-process : h ≡ 0xFFFF8001 → (p : ℕ) → p ≡ le 4 b 48 → eqb p 0 ≡ makes j h
    unfolding dec_block dec_as
    makes-process w p q = rw (q, ne_eqb h 0xFFFF8000 n, eq-eqb h 0xFFFF8001 w)

    pub makes-plain : h ≢ 0xFFFF8001 → false ≡ makes j h
    makes-plain w = rw (ne_eqb h 0xFFFF8000 n, ne_eqb h 0xFFFF8001 w)

pub ruleset rooms = (common_steps, room-some, room-none, makes-current, makes-process, makes-plain)
