-- A sound block, with the signals of objects of it taken by a thread that lives. Assumes nothing.
use mathlib.Core.Path.{◌≡◌, refl, sym, ap, subst, ◌∙◌}
use mathlib.Core.Bool.{Bool, true, false}
use mathlib.Core.List.{List, [], ◌∷◌}
use Prim.Native.Nat.{ℕ}
use Rattle.laws.specs.Logic.{pick, ◌or◌, or-end, or-false}
use Rattle.std.specs.Prelude.{Ok, Err}
use Rattle.std.proofs.lemmas.Grind.{common_steps}
use Rattle.types.specs.Refusal.{unless_found}
use Rattle.types.specs.declared.refusal.Refusal.{Refusal}
use Rattle.types.specs.declared.refusal.Refusal.TheVariants.{Overflow}
use Rattle.types.specs.declared.object.Slot.{Slot}
use Rattle.types.specs.declared.object.ObjectStore.{ObjectStore}
use Rattle.types.specs.declared.kernel.Kernel.{Kernel}
use Rattle.block.specs.Block.{dec_block}
use Rattle.sound.specs.View.{slot_at, object_at}
use Rattle.sound.specs.Objects.{Live}
use Rattle.sound.specs.Question.{sound?}
use Rattle.sound.proofs.Question.{t_block}
use Rattle.object.specs.Slots.{with_object, with_slots, content}
use Rattle.object.specs.Slots as object
use Rattle.soundness.specs.Whole.{sound-parts}
use Rattle.thread.specs.Threads.{with_threads}
use Rattle.rows.specs.Rows.{slot_put}
use Rattle.rows.specs.Holds.{Holds, holds, put-slot}
use Rattle.release.specs.Encoded.{held-sound}
use Rattle.release.proofs.Lists.{list-all}
use Rattle.pass.specs.Signal.{acquired, acquire_over, with_overflow, acquire, acquires}
use Rattle.passing.specs.Signal.{acquires-sticks, acquire-parts}

-- the state k with other objects
abbrev with : Kernel → ObjectStore → Kernel
with k s = with_threads k k.threads s

module _ (b : List ℕ) (s : sound? b ≡ true) (o w : ℕ) (live : Live (dec_block b).threads w) where
  abbrev k : Kernel
  k = dec_block b

  -- no count too large
  module _ (fine : acquire_over (object_at k.objects o) ≡ false) where
    none_over : (acquire k.objects o w).overflow ≡ false
    unfolding acquire dec_block ◌or◌
    none_over = fine

    flag : k.objects.overflow ≡ k.objects.overflow or acquire_over (object_at k.objects o)
    flag = sym (ap (λ (z : Bool). k.objects.overflow or z) fine ∙ or-end k.objects.overflow)

    held : (x : Slot) → x ≡ slot_at k.objects.slots o → Holds (slot_put b o (with_object x (acquired x.object w))) (with k (acquire k.objects o w))
    unfolding acquire content
    held x e =
        subst (λ (v : Bool). Holds (slot_put b o (with_object x (acquired x.object w))) (with k (with_overflow (content k.objects o (acquired (object_at k.objects o) w)) v))) flag
        (subst (λ (y : Slot). Holds (slot_put b o (with_object x (acquired x.object w))) (with k (with_slots k.objects (object.slot_put k.objects.slots o (with_object y (acquired y.object w)))))) e
        (put-slot (holds b s) o (with_object x (acquired x.object w))))

    pub taken : (x : Slot) → x ≡ slot_at k.objects.slots o → (e : List ℕ) → e ≡ slot_put b o (with_object x (acquired x.object w))
        → (dec_block e ≡ with k (acquire k.objects o w)) × (sound? e ≡ true)
    taken x ex e p = held-sound e _ (subst (λ (z : List ℕ). Holds z (with k (acquire k.objects o w))) (sym p) (held x ex)) (acquire-parts k (sound-parts k ((t_block b).yes s).state) o w live none_over)

first_fits : (s : ObjectStore) (o : ℕ) (os : List ℕ) (w : ℕ) → (acquires s (o ∷ os) w).overflow ≡ false → acquire_over (object_at s o) ≡ false
unfolding acquires acquire
first_fits s o os w e = (or-false s.overflow (acquire_over (object_at s o)) (acquires-sticks os (acquire s o w) w e)).1

-- a count is refused or not
pub fits-as : {A : Type 0} (v : Bool) (x y : A) → unless_found (pick v 8 0) x ≡ Ok y → v ≡ false
fits-as true x y e = cc
fits-as false x y e = refl

pub refused-as : {A : Type 0} (v : Bool) (x : A) (r : Refusal) → unless_found (pick v 8 0) x ≡ Err r → (v ≡ true) × (r ≡ Overflow)
refused-as true x r e = (refl, cc)
refused-as false x r e = cc

pub over-is : (s : ObjectStore) (o : ℕ) (x : Slot) → x ≡ slot_at s.slots o → (r : Bool) → r ≡ false or acquire_over x.object → r ≡ acquire_over (object_at s o)
unfolding ◌or◌
over-is s o x e r q = q ∙ ap (λ (y : Slot). acquire_over y.object) e

-- ---- a list, from the state k on; those of the rest are still to be taken
module _ (k : Kernel) (os : List ℕ) (w : ℕ) where
  pub record Taking (b rest : List ℕ) : Type 0 where
    pub sound : sound? b ≡ true
    pub threads : (dec_block b).threads ≡ k.threads
    pub goal : with (dec_block b) (acquires (dec_block b).objects rest w) ≡ with k (acquires k.objects os w)

  pub take_more : (b e : List ℕ) (o : ℕ) (rest : List ℕ) → Taking b (o ∷ rest) → dec_block e ≡ with (dec_block b) (acquire (dec_block b).objects o w) → sound? e ≡ true → Taking e rest
  unfolding acquires
  take_more b e o rest g d s = record {
    sound = s;
    threads = ap (λ (z : Kernel). z.threads) d ∙ g.threads;
    goal = ap (λ (z : Kernel). with z (acquires z.objects rest w)) d ∙ g.goal;
  }

  pub take-over : (b : List ℕ) (o : ℕ) (rest : List ℕ) → Taking b (o ∷ rest) → acquire_over (object_at (dec_block b).objects o) ≡ true → (acquires k.objects os w).overflow ≡ true
  take-over b o rest g e = go (acquires k.objects os w).overflow (λ q. sym (first_fits (dec_block b).objects o rest w (ap (λ (z : Kernel). z.objects.overflow) g.goal ∙ q)) ∙ e)
    where
      go : (t : Bool) → (t ≡ false → false ≡ true) → t ≡ true
      go true f = refl
      go false f = f refl

  pub take-end : (b : List ℕ) → Taking b [] → dec_block b ≡ with k (acquires k.objects os w)
  unfolding acquires
  take-end b g = g.goal

  pub take-none-over : (b : List ℕ) → Taking b [] → (acquires k.objects os w).overflow ≡ false
  unfolding acquires dec_block
  take-none-over b g = sym (ap (λ (z : Kernel). z.objects.overflow) g.goal)

pub ruleset takes = (common_steps, over-is, taken)

pub ruleset lists = (common_steps, list-all, take-end, take-none-over)
