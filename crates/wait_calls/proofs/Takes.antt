-- What is found of objects that a wait takes, and the block with them taken. Assumes nothing.
use Rattle.std.proofs.lemmas.Grind.{common_steps}
use Rattle.std.specs.Prelude.{Some, Result, Ok, Err}
use mathlib.Core.Path.{◌≡◌, refl, sym, ap, ◌∙◌}
use mathlib.Core.Bool.{Bool, true, false}
use mathlib.Core.List.{List}
use Prim.Native.Nat.{ℕ}
use native.Mathlib.Omega.{arith}
use Rattle.laws.specs.Logic.{pick, ◌or◌, or-end}
use Rattle.types.specs.declared.object.ObjectStore.{ObjectStore}
use Rattle.types.specs.declared.refusal.Refusal.{Refusal}
use Rattle.types.specs.declared.refusal.Refusal.TheVariants.{Overflow}
use Rattle.types.specs.Refusal.{unless_found}
use Rattle.types.specs.declared.kernel.Kernel.{Kernel}
use Rattle.block.specs.Block.{enc_block, dec_block}
use Rattle.sound.specs.View.{object_at}
use Rattle.sound.specs.Objects.{Live}
use Rattle.sound.specs.Question.{sound?}
use Rattle.sound.proofs.Question.{t_block}
use Rattle.soundness.specs.Whole.{sound-parts}
use Rattle.thread.specs.Threads.{with_threads}
use Rattle.pass.specs.Signal.{acquire_over, acquire, acquires}
use Rattle.passing.specs.Switch.{current-live}
use Rattle.parking.specs.Begins.{acquire-full, acquires-full}
use Rattle.svc.specs.Call.{done, with_objects}
use Rattle.lent.specs.Operations.{finding, out_of_handles?}
use Rattle.outcome.specs.Outcome.{left, left-0, left-found}
use Rattle.outcome.specs.Findings.{found_of, parts-finding}
use Rattle.rows.specs.Holds.{holds}
use Rattle.timer_calls.proofs.Found.{down}

-- the current thread lives
pub taker_lives : (b : List ℕ) → sound? b ≡ true → (w : ℕ) → (dec_block b).current_thread ≡ Some w → Live (dec_block b).threads w
taker_lives b s w c = current-live (dec_block b) (sound-parts (dec_block b) ((t_block b).yes s).state) w c

-- the objects t are left
module _ (b : List ℕ) (n : out_of_handles? (dec_block b) ≡ false) (t : ObjectStore) (full : t.full ≡ false) where
  abbrev after : Kernel
  after = with_objects (dec_block b) t

  -- a count that does not fit is found
  found_as : pick t.overflow 8 0 ≡ finding after
  found_as = sym (parts-finding b (dec_block b).threads t ∙ (λ i. found_of (full i) (t.overflow or n i)) ∙ ap (λ (v : Bool). pick v 8 0) (or-end t.overflow))

  holds_after : (e : List ℕ) → sound? e ≡ true → dec_block e ≡ with_threads (dec_block b) (dec_block b).threads t → e ≡ enc_block after
  holds_after e s d = (holds e s).same ∙ ap enc_block d

module _ (b : List ℕ) (n : out_of_handles? (dec_block b) ≡ false) (w : ℕ) where
  module _ (o : ℕ) where
    abbrev one : ObjectStore
    one = acquire (dec_block b).objects o w

    one-full : one.full ≡ false
    one-full = acquire-full (dec_block b).objects o w ∙ (down b).0

    over-is : one.overflow ≡ false or acquire_over (object_at (dec_block b).objects o)
    unfolding acquire
    over-is = ap (λ (z : Bool). z or acquire_over (object_at (dec_block b).objects o)) (down b).1

    abbrev over : Bool
    over = acquire_over (object_at (dec_block b).objects o)

    pub taken-finding : pick over 8 0 ≡ finding (with_objects (dec_block b) one)
    unfolding ◌or◌
    taken-finding = ap (λ (t : Bool). pick t 8 0) (sym over-is) ∙ found_as b n one one-full

    -- what taking it answers, and leaves in the block e
    pub taken-left : (a : Result (Unit {0}) Refusal) (e : List ℕ) → a ≡ unless_found (pick over 8 0) tt → (a ≡ Err Overflow → e ≡ b)
        → (a ≡ Ok tt → dec_block e ≡ with_threads (dec_block b) (dec_block b).threads one) → sound? e ≡ true → e ≡ left (done (with_objects (dec_block b) one)) b
    taken-left a e v same d s = go over refl
      where
        is : (t : Bool) → over ≡ t → finding (with_objects (dec_block b) one) ≡ pick t 8 0
        is t q = sym taken-finding ∙ ap (λ (x : Bool). pick x 8 0) q

        go : (t : Bool) → over ≡ t → e ≡ left (done (with_objects (dec_block b) one)) b
        go true q = same (v ∙ ap (λ (x : Bool). unless_found (pick x 8 0) tt) q) ∙ sym (left-found (done (with_objects (dec_block b) one)) b (λ z. let f = is true q in omega (arith, f, z)))
        go false q = holds_after b n one one-full e s (d (v ∙ ap (λ (x : Bool). unless_found (pick x 8 0) tt) q)) ∙ sym (left-0 (done (with_objects (dec_block b) one)) b (is false q))

  module _ (os : List ℕ) where
    abbrev all : ObjectStore
    all = acquires (dec_block b).objects os w

    all-full : all.full ≡ false
    all-full = acquires-full os (dec_block b).objects w ∙ (down b).0

    pub list-finding : pick all.overflow 8 0 ≡ finding (with_objects (dec_block b) all)
    list-finding = found_as b n all all-full

    pub list-left : (e : List ℕ) → sound? e ≡ true → dec_block e ≡ with_threads (dec_block b) (dec_block b).threads all → e ≡ enc_block (with_objects (dec_block b) all)
    list-left e s d = holds_after b n all all-full e s d

pub ruleset takings = (common_steps, taker_lives, taken-finding, taken-left, list-finding, list-left)
