-- The first place of a list whose signal is as wanted, as `position` tells it. Assumes nothing.
use Rattle.std.specs.Prelude.{◌≡◌, refl, Bool, true, false, not, cond, ltb, List, [], ◌∷◌, ℕ, ◌+◌, length, Option, Some, None}
use Rattle.std.proofs.lemmas.Grind.{common_steps}
use Rattle.std.proofs.Common.{le-leb}
use Rattle.std.proofs.Common.{arith, ap, inl, inr, lt-ltb, le-ltb, ◌∙◌}
use Rattle.std.specs.List.{position_or_len}
use Rattle.laws.specs.Logic.{pick, lt-cases}
use Rattle.units.specs.declared.ObjectId.{ObjectId}
use Rattle.types.specs.declared.thread.Thread as th
use Rattle.types.specs.declared.object.Slot.{Slot}
use Rattle.sound.specs.View.{ids, slot_at, thread_at-out}
use Rattle.rows.specs.Sizes.{size-threads}
use Rattle.pass.specs.Signal.{is_signaled}
use Rattle.wait.specs.Looks.{as_wanted, first_where}

step : (b : Bool) (i n m p q : ℕ) (r : Option ℕ) → r ≡ cond (ltb n m) (Some (i + 1 + n)) None → p ≡ cond b 0 (n + 1) → q ≡ m + 1
    → pick b (Some i) r ≡ cond (ltb p q) (Some (i + p)) None
step true i n m p q r e f g = rw (lt-ltb p q (omega arith)) (ap Some (omega arith))
step false i n m p q r e f g = elim (lt-cases n m) [
  | inl h ↦ e ∙ rw (lt-ltb n m h, lt-ltb p q (omega arith)) (ap Some (omega arith))
  | inr h ↦ e ∙ rw (le-ltb n m h, le-ltb p q (omega arith))
]

module _ (ts : List th.Thread) (l : List Slot) (w : ℕ) (want : Bool) where
  abbrev pub wanted : ObjectId → Bool
  wanted o = as_wanted want (is_signaled ts (slot_at l o.0).object w)

  from : (i : ℕ) (os : List ObjectId) → first_where ts l w want i (ids os) ≡ cond (ltb (position_or_len wanted os) (length os)) (Some (i + position_or_len wanted os)) None
  unfolding first_where
  from i [] = refl
  from i (o ∷ os) = step (wanted o) i (position_or_len wanted os) (length os) _ (length (o ∷ os)) _ (from (i + 1) os) (more (wanted o) (position_or_len wanted os)) (omega arith)
    where
      more : (b : Bool) (n : ℕ) → ◌≡◌ {A = ℕ} (cond (not b) (1 + n) 0) (cond b 0 (n + 1))
      more true n = refl
      more false n = omega arith

  pub first-place : (os : List ObjectId) → first_where ts l w want 0 (ids os) ≡ cond (ltb (position_or_len wanted os) (length os)) (Some (position_or_len wanted os)) None
  first-place os = from 0 os ∙ ap (λ (k : ℕ). cond (ltb (position_or_len wanted os) (length os)) (Some k) None) (omega arith)

pub ruleset gone = (common_steps, le-leb, size-threads, thread_at-out)
