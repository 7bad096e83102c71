-- One turn of a look at each slot of a block. Assumes nothing.
use mathlib.Core.Path.{◌≡◌, sym, ap, ◌∙◌}
use mathlib.Core.Bool.{Bool, true, false}
use mathlib.Core.List.{List, [], ◌∷◌}
use Prim.Native.Nat.{ℕ, ◌+◌, ◌*◌, ◌≤◌, ◌<◌}
use native.Mathlib.Omega.{arith}
use lib.ListN.{get_or, take, drop}
use Rattle.laws.specs.Logic.{◌or◌, or_yes, or_no}
use Rattle.types.specs.declared.thread.Thread.{Thread}
use Rattle.types.specs.declared.object.Slot.{Slot}
use Rattle.block.specs.Thread.{dec_thread}
use Rattle.block.specs.Slot.{dec_slot}
use Rattle.block.specs.Block.{dec_block}
use Rattle.block.specs.Tables.{row_at}
use Rattle.sound.specs.View.{no_slot, no_thread}
use Rattle.rows.specs.Sizes.{size-slots}
use Rattle.signal.proofs.Steps.{any_step, any_end}

-- what the bytes of a slot and of a thread say
abbrev pub slot_in : List ℕ → ℕ → Slot
slot_in b i = dec_slot (take 40 (drop (5248 + i * 40) b))

abbrev pub thread_in : List ℕ → ℕ → Thread
thread_in b i = dec_thread (take 160 (drop (128 + i * 160) b))

module _ (b : List ℕ) where
  pub thread-is : (i : ℕ) → i < 32 → thread_in b i ≡ get_or (dec_block b).threads i no_thread
  unfolding dec_block
  thread-is i h = row_at dec_thread 160 no_thread 32 b 128 i h

  abbrev slots : List Slot
  slots = (dec_block b).objects.slots

  pub slot_is : (i : ℕ) → i < 128 → slot_in b i ≡ get_or slots i no_slot
  unfolding dec_block
  slot_is i h = row_at dec_slot 40 no_slot 128 b 5248 i h

  -- whether f holds of any slot, where it holds of none before slot i
  module _ (f : Slot → Bool) (any : List Slot → Bool) (none : any [] ≡ false) (more : (x : Slot) (xs : List Slot) → any (x ∷ xs) ≡ f x or any xs) (i : ℕ) (e : any (drop i slots) ≡ any slots) where
    step : i < 128 → any slots ≡ f (slot_in b i) or any (drop (i + 1) slots)
    step h = sym e ∙ any_step no_slot f any none more slots i (omega (arith, size-slots b)) ∙ ap (λ x. f x or any (drop (i + 1) slots)) (sym (slot_is i h))

    pub look_hit : i < 128 → f (slot_in b i) ≡ true → any slots ≡ true
    look_hit h t = step h ∙ or_yes _ _ t

    pub look_miss : i < 128 → f (slot_in b i) ≡ false → any (drop (i + 1) slots) ≡ any slots
    look_miss h t = sym (step h ∙ or_no _ _ t)

    pub look_end : 128 ≤ i → any slots ≡ false
    look_end h = sym e ∙ any_end no_slot f any none more slots i (omega (arith, size-slots b))
