-- Every slot of a sound block in a pass: timers fire, pulses end. Assumes nothing.
use mathlib.Core.Path.{◌≡◌, refl, sym, ap, subst, ◌∙◌}
use mathlib.Core.Bool.{Bool, true, false}
use mathlib.Core.List.{List, map}
use Prim.Native.Nat.{ℕ, ◌+◌, ◌≤◌, ◌<◌}
use Rattle.std.proofs.lemmas.Grind.{common_steps}
use lib.ListN.{length, get_or, drop}
use Rattle.laws.specs.Logic.{◌or◌, or-end, or_yes, or_no}
use Rattle.types.specs.declared.object.Slot.{Slot}
use Rattle.types.specs.declared.kernel.Kernel.{Kernel}
use Rattle.block.specs.Block.{dec_block}
use Rattle.sound.specs.View.{no_slot}
use Rattle.sound.specs.Question.{sound?}
use Rattle.sound.proofs.Question.{t_block}
use Rattle.object.specs.Slots.{with_slots}
use Rattle.soundness.specs.Whole.{Parts, sound-parts}
use Rattle.thread.specs.Threads.{with_threads}
use Rattle.rows.specs.Holds.{Holds}
use Rattle.rows.specs.Sizes.{size-slots}
use Rattle.rows.specs.Slots.{slotted, SlotsTo, slots-each, slot-before}
use Rattle.release.specs.Encoded.{held-sound}
use Rattle.pass.specs.Signal.{with_overflow, unpulsed_slot, clear_pulses}
use Rattle.pass.specs.Timers.{fired_slot, over_of, any_over, fire_timers}
use Rattle.signal.proofs.Steps.{any_step, any_end}
use Rattle.passing.specs.Timers.{fire_timers-parts, clear_pulses-parts}

-- ---- whether a count of periods does not fit, where none of the first i slots has one
module _ (tick : ℕ) (l : List Slot) (i : ℕ) (e : any_over tick (drop i l) ≡ any_over tick l) where
  step : i < length l → any_over tick l ≡ over_of (get_or l i no_slot).object tick or any_over tick (drop (i + 1) l)
  unfolding any_over
  step h = sym e ∙ any_step no_slot (λ (x : Slot). over_of x.object tick) (any_over tick) refl (λ x xs. refl) l i h

  pub over_hit : i < length l → over_of (get_or l i no_slot).object tick ≡ true → any_over tick l ≡ true
  over_hit h t = step h ∙ or_yes _ _ t

  pub over_miss : i < length l → over_of (get_or l i no_slot).object tick ≡ false → any_over tick (drop (i + 1) l) ≡ any_over tick l
  over_miss h t = sym (step h ∙ or_no _ _ t)

  pub over-end : length l ≤ i → any_over tick l ≡ false
  unfolding any_over
  over-end h = sym e ∙ any_end no_slot (λ (x : Slot). over_of x.object tick) (any_over tick) refl (λ x xs. refl) l i h

module _ (s : List ℕ) (e : sound? s ≡ true) where
  abbrev k : Kernel
  k = dec_block s

  parts : Parts k
  parts = sound-parts k ((t_block s).yes e).state

  module _ (tick : ℕ) (fine : any_over tick k.objects.slots ≡ false) where
    -- the finding stays down
    flag : k.objects.overflow ≡ k.objects.overflow or any_over tick k.objects.slots
    flag = sym (ap (λ (z : Bool). k.objects.overflow or z) fine ∙ or-end k.objects.overflow)

    none_over : (fire_timers k.objects tick).overflow ≡ false
    unfolding fire_timers
    none_over = sym flag ∙ parts.clean.3

    state-is : slotted s (map (fired_slot tick) k.objects.slots) ≡ with_threads k k.threads (fire_timers k.objects tick)
    unfolding fire_timers
    state-is = ap (λ (v : Bool). with_threads k k.threads (with_overflow (with_slots k.objects (map (fired_slot tick) k.objects.slots)) v)) flag

    pub fired-all : (b : List ℕ) (i : ℕ) → 128 ≤ i → SlotsTo s (λ _. fired_slot tick) i b → (dec_block b ≡ with_threads k k.threads (fire_timers k.objects tick)) × (sound? b ≡ true)
    fired-all b i h m = held-sound b _ (subst (Holds b) state-is (slots-each s (fired_slot tick) i b h m)) (fire_timers-parts k parts tick none_over)

  pub cleared-all : (b : List ℕ) (i : ℕ) → 128 ≤ i → SlotsTo s (λ _. unpulsed_slot) i b → (dec_block b ≡ with_threads k k.threads (clear_pulses k.objects)) × (sound? b ≡ true)
  unfolding clear_pulses
  cleared-all b i h m = held-sound b _ (slots-each s unpulsed_slot i b h m) (clear_pulses-parts k parts)

pub ruleset fires = (common_steps, size-slots, slot-before, over_hit)
