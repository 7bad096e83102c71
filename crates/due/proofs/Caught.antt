-- A block whose timers are caught up with slot by slot. Assumes nothing.
use mathlib.Core.Path.{◌≡◌, refl, sym, ap, ◌∙◌}
use mathlib.Core.Bool.{true, false}
use mathlib.Core.List.{List, map}
use Prim.Native.Nat.{ℕ, ◌≤◌}
use lib.ListN.{length, replicate, length-map}
use Rattle.laws.specs.Logic.{◌or◌, or-end}
use Rattle.laws.specs.All.{All}
use Rattle.laws.specs.Tally.{tally_all}
use Rattle.types.specs.declared.object.Slot.{Slot}
use Rattle.types.specs.declared.kernel.Kernel.{Kernel}
use Rattle.types.specs.Thread.{wait_list}
use Rattle.block.specs.Block.{enc_block, dec_block}
use Rattle.block.proofs.Fits.{block_back}
use Rattle.sound.specs.Sound.{Sound}
use Rattle.sound.specs.Question.{sound?}
use Rattle.sound.proofs.Question.{t_block, encoded-sound}
use Rattle.object.specs.Slots.{with_slots}
use Rattle.pass.specs.Signal.{with_overflow}
use Rattle.pass.specs.Timers.{fired_slot, any_over, fire_timers, timer_due, catch_up_timers}
use Rattle.rows.specs.Slots.{before, slotted, SlotsTo, slots-all}
use Rattle.signal.specs.Marks.{sync_lists, lost_marked}
use Rattle.signal.proofs.Timers.{caught}
use Rattle.soundness.specs.Whole.{sound-parts, parts-sound}
use Rattle.svc.specs.Call.{with_objects}
use Rattle.svc.specs.Timers.{caught_up}
use Rattle.calling.specs.Timers.{caught-parts}
use Rattle.due.proofs.Slots.{caught_slot, caught-from, over-is}

-- ---- slot by slot; s is the block before the first
module _ (m : List ℕ) (tick : ℕ) (s : List ℕ) where
  abbrev pub CaughtTo : ℕ → List ℕ → Type 0
  CaughtTo = SlotsTo s (caught_slot m tick)

  pub caught-all : (b : List ℕ) (i : ℕ) → 128 ≤ i → CaughtTo i b → b ≡ enc_block (slotted s (lost_marked m 1 (map (fired_slot tick) (before s))))
  caught-all b i h g = (slots-all s (caught_slot m tick) i b h g).same ∙ ap (λ (l : List Slot). enc_block (slotted s l)) (caught-from m tick 0 (before s))

-- ---- the whole
module _ (s : List ℕ) (tick : ℕ) where
  abbrev k : Kernel
  k = dec_block s

  pub over_in : (caught_up k tick).objects.overflow ≡ any_over tick k.objects.slots
  unfolding dec_block
  over_in = over-is k.objects k.threads tick refl

  pub none-due : timer_due tick k.objects.slots ≡ false → caught_up k tick ≡ k
  unfolding catch_up_timers
  none-due f = rw f

  module _ (e : sound? s ≡ true) (fine : (caught_up k tick).objects.overflow ≡ false) where
    sound-k : Sound k
    sound-k = ((t_block s).yes e).state

    pub sound-caught : Sound (caught_up k tick)
    sound-caught = parts-sound (caught_up k tick) (caught-parts k tick fine (sound-parts k sound-k))

    pub back : (b : List ℕ) → b ≡ enc_block (caught_up k tick) → (dec_block b ≡ caught_up k tick) × (sound? b ≡ true)
    back b p = (ap dec_block p ∙ block_back (caught_up k tick) sound-caught.fits, ap sound? p ∙ encoded-sound (caught_up k tick) sound-caught)

    module _ (m : List ℕ) (due : timer_due tick k.objects.slots ≡ true) (a : All (λ l. length l ≤ wait_list) (sync_lists k.threads)) (q : m ≡ tally_all 129 (replicate 129 0) (sync_lists k.threads)) where
      -- what fires leaves the finding down
      fired-is : with_slots k.objects (lost_marked m 1 (map (fired_slot tick) k.objects.slots)) ≡ with_slots (fire_timers k.objects tick) (lost_marked m 1 (fire_timers k.objects tick).slots)
      unfolding fire_timers
      fired-is =
          let f : k.objects.overflow ≡ k.objects.overflow or any_over tick k.objects.slots = sym (ap (λ z. k.objects.overflow or z) (sym over_in ∙ fine) ∙ or-end k.objects.overflow) in
          ap (λ z. with_overflow (with_slots k.objects (lost_marked m 1 (map (fired_slot tick) k.objects.slots))) z) f

      size-fired : length (fire_timers k.objects tick).slots ≡ 128
      unfolding fire_timers
      size-fired = length-map k.objects.slots (fired_slot tick) ∙ sound-k.fits.ns

      pub state-is : with_objects k (with_slots k.objects (lost_marked m 1 (map (fired_slot tick) k.objects.slots))) ≡ caught_up k tick
      state-is =
          ap (with_objects k) (fired-is ∙ caught k.objects k.threads tick due sound-k.fits.nt a (fire_timers k.objects tick) refl size-fired m q)
