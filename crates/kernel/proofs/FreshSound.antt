-- A kernel as it starts is sound. Assumes nothing.
use mathlib.Core.Path.{◌≡◌, refl, ap}
use mathlib.Core.Bool.{Bool, true, false}
use Prim.Native.Nat.{ℕ, zero, suc, ◌+◌, ◌^◌, ◌≤◌, ◌<◌}
use native.Mathlib.Omega.{arith}
use lib.Dec.{eqb}
use lib.ListN.{length}
use Rattle.laws.specs.Logic.{pick, ◌and◌, ◌or◌}
use Rattle.laws.specs.All.{All, all_replicate}
use Rattle.laws.specs.Count.{ind, count, count_all, at}
use Rattle.laws.specs.Numbers.{all_to}
use Rattle.laws.specs.Walk.{walk, ends?}
use Rattle.laws.specs.PoolTest.{walks, end?, pool?}
use Rattle.laws.specs.StoreTest.{store?, slot?}
use Rattle.codec.proofs.Fit.{◌&◌}
use Rattle.block.proofs.Fits.{StateFits, ThreadFits, SlotFits, EntryFits, WaiterFits, IdFits}
use Rattle.sound.specs.View.{slot_at}
use Rattle.sound.specs.Threads.{zeros?, places?, thread?, blank?, place?, threads?}
use Rattle.sound.specs.Tls.{held, below?, tls?}
use Rattle.sound.specs.Handles.{no_entries?, rising?}
use Rattle.sound.specs.Objects.{names, kept_names, held?, up_to128, kept_in?, kept?, contents?}
use Rattle.sound.specs.Records.{has?, chain?, blanks?, chained?, records?}
use Rattle.sound.specs.Sound.{state?, Sound}
use Rattle.sound.proofs.Sound.{t-sound}
use Rattle.kernel.specs.Fresh.{in_row, free_slot, free_slots, free_waiter, free_waiters, blank_thread, fresh}
use Rattle.types.specs.Thread.{wait_list}

-- every clause, computed
fresh-yes : (w : ℕ) → state? (fresh w) ≡ true
unfolding fresh free_slots free_waiters in_row state? threads? place? thread? blank? zeros? places? tls? held below? rising? no_entries? kept_in? up_to128 held? names kept_names store? slot? kept? contents? records? chained? chain? has? blanks? pool? end? walks walk ends? count count_all ind at all_to slot_at ◌and◌ ◌or◌
fresh-yes w = refl

next_fits : (t : Bool) (k : ℕ) → k < 4294967296 → pick t 0 k < 4294967296
next_fits true k h = omega arith
next_fits false k h = h

row-all : {A : Type 0} (P : A → Type 0) (cell : ℕ → A) → ((k : ℕ) → k < 4294967296 → P (cell k)) → (n k : ℕ) → k + n ≤ 4294967296 → All P (in_row cell n k)
unfolding in_row
row-all P cell p zero k h = tt
row-all P cell p (suc n) k h = (p (pick (eqb n 0) 0 k) (next_fits (eqb n 0) k (omega arith)), row-all P cell p n (k + 1) (omega arith))

row-length : {A : Type 0} (cell : ℕ → A) (n k : ℕ) → length (in_row cell n k) ≡ n
unfolding in_row
row-length cell zero k = refl
row-length cell (suc n) k = ap suc (row-length cell n (k + 1))

-- zero, as a word and as a tick
z4 : 0 < 256 ^ 4
z4 = omega arith

z8 : 0 < 256 ^ 8
z8 = omega arith

fresh-fits : (w : ℕ) → w < 4294967296 → StateFits (fresh w)
unfolding fresh free_slots free_waiters
fresh-fits w h =
    record {
      head = h & z4 & z4 & z4 & z4 & z4 & z4 & z4 & (omega arith) & (omega arith) & z4 & (omega arith) & z4 & z4 & z4 & z4 & tt;
      nt = refl;
      threads = all_replicate ThreadFits 32 blank_thread (z4 & z4 & z4 & z4 & z4 & z4 & z4 & z4 & z4 & z4 & z4 & z4 & z4 & z4 & z4 & z4 & z8 & z8 & tt, all_replicate IdFits wait_list (record { 0 = 0 }) z4, refl);
      ns = row-length free_slot 128 2;
      slots = row-all SlotFits free_slot (λ k l. z4 & z4 & z4 & l & z4 & z4 & z8 & z8 & tt) 128 2 (omega arith);
      ne = refl;
      entries = all_replicate EntryFits 256 (record { handle = record { 0 = 0 }; object = record { 0 = 0 } }) (z4 & z4 & tt);
      nw = row-length free_waiter 64 2;
      waiters = row-all WaiterFits free_waiter (λ k l. z4 & z4 & l & tt) 64 2 (omega arith);
      ni = refl;
      thread_objects = all_replicate IdFits 32 (record { 0 = 0 }) z4;
      clean = (refl, refl, refl, refl, refl, refl);
    }

pub fresh-sound : (w : ℕ) → w < 4294967296 → Sound (fresh w)
fresh-sound w h = (t-sound (fresh w) (fresh-fits w h)).yes (fresh-yes w)
