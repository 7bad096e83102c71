-- The tables of a block, record by record.
use Rattle.std.specs.Prelude.{◌≡◌, List, get_or, take, drop}
use Prim.Native.Nat.{ℕ, zero, suc, ◌+◌, ◌*◌, ◌<◌}
use Rattle.std.proofs.Common.{add-zero, zero-mul, suc-mul, arith}
use Rattle.codec.specs.Layout.{dec_all}
use Rattle.units.specs.declared.ObjectId.{ObjectId}
use Rattle.types.specs.declared.thread.Thread.{Thread}
use Rattle.types.specs.declared.object.Slot.{Slot}
use Rattle.types.specs.declared.object.HandleEntry.{HandleEntry}
use Rattle.types.specs.declared.object.Waiter.{Waiter}
use Rattle.block.specs.Table.{dec_entry, dec_waiter, dec_id}
use Rattle.block.specs.Thread.{dec_thread}
use Rattle.block.specs.Slot.{dec_slot}

abbrev pub threads_in : List ℕ → List Thread
threads_in b = dec_all dec_thread 160 32 b 128

abbrev pub slots_in : List ℕ → List Slot
slots_in b = dec_all dec_slot 40 128 b 5248

abbrev pub entries_in : List ℕ → List HandleEntry
entries_in b = dec_all dec_entry 8 256 b 10368

abbrev pub waiters_in : List ℕ → List Waiter
waiters_in b = dec_all dec_waiter 12 64 b 12416

abbrev pub kept_in : List ℕ → List ObjectId
kept_in b = dec_all dec_id 4 32 b 13184

-- record i of a table
module _ {A : Type 0} (dec : List ℕ → A) (size : ℕ) (d : A) where
  pub row_at : (n : ℕ) (s : List ℕ) (at i : ℕ) → i < n → dec (take size (drop (at + i * size) s)) ≡ get_or (dec_all dec size n s at) i d
  unfolding dec_all
  row_at zero s at i h = absurd (omega arith)
  row_at (suc n) s at zero h = rw (zero-mul, add-zero)
  row_at (suc n) s at (suc i) h =
      let e : at + suc i * size ≡ at + size + i * size = rw (suc-mul i size) (omega arith) in
      rw e (row_at n s (at + size) i (omega arith))
