-- The call table: for each call number the registers that it reads and those that it may write, bit i for register i.
use Rattle.std.specs.Prelude.{Bool, false, List, [], ◌∷◌, ℕ, ◌/◌, ◌%◌, eqb, Option, Some, None}
use Rattle.laws.specs.Logic.{pick, ◌or◌}
use Rattle.svc.specs.declared.CallRow.{CallRow}
use Rattle.svc.specs.declared.Registers.{Registers}

abbrev pub row : ℕ → ℕ → ℕ → CallRow
row n r w = record { number = n; reads = r; writes = w }

unfoldable pub table : List CallRow
table =
    -- CreateThread reads r0 to r4
    row 0x08 0x1F 0x03 ∷
    -- ExitThread
    row 0x09 0x00 0x00 ∷
    -- SleepThread
    row 0x0A 0x03 0x01 ∷
    -- SetThreadPriority
    row 0x0C 0x03 0x01 ∷
    -- CreateMutex
    row 0x13 0x02 0x03 ∷
    -- ReleaseMutex
    row 0x14 0x01 0x01 ∷
    -- CreateSemaphore
    row 0x15 0x06 0x03 ∷
    -- ReleaseSemaphore
    row 0x16 0x06 0x03 ∷
    -- CreateEvent
    row 0x17 0x02 0x03 ∷
    -- SignalEvent
    row 0x18 0x01 0x01 ∷
    -- ClearEvent
    row 0x19 0x01 0x01 ∷
    -- CreateTimer
    row 0x1A 0x02 0x03 ∷
    -- SetTimer reads r0 to r4
    row 0x1B 0x1F 0x01 ∷
    -- CancelTimer
    row 0x1C 0x01 0x01 ∷
    -- ClearTimer
    row 0x1D 0x01 0x01 ∷
    -- CreateAddressArbiter
    row 0x21 0x00 0x03 ∷
    -- ArbitrateAddress reads r0 to r5
    row 0x22 0x3F 0x01 ∷
    -- CloseHandle
    row 0x23 0x01 0x01 ∷
    -- WaitSynchronization1 reads r0, r2, r3
    row 0x24 0x0D 0x01 ∷
    -- WaitSynchronizationN reads r0 to r4
    row 0x25 0x1F 0x03 ∷
    -- DuplicateHandle
    row 0x27 0x02 0x03 ∷
    []

-- the row of a call number; a number that is not in the table reads and writes nothing
unfoldable pub row_in : List CallRow → ℕ → CallRow
row_in [] n = row n 0 0
row_in (r ∷ rs) n = pick (eqb r.number n) r (row_in rs n)

unfoldable pub row_of : ℕ → CallRow
row_of n = row_in table n

unfoldable pub known_in : List CallRow → ℕ → Bool
known_in [] n = false
known_in (r ∷ rs) n = eqb r.number n or known_in rs n

-- question 3
unfoldable pub known? : ℕ → Bool
known? n = known_in table n

-- ---- masks
-- bit i, where p is 2^i
abbrev pub bit : ℕ → ℕ → Bool
bit mask p = eqb (mask / p % 2) 1

abbrev pub masked : ℕ → ℕ → ℕ → ℕ
masked mask p v = pick (bit mask p) v 0

-- what a call is given: registers that it does not read are 0
abbrev pub read_by : ℕ → Registers → Registers
read_by mask r = record {
  r0 = masked mask 1 r.r0;
  r1 = masked mask 2 r.r1;
  r2 = masked mask 4 r.r2;
  r3 = masked mask 8 r.r3;
  r4 = masked mask 16 r.r4;
  r5 = masked mask 32 r.r5;
}

-- what a register holds afterwards: a register outside the mask is as before
abbrev pub written_as : Bool → Option ℕ → ℕ → ℕ
written_as b None old = old
written_as b (Some v) old = pick b v old

abbrev pub written : ℕ → ℕ → Option ℕ → ℕ → ℕ
written mask p w old = written_as (bit mask p) w old
