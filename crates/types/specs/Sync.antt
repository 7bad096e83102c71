-- Numbers of the enums of sync.rs.
use Rattle.types.specs.declared.sync.ArbitrationType.{ArbitrationType}
use Rattle.std.specs.Prelude.{cond, ℕ, eqb, Option, Some, None}
use Rattle.types.specs.declared.sync.ResetType.{ResetType}
use Rattle.types.specs.declared.sync.ResetType.TheVariants.{OneShot, Sticky, Pulse}
use Rattle.types.specs.declared.sync.ArbitrationType.TheVariants.{Signal, WaitIfLessThan, DecrementAndWaitIfLessThan, WaitIfLessThanWithTimeout, DecrementAndWaitIfLessThanWithTimeout}

abbrev pub reset_number : ResetType → ℕ
reset_number OneShot = 0
reset_number Sticky = 1
reset_number Pulse = 2

-- 1 sticky, 2 pulse, every other number one-shot
abbrev pub reset_from_raw : ℕ → ResetType
reset_from_raw n = cond (eqb n 1) Sticky (cond (eqb n 2) Pulse OneShot)

-- kinds 0 to 4, and none above
abbrev pub arbitration_from_raw : ℕ → Option ArbitrationType
arbitration_from_raw n =
    cond (eqb n 0) (Some Signal)
    (cond (eqb n 1) (Some WaitIfLessThan)
    (cond (eqb n 2) (Some DecrementAndWaitIfLessThan)
    (cond (eqb n 3) (Some WaitIfLessThanWithTimeout)
    (cond (eqb n 4) (Some DecrementAndWaitIfLessThanWithTimeout) None))))
