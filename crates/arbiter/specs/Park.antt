-- What the kind of `arbitrate_address` says: whether the word is decremented, and how long the thread parks.
use Rattle.units.specs.declared.Ticks.{Ticks}
use Rattle.std.specs.Prelude.{Bool, not, ℕ, eqb, Option, Some, None}
use Rattle.laws.specs.Logic.{pick, ◌and◌}
use Rattle.units.specs.Ticks.{nanos_to_ticks}
use Rattle.pass.specs.Signal.{one_less}
use Rattle.svc.specs.Call.{negative}

abbrev pub park_time_in : Bool → ℕ → Option Ticks
park_time_in timed nanos = pick (timed and not (negative nanos)) (Some (nanos_to_ticks (record { 0 = nanos }))) None

abbrev pub word_after : Bool → ℕ → Option ℕ
word_after decrements word = pick decrements (Some (one_less word)) None

abbrev pub over_below : Bool → ℕ → Bool
over_below decrements word = decrements and eqb word 2147483648
