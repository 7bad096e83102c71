-- `arbitrate_address` by what its kind does, once the handle is open: k is the state then, o the object. Assumes nothing.
use Rattle.units.specs.declared.Ticks.{Ticks}
use Rattle.std.specs.Prelude.{Bool, ℕ, eqb, ltb, Option, Some, None}
use Rattle.laws.specs.Logic.{pick}
use Rattle.types.specs.declared.sync.ArbitrationType.{ArbitrationType}
use Rattle.types.specs.declared.kernel.Kernel.{Kernel}
use Rattle.object.specs.declared.kept.Resolved.{Resolved}
use Rattle.svc.specs.declared.Registers.{Registers}
use Rattle.svc.specs.declared.Served.{Served}
use Rattle.svc.specs.Call.{done, answers, with_objects, with_over, pair, resolved}
use Rattle.svc.specs.Sync.{biased}
use Rattle.svc.specs.Arbiter.{signal_address, park, wait_below}
use Rattle.arbiter.specs.Park.{word_after, over_below}

abbrev pub signals : ℕ → ℕ → Kernel → ℕ → Served
signals a value k o = done (signal_address k o a value)

-- over says that a sum of the call does not fit
abbrev pub parks : ℕ → Option Ticks → ℕ → Bool → Option ℕ → Kernel → ℕ → Served
parks a time tick over word k o =
    record { kernel = with_over (park k o a time tick) over; answer = 0; r0 = Some 0; r1 = None; word = word }

-- the word is not less than the value
abbrev pub goes_on : Kernel → ℕ → Served
goes_on k o = done k

abbrev pub waits : Bool → Option Ticks → ℕ → ℕ → ℕ → ℕ → Kernel → ℕ → Served
waits decrements time a value word tick k o =
    pick (ltb (biased word) (biased value)) (parks a time tick (over_below decrements word) (word_after decrements word) k o) (goes_on k o)

-- a kind that waits, with the value and the time of the registers
abbrev pub waits_as : ArbitrationType → Registers → ℕ → ℕ → Kernel → ℕ → Served
waits_as kind r word tick k o = wait_below kind k o r.r1 r.r3 word (pair r.r4 r.r5) tick

-- a handle that names nothing is answered with 16
unfoldable pub on_handle : Kernel → ℕ → (Kernel → ℕ → Served) → Served
on_handle k h f =
    let x : Resolved = resolved k h in
    pick (eqb x.object.0 0) (answers 16 (with_objects k x.store)) (f (with_objects k x.store) x.object.0)
