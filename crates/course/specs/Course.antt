-- Operations one after the other, each on the state that the last one left.
use Rattle.std.specs.Prelude.{◌≡◌, Bool, true, false, List, [], ◌∷◌, ◌≤◌, ◌<◌, eqb, length}
use Rattle.types.specs.declared.kernel.Kernel.{Kernel}
use Rattle.types.specs.Thread.{wait_list}
use Rattle.sound.specs.Sound.{Sound}
use Rattle.thread.specs.Threads as thread
use Rattle.kernel.specs.Fresh.{fresh}
use Rattle.pass.specs.Schedule.{schedule}
use Rattle.svc.specs.Dispatch.{runs?, given, call}
use Rattle.svc.specs.Collect.{collect}
use Rattle.demand.specs.Words.{Doing, starts, creates, passes, looks, ends, calls, collects, Event}

-- what an operation does, by the definitions of the kernel
abbrev pub effect : Doing → Kernel → Kernel
effect (starts word) k = fresh word
effect (creates entry stack priority processor) k = thread.create_thread k entry stack priority processor
effect (passes tick) k = (schedule k tick).kernel
effect looks k = k
effect (ends t) k = thread.end_thread k t
effect (calls number r words tick) k = (call number k (given number r) words tick).kernel
effect collects k = collect k

-- what holds of an accepted operation and the state before it: question 2, and questions 4 and 5 of a guest call; ticks are 64-bit numbers
abbrev pub Asked : Doing → Kernel → Type 0
Asked (starts word) k = Unit {0}
Asked (creates entry stack priority processor) k = Sound k
Asked (passes tick) k = Sound k × (tick < 18446744073709551616)
Asked looks k = Sound k
Asked (ends t) k = Sound k
Asked (calls number r words tick) k = Sound k × (runs? k ≡ true) × (tick < 18446744073709551616) × (eqb number 0x25 ≡ true → length words ≤ wait_list)
Asked collects k = Sound k

-- an operation that was refused left the state, and one that was accepted did what it does, on a sound state, and left one
pub record Real (e : Event) : Type 0 where
  pub refused : e.accepted ≡ false → e.after ≡ e.before
  pub asked : e.accepted ≡ true → Asked e.does e.before
  pub did : e.accepted ≡ true → e.after ≡ effect e.does e.before
  pub sound : e.accepted ≡ true → Sound e.after

abbrev pub Course : Kernel → List Event → Type 0
Course k [] = Unit {0}
Course k (e ∷ es) = (e.before ≡ k) × Real e × Course e.after es

abbrev pub event : Bool → Kernel → Doing → Kernel → Event
event a k d m = record { accepted = a; before = k; does = d; after = m }
