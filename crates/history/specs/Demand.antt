-- Demand 3 of document 00: one theorem over every list of operations and every first block. Its words are in demand/specs/Words.antt.
use Rattle.std.specs.Prelude.{◌≡◌, true, false, List, [], ◌∷◌, map}
use Rattle.sound.specs.Question.{sound?}
use Rattle.demand.specs.Words.{Ends, Runs, KeepsGrid}
use Rattle.lent.specs.Lent.{accepted?}
use Rattle.history.specs.Step.{Entry}
use Rattle.history.specs.Events.{event_of}

-- at every entry, with what comes after it
abbrev pub Always : (Entry → List Entry → Type 0) → List Entry → Type 0
Always P [] = Unit {0}
Always P (e ∷ es) = P e es × Always P es

pub record Claim (e : Entry) (rest : List Entry) : Type 0 where
  -- "no accepted operation, a fresh start among them, leaves a block that question 2 of 01 would turn away"
  pub keeps : accepted? e.after.number ≡ true → sound? e.after.after.block ≡ true
  -- after a refusal the block holds the bytes it held before
  pub leaves : accepted? e.after.number ≡ false → e.after.after.block ≡ e.before
  -- "that wait ends by time-out at an operation exactly when that operation is the first later accepted pass whose tick is t + d or more
  -- and the thread was not given what it waited for by then"
  pub ends : Ends (event_of e) (map event_of rest)
  -- "it runs at one of the two"
  pub runs : Runs (event_of e) (map event_of rest)
  -- "a repeating timer set in the list never drifts"
  pub grid : KeepsGrid (event_of e) (map event_of rest)
