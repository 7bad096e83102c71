-- The claims hold of every entry of every list of operations.
use Rattle.std.specs.Prelude.{List, [], ◌∷◌, map, ℕ}
use Rattle.course.specs.Holds as course
use Rattle.history.specs.Step.{Op, step, trace}
use Rattle.history.specs.Events.{event_of, entry}
use Rattle.history.specs.Demand.{Always, Claim}
use Rattle.history.proofs.Events.{sound-after, block-left, real}
use Rattle.history.proofs.Events as events

claim : (op : Op) (ops : List Op) (b : List ℕ) → Claim (entry op b) (trace ops (step op b).after.block)
claim op ops b =
    let after : List ℕ = (step op b).after.block in
    record {
      keeps = sound-after op b;
      leaves = block-left op b;
      ends = course.ends (event_of (entry op b)) (map event_of (trace ops after)) (real op b) (events.course ops after);
      runs = course.runs (event_of (entry op b)) (map event_of (trace ops after)) (real op b) (events.course ops after);
      grid = course.grid (event_of (entry op b)) (map event_of (trace ops after)) (real op b) (events.course ops after);
    }

pub demand3 : (ops : List Op) (b : List ℕ) → Always Claim (trace ops b)
unfolding trace
demand3 [] b = tt
demand3 (op ∷ ops) b = (claim op ops b, demand3 ops (step op b).after.block)
