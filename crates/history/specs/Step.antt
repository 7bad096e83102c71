-- Operations one after the other: each gets the block as the last one left it.
use Rattle.std.specs.Prelude.{List, [], ◌∷◌, ℕ, ◌<◌}
use Rattle.codec.proofs.Back.{Bytes}
use Rattle.lent.specs.Lent.{lent, Back}
use Rattle.lent.specs.Guest.{dispatch, collect}
use Rattle.lent.specs.Operations.{fresh_start, create_thread, schedule, next_event, satisfied_now, quiet_release, end_thread}

-- an operation with everything lent besides the block and every number: what C can pass, so slices are of bytes and numbers fit
pub data Op : Type 0 where
  op_fresh_start : (bank : List ℕ) → Bytes bank → (word : ℕ) → word < 4294967296 → Op
  op_next_event : (answer : List ℕ) → Bytes answer → Op
  op_create_thread : (bank : List ℕ) → Bytes bank → (answer : List ℕ) → Bytes answer → (entry : ℕ) → entry < 4294967296 → (stack : ℕ) → stack < 4294967296
      → (arg : ℕ) → arg < 4294967296 → (priority : ℕ) → priority < 4294967296 → (processor : ℕ) → processor < 4294967296 → Op
  op_schedule : (bank : List ℕ) → Bytes bank → (processor : List ℕ) → Bytes processor → (answer : List ℕ) → Bytes answer → (tick : ℕ) → tick < 18446744073709551616 → Op
  op_satisfied_now : (handles : List ℕ) → Bytes handles → (answer : List ℕ) → Bytes answer → (all : ℕ) → all < 4294967296 → (tick : ℕ) → tick < 18446744073709551616 → Op
  op_quiet_release : (answer : List ℕ) → Bytes answer → (handle : ℕ) → handle < 4294967296 → (tick : ℕ) → tick < 18446744073709551616 → Op
  op_end_thread : (thread : ℕ) → thread < 4294967296 → Op
  op_dispatch : (bank : List ℕ) → Bytes bank → (processor : List ℕ) → Bytes processor → (window : List ℕ) → Bytes window
      → (base : ℕ) → base < 4294967296 → (number : ℕ) → number < 4294967296 → (tick : ℕ) → tick < 18446744073709551616 → Op
  op_collect : (answer : List ℕ) → Bytes answer → Op

unfoldable pub step : Op → List ℕ → Back
step (op_fresh_start bank u word h) b = fresh_start word (lent b bank [] [] [])
step (op_next_event answer u) b = next_event (lent b [] [] [] answer)
step (op_create_thread bank u answer v entry e stack s arg a priority p processor q) b = create_thread entry stack arg priority processor (lent b bank [] [] answer)
step (op_schedule bank u processor p answer v tick h) b = schedule tick (lent b bank processor [] answer)
step (op_satisfied_now handles w answer u all h tick t) b = satisfied_now handles all tick (lent b [] [] [] answer)
step (op_quiet_release answer u handle h tick t) b = quiet_release handle tick (lent b [] [] [] answer)
step (op_end_thread thread h) b = end_thread thread (lent b [] [] [] [])
step (op_dispatch bank u processor p window w base x number n tick t) b = dispatch base number tick (lent b bank processor window [])
step (op_collect answer u) b = collect (lent b [] [] [] answer)

pub record Entry : Type 0 where
  pub before : List ℕ
  pub op : Op
  pub after : Back

unfoldable pub trace : List Op → List ℕ → List Entry
trace [] b = []
trace (op ∷ ops) b = record { before = b; op = op; after = step op b } ∷ trace ops (step op b).after.block
