-- Whether a wait on one object finds a count too large. Assumes nothing.
use Rattle.std.specs.Prelude.{Bool, false, List, Option, Some, None, ℕ}
use Rattle.laws.specs.Logic.{◌and◌}
use Rattle.types.specs.declared.thread.Thread.{Thread}
use Rattle.types.specs.declared.object.KObject.{KObject}
use Rattle.pass.specs.Signal.{is_signaled, acquire_over}

-- the current thread waits, and takes of the object x now
abbrev pub over_now : Option ℕ → List Thread → KObject → Bool
over_now None ts x = false
over_now (Some c) ts x = is_signaled ts x c and acquire_over x
