-- A thread that runs on with nothing left for it, by its own record.
use Rattle.std.specs.Prelude.{Bool, not, ℕ, eqb}
use Rattle.laws.specs.Logic.{◌and◌}
use Rattle.types.specs.declared.thread.Thread.{Thread}
use Rattle.types.specs.Thread.{result_number, syscall_number}
use Rattle.pass.specs.Pick.{is_running}
use Rattle.pass.specs.Schedule.{starves}

-- Running, not waited, not starving, with no result and no call
abbrev pub alone : Thread → ℕ → Bool
alone t tick =
    (is_running t.status and (not t.waited and not (starves t tick)))
    and (eqb (result_number t.wait_result) 0 and eqb (syscall_number t.wait_syscall) 0)
