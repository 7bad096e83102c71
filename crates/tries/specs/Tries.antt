-- A try by its parts: what the thread takes, and what becomes of it.
use Rattle.std.specs.Prelude.{Bool, true, false, ℕ, Option, Some}
use Rattle.types.specs.declared.thread.ThreadStatus.TheVariants.{Ready}
use Rattle.types.specs.declared.thread.WaitResult.{WaitResult}
use Rattle.types.specs.declared.thread.WaitResult.TheVariants.{Signaled}
use Rattle.types.specs.declared.thread.WaitResult.TheVariants as result
use Rattle.types.specs.declared.thread.Thread.{Thread}
use Rattle.types.specs.declared.object.ObjectStore.{ObjectStore}
use Rattle.types.specs.declared.kernel.Kernel.{Kernel}
use Rattle.thread.specs.Thread.{clear_wait, with_status, with_result}
use Rattle.pass.specs.declared.Fate.{Fate}
use Rattle.pass.specs.declared.Fate.TheVariants.{Stays, Given, TimedOut, Slept}
use Rattle.pass.specs.declared.Waits.{Waits}
use Rattle.pass.specs.Signal.{acquires}
use Rattle.pass.specs.Waits.{taken}

-- ---- the thread
abbrev pub awakened : Thread → Option WaitResult → Thread
awakened t r = with_status (with_result (clear_wait t) r t.wait_syscall) Ready

abbrev pub after : Fate → Thread → Thread
after Stays t = t
after (Given i) t = awakened t (Some (Signaled i))
after TimedOut t = awakened t (Some result.TimedOut)
after Slept t = awakened t t.wait_result

-- whether the wait is over
abbrev pub is_over : Fate → Bool
is_over Stays = false
is_over (Given i) = true
is_over TimedOut = true
is_over Slept = true

-- ---- the objects: what the thread takes of s
abbrev pub took : Fate → ObjectStore → Thread → ℕ → ObjectStore
took Stays s t w = s
took (Given i) s t w = acquires s (taken t i) w
took TimedOut s t w = s
took Slept s t w = s

-- the objects and the threads of a state, which the tries change
abbrev pub waits_of : Kernel → Waits
waits_of k = record { objects = k.objects; threads = k.threads }
