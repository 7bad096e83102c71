-- Collect: the current thread's recorded result of a wait and the call that it was for are handed out and cleared.
use Rattle.std.specs.Prelude.{set, Option, Some, None, ℕ}
use Rattle.types.specs.declared.thread.WaitResult.{WaitResult}
use Rattle.types.specs.declared.thread.WaitSyscall.{WaitSyscall}
use Rattle.types.specs.declared.kernel.Kernel.{Kernel}
use Rattle.sound.specs.View.{thread_at}
use Rattle.thread.specs.Thread.{with_result}
use Rattle.thread.specs.Threads.{with_threads}

abbrev pub result_as : Option ℕ → Kernel → Option WaitResult
result_as None k = None
result_as (Some c) k = (thread_at k.threads c).wait_result

unfoldable pub collected_result : Kernel → Option WaitResult
collected_result k = result_as k.current_thread k

abbrev pub syscall_as : Option ℕ → Kernel → Option WaitSyscall
syscall_as None k = None
syscall_as (Some c) k = (thread_at k.threads c).wait_syscall

unfoldable pub collected_syscall : Kernel → Option WaitSyscall
collected_syscall k = syscall_as k.current_thread k

abbrev pub collect_as : Option ℕ → Kernel → Kernel
collect_as None k = k
collect_as (Some c) k = with_threads k (set k.threads c (with_result (thread_at k.threads c) None None)) k.objects

unfoldable pub collect : Kernel → Kernel
collect k = collect_as k.current_thread k
