-- Numbers of the enums of thread.rs, and what a status says.
use Rattle.units.specs.declared.Ticks.{Ticks}
use Rattle.std.specs.Prelude.{Bool, true, false, cond, ℕ, eqb, Option, Some, None}
use Rattle.types.specs.declared.thread.ThreadStatus.{ThreadStatus}
use Rattle.types.specs.declared.thread.ThreadStatus.TheVariants.{Dead, Running, Ready, Sleeping, WaitSync, WaitArbiter, Dormant}
use Rattle.types.specs.declared.thread.WaitResult.{WaitResult}
use Rattle.types.specs.declared.thread.WaitResult.TheVariants.{Signaled, TimedOut}
use Rattle.types.specs.declared.thread.WaitSyscall.{WaitSyscall}
use Rattle.types.specs.declared.thread.WaitSyscall.TheVariants.{WaitSynchronization1, WaitSynchronizationN}
use Rattle.types.specs.declared.thread.WaitSyscall.TheVariants.{ArbitrateAddress, SleepThread}

-- ---- the places of a thread's list: the most handles in one wait
abbrev pub wait_list : ℕ
wait_list = 12

-- ---- options: a flag, 1 if there is a value, and the value, 0 if there is none
abbrev pub option_flag : {A : Type 0} → Option A → ℕ
option_flag None = 0
option_flag (Some x) = 1

abbrev pub option_value : Option ℕ → ℕ
option_value None = 0
option_value (Some x) = x

abbrev pub option_of : {A : Type 0} → ℕ → A → Option A
option_of f x = cond (eqb f 1) (Some x) None

-- of a tick
abbrev pub tick_value : Option Ticks → ℕ
tick_value None = 0
tick_value (Some t) = t.0

abbrev pub tick_option : ℕ → ℕ → Option Ticks
tick_option f v = option_of f (record { 0 = v })

-- ---- statuses
abbrev pub status_number : ThreadStatus → ℕ
status_number Dead = 0
status_number Running = 1
status_number Ready = 2
status_number Sleeping = 3
status_number WaitSync = 4
status_number WaitArbiter = 5
status_number Dormant = 6

-- an unknown number reads as Dead, and question 2 refuses it
abbrev pub status_of : ℕ → ThreadStatus
status_of n =
    cond (eqb n 1) Running (cond (eqb n 2) Ready (cond (eqb n 3) Sleeping (cond (eqb n 4) WaitSync (cond (eqb n 5) WaitArbiter (cond (eqb n 6) Dormant Dead)))))

abbrev pub is_blocked : ThreadStatus → Bool
is_blocked Dead = false
is_blocked Running = false
is_blocked Ready = false
is_blocked Sleeping = true
is_blocked WaitSync = true
is_blocked WaitArbiter = true
is_blocked Dormant = false

abbrev pub is_dead : ThreadStatus → Bool
is_dead Dead = true
is_dead Running = false
is_dead Ready = false
is_dead Sleeping = false
is_dead WaitSync = false
is_dead WaitArbiter = false
is_dead Dormant = false

-- ---- results and syscalls
abbrev pub result_number : Option WaitResult → ℕ
result_number None = 0
result_number (Some (Signaled i)) = 1
result_number (Some TimedOut) = 2

abbrev pub result_index : Option WaitResult → ℕ
result_index None = 0
result_index (Some (Signaled i)) = i
result_index (Some TimedOut) = 0

abbrev pub result_of : ℕ → ℕ → Option WaitResult
result_of n i = cond (eqb n 1) (Some (Signaled i)) (cond (eqb n 2) (Some TimedOut) None)

abbrev pub syscall_number : Option WaitSyscall → ℕ
syscall_number None = 0
syscall_number (Some WaitSynchronization1) = 1
syscall_number (Some WaitSynchronizationN) = 2
syscall_number (Some ArbitrateAddress) = 3
syscall_number (Some SleepThread) = 4

abbrev pub syscall_of : ℕ → Option WaitSyscall
syscall_of n = cond (eqb n 1) (Some WaitSynchronization1)
    (cond (eqb n 2) (Some WaitSynchronizationN)
    (cond (eqb n 3) (Some ArbitrateAddress) (cond (eqb n 4) (Some SleepThread) None)))
