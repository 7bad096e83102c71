-- `dispatch` of svc.rs: the calls by number, and the questions that are a call's own.
use Rattle.std.specs.Prelude.{Bool, true, false, List, ℕ, ◌+◌, ◌*◌, ◌%◌, eqb, leb, ltb, get_or, Option, Some, None}
use Rattle.laws.specs.Logic.{pick, ◌and◌}
use Rattle.types.specs.declared.thread.Thread.{Thread}
use Rattle.types.specs.declared.kernel.Kernel.{Kernel}
use Rattle.types.specs.Thread.{wait_list}
use Rattle.sound.specs.View.{thread_at}
use Rattle.pass.specs.Pick.{is_running}
use Rattle.svc.specs.declared.Registers.{Registers}
use Rattle.svc.specs.declared.Served.{Served}
use Rattle.svc.specs.Call.{silent}
use Rattle.svc.specs.Table.{row_of, known?, read_by}
use Rattle.svc.specs.Threads.{create_thread, exit_thread, sleep_thread, set_thread_priority}
use Rattle.svc.specs.Sync.{create_mutex, release_mutex, create_semaphore, release_semaphore, create_event, signal_event, clear_event}
use Rattle.svc.specs.Timers.{create_timer, set_timer, cancel_timer, clear_timer}
use Rattle.svc.specs.Arbiter.{create_address_arbiter, arbitrate_address}
use Rattle.svc.specs.Waits.{wait_synchronization1, wait_synchronization_n}
use Rattle.svc.specs.Handles.{close_handle, duplicate_handle}

-- ---- the words that a call reads at r1: 0x25 its handles, 0x22 of kinds 1 to 4 one
abbrev pub words_read : ℕ → Registers → ℕ
words_read number r = pick (eqb number 0x25) r.r2 (pick (eqb number 0x22 and (leb 1 r.r2 and leb r.r2 4)) 1 0)

-- question 4: there is a current thread, Running
abbrev pub runs_as : Option ℕ → List Thread → Bool
runs_as None ts = false
runs_as (Some c) ts = is_running (thread_at ts c).status

unfoldable pub runs? : Kernel → Bool
runs? k = runs_as k.current_thread k.threads

-- question 5: at most 12 handles
unfoldable pub too_many? : ℕ → Registers → Bool
too_many? number r = eqb number 0x25 and ltb wait_list r.r2

-- question 6: the words are wholly in the window of len bytes from base, and the address is a multiple of 4
abbrev pub in_window : ℕ → ℕ → ℕ → ℕ → Bool
in_window base len a n = eqb (a % 4) 0 and (leb base a and leb (a + 4 * n) (base + len))

unfoldable pub outside? : ℕ → ℕ → ℕ → Registers → Bool
outside? base len number r = pick (eqb (words_read number r) 0) false (pick (in_window base len r.r1 (words_read number r)) false true)

-- questions 3 to 6, 0 if none refuses
unfoldable pub refusal : ℕ → ℕ → ℕ → Registers → Kernel → ℕ
refusal base len number r k =
    pick (known? number)
    (pick (runs? k)
    (pick (too_many? number r) 5
    (pick (outside? base len number r) 6 0))
    4)
    3

-- ---- the calls; words are those read
abbrev pub handle_call : ℕ → Kernel → Registers → List ℕ → ℕ → Served
handle_call number k r words tick =
    pick (eqb number 0x21) (create_address_arbiter k)
    (pick (eqb number 0x22) (arbitrate_address k r (get_or words 0 0) tick)
    (pick (eqb number 0x23) (close_handle k r)
    (pick (eqb number 0x24) (wait_synchronization1 k r tick)
    (pick (eqb number 0x25) (wait_synchronization_n k r words tick)
    (pick (eqb number 0x27) (duplicate_handle k r)
    (silent k))))))

abbrev pub signal_call : ℕ → Kernel → Registers → List ℕ → ℕ → Served
signal_call number k r words tick =
    pick (eqb number 0x17) (create_event k r)
    (pick (eqb number 0x18) (signal_event k r)
    (pick (eqb number 0x19) (clear_event k r)
    (pick (eqb number 0x1A) (create_timer k r)
    (pick (eqb number 0x1B) (set_timer k r tick)
    (pick (eqb number 0x1C) (cancel_timer k r tick)
    (pick (eqb number 0x1D) (clear_timer k r tick)
    (handle_call number k r words tick)))))))

abbrev pub lock_call : ℕ → Kernel → Registers → List ℕ → ℕ → Served
lock_call number k r words tick =
    pick (eqb number 0x13) (create_mutex k r)
    (pick (eqb number 0x14) (release_mutex k r)
    (pick (eqb number 0x15) (create_semaphore k r)
    (pick (eqb number 0x16) (release_semaphore k r)
    (signal_call number k r words tick))))

unfoldable pub call : ℕ → Kernel → Registers → List ℕ → ℕ → Served
call number k r words tick =
    pick (eqb number 0x08) (create_thread k r)
    (pick (eqb number 0x09) (exit_thread k)
    (pick (eqb number 0x0A) (sleep_thread k r tick)
    (pick (eqb number 0x0C) (set_thread_priority k r)
    (lock_call number k r words tick))))

-- the registers as the call may read them
abbrev pub given : ℕ → Registers → Registers
given number r = read_by (row_of number).reads r
