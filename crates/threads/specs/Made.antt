-- The objects once a thread is made, and what is found when a guest makes one. Assumes nothing.
use Rattle.std.specs.Prelude.{ℕ, eqb, leb, ltb}
use Rattle.laws.specs.Logic.{pick, ◌or◌}
use Rattle.types.specs.declared.object.ObjectStore.{ObjectStore}
use Rattle.types.specs.declared.kernel.Kernel.{Kernel}
use Rattle.thread.specs.Threads.{ended_thread, forget_thread}
use Rattle.outcome.specs.Findings.{found_of}

-- of a thread whose place is used again the kept object and the records are gone
abbrev pub made_store : Kernel → ObjectStore
made_store k = pick (ltb (ended_thread k) k.thread_count) (forget_thread k.objects (ended_thread k)) k.objects

-- no place, no free slot, no room for a handle; guest ids or handles used up
abbrev pub found_made : Kernel → ℕ
found_made k =
    found_of (leb 32 (ended_thread k) or (eqb (made_store k).free 0 or leb 256 k.handles.count))
    (leb 4294967295 k.next_guest_id or leb 0xFFFF8000 k.handles.next.0)
