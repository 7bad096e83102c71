-- `Thread::new`, `ThreadContext::new` and `clear_wait` of thread.rs.
use Rattle.std.specs.Prelude.{true, false, [], ◌∷◌, ℕ, ◌+◌, ◌-◌, ◌*◌, ◌/◌, ◌%◌, replicate, None, Option}
use Rattle.types.specs.declared.thread.ThreadStatus.{ThreadStatus}
use Rattle.types.specs.declared.thread.ThreadStatus.TheVariants.{Ready}
use Rattle.types.specs.declared.thread.WaitResult.{WaitResult}
use Rattle.types.specs.declared.thread.WaitSyscall.{WaitSyscall}
use Rattle.types.specs.declared.thread.Thread.{Thread}
use Rattle.types.specs.declared.thread.ThreadContext.{ThreadContext}
use Rattle.types.specs.Thread.{wait_list}

-- Ready, waiting for nothing, and as if it had waited; tls is its TLS slot
abbrev pub new_thread : ℕ → ℕ → ℕ → ℕ → ℕ → ℕ → Thread
new_thread entry stack priority processor tls guest = record {
  status = Ready;
  priority = priority;
  entry = entry;
  stack_top = stack;
  tls = tls;
  processor_id = processor;
  wait_objects = replicate wait_list (record { 0 = 0 });
  wait_count = 0;
  wait_all = false;
  wakeup_at = None;
  running_since = record { 0 = 0 };
  waited = true;
  wait_address = None;
  wait_result = None;
  wait_syscall = None;
  guest_id = guest;
}

-- bit 5 of the default status word becomes bit 0 of the entry, which selects Thumb
abbrev pub status_word : ℕ → ℕ → ℕ
status_word word entry = word - word / 32 % 2 * 32 + entry % 2 * 32

-- r0 the argument, r13 the stack top, r14 the address that ends a thread, r15 the entry with bit 0 cleared
abbrev pub new_context : ℕ → ℕ → ℕ → ℕ → ℕ → ThreadContext
new_context word entry stack arg tls = record {
  regs = arg ∷ 0 ∷ 0 ∷ 0 ∷ 0 ∷ 0 ∷ 0 ∷ 0 ∷ 0 ∷ 0 ∷ 0 ∷ 0 ∷ 0 ∷ stack ∷ 0xFFFFFFF0 ∷ (entry - entry % 2) ∷ [];
  cpsr = status_word word entry;
  vfp_regs = replicate 32 0;
  fpscr = 0;
  fpexc = 0x40000000;
  tls_pointer = tls;
}

-- everything that a wait left behind goes
abbrev pub clear_wait : Thread → Thread
clear_wait t = record {
  status = t.status;
  priority = t.priority;
  entry = t.entry;
  stack_top = t.stack_top;
  tls = t.tls;
  processor_id = t.processor_id;
  wait_objects = replicate wait_list (record { 0 = 0 });
  wait_count = 0;
  wait_all = false;
  wakeup_at = None;
  running_since = t.running_since;
  waited = t.waited;
  wait_address = None;
  wait_result = t.wait_result;
  wait_syscall = t.wait_syscall;
  guest_id = t.guest_id;
}

abbrev pub with_status : Thread → ThreadStatus → Thread
with_status t x = record {
  status = x;
  priority = t.priority;
  entry = t.entry;
  stack_top = t.stack_top;
  tls = t.tls;
  processor_id = t.processor_id;
  wait_objects = t.wait_objects;
  wait_count = t.wait_count;
  wait_all = t.wait_all;
  wakeup_at = t.wakeup_at;
  running_since = t.running_since;
  waited = t.waited;
  wait_address = t.wait_address;
  wait_result = t.wait_result;
  wait_syscall = t.wait_syscall;
  guest_id = t.guest_id;
}

abbrev pub with_result : Thread → Option WaitResult → Option WaitSyscall → Thread
with_result t r c = record {
  status = t.status;
  priority = t.priority;
  entry = t.entry;
  stack_top = t.stack_top;
  tls = t.tls;
  processor_id = t.processor_id;
  wait_objects = t.wait_objects;
  wait_count = t.wait_count;
  wait_all = t.wait_all;
  wakeup_at = t.wakeup_at;
  running_since = t.running_since;
  waited = t.waited;
  wait_address = t.wait_address;
  wait_result = r;
  wait_syscall = c;
  guest_id = t.guest_id;
}

abbrev pub with_priority : Thread → ℕ → Thread
with_priority t p = record {
  status = t.status;
  priority = p;
  entry = t.entry;
  stack_top = t.stack_top;
  tls = t.tls;
  processor_id = t.processor_id;
  wait_objects = t.wait_objects;
  wait_count = t.wait_count;
  wait_all = t.wait_all;
  wakeup_at = t.wakeup_at;
  running_since = t.running_since;
  waited = t.waited;
  wait_address = t.wait_address;
  wait_result = t.wait_result;
  wait_syscall = t.wait_syscall;
  guest_id = t.guest_id;
}
