-- What is read and written where there is no thread, and what a definition says of none and of one. Assumes nothing.
use Rattle.std.specs.Prelude.{◌≡◌, List, ℕ, ◌≤◌, Option, Some, None}
use Rattle.std.proofs.Common.{arith, le-ltb}
use Rattle.std.proofs.lemmas.Grind.{common_steps}
use Rattle.types.specs.declared.thread.Thread.{Thread}
use Rattle.types.specs.declared.kernel.Kernel.{Kernel}
use Rattle.block.specs.Block.{dec_block}
use Rattle.sound.specs.View.{no_thread, thread_at, thread_at-out}
use Rattle.rows.specs.Sizes.{size-threads}
use Rattle.rows.specs.Rows.{thread_put}
use Rattle.svc.specs.Collect.{result_as, syscall_as}

pub none_there : (b : List ℕ) (c : ℕ) → 32 ≤ c → thread_at (dec_block b).threads c ≡ no_thread
none_there b c h = thread_at-out (dec_block b).threads c (omega (arith, size-threads b))

pub put_nowhere : (b : List ℕ) (c : ℕ) (x : Thread) → 32 ≤ c → thread_put b c x ≡ b
unfolding thread_put
put_nowhere b c x h = rw (le-ltb c 32 h)

pub result_none : (c : Option ℕ) (k : Kernel) → c ≡ None → result_as c k ≡ None
result_none c k e = rw e

pub result_some : (c : Option ℕ) (k : Kernel) (n : ℕ) → c ≡ Some n → result_as c k ≡ (thread_at k.threads n).wait_result
result_some c k n e = rw e

pub syscall_none : (c : Option ℕ) (k : Kernel) → c ≡ None → syscall_as c k ≡ None
syscall_none c k e = rw e

pub syscall_some : (c : Option ℕ) (k : Kernel) (n : ℕ) → c ≡ Some n
    → syscall_as c k ≡ (thread_at k.threads n).wait_syscall
syscall_some c k n e = rw e

pub ruleset reads = (common_steps, none_there, put_nowhere, result_none, result_some, syscall_none, syscall_some)
