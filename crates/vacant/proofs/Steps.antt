-- One turn of the look for an ended thread. Assumes nothing.
use mathlib.Core.Path.{◌≡◌}
use Prim.Native.Nat.{ℕ, suc, ◌+◌, ◌-◌, ◌≤◌, ◌<◌}
use native.Mathlib.Omega.{arith}
use Rattle.std.specs.Prelude.{List}
use Rattle.std.proofs.Common.{refl}
use Rattle.std.proofs.lemmas.Grind.{common_steps}
use Rattle.laws.specs.Logic.{pick, pick_yes, pick_no, ◌and◌, and_no, and_yes, or_no, or_yes}
use Rattle.codec.specs.Bytes.{le}
use Rattle.codec.specs.Layout.{dec_as}
use Rattle.block.specs.Block.{dec_block}
use Rattle.types.specs.declared.kernel.Kernel.{Kernel}
use Rattle.types.specs.Thread.{is_dead}
use Rattle.sound.specs.View.{thread_at}
use Rattle.thread.specs.Threads.{least, unnamed, ended_from, ended_thread}
use Rattle.thread.proofs.Steps.{min-least}
use Rattle.rows.specs.Sizes.{size-threads}

pub from_step : (k : Kernel) (n i : ℕ) → i < n
    → ended_from k (n - i) i ≡ pick (is_dead (thread_at k.threads i).status and unnamed k.objects i) i (ended_from k (n - (i + 1)) (i + 1))
unfolding ended_from
from_step k n i h = let e : n - i ≡ suc (n - (i + 1)) = omega arith in rw e

pub from_end : (k : Kernel) (n i : ℕ) → n ≤ i → ended_from k (n - i) i ≡ i
unfolding ended_from
from_end k n i h = let e : n - i ≡ 0 = omega arith in rw e

-- what the words of the head say, as the search reads it
pub ended-is : (b : List ℕ) → ended_thread (dec_block b) ≡ ended_from (dec_block b) (least (le 4 b 4) 32) 0
unfolding ended_thread dec_block dec_as
ended-is b = refl

pub ruleset steps = (
  common_steps,
  and_no,
  and_yes,
  or_no,
  or_yes,
  pick_yes,
  pick_no,
  min-least,
  from_step,
  from_end,
  size-threads,
  ended-is,
)
