-- Whether a thread of the block b waits on the object o, thread after thread. Assumes nothing.
use mathlib.Core.Path.{◌≡◌, refl}
use mathlib.Core.Bool.{Bool, false}
use mathlib.Core.List.{List}
use Prim.Native.Nat.{ℕ, ◌+◌, ◌≤◌, ◌<◌}
use native.Mathlib.Omega.{arith}
use lib.ListN.{drop}
use Rattle.std.proofs.lemmas.Grind.{common_steps}
use Rattle.laws.specs.Logic.{◌and◌, ◌or◌, or_yes, or_no}
use Rattle.types.specs.declared.thread.Thread.{Thread}
use Rattle.block.specs.Block.{dec_block}
use Rattle.sound.specs.View.{ids, no_thread, thread_at}
use Rattle.kernel.specs.NextEvent.{contains}
use Rattle.pass.specs.Signal.{waits_sync, waited_sync}
use Rattle.rows.specs.Sizes.{size-threads}
use Rattle.signal.proofs.Steps.{any_step, any_end}

module _ (b : List ℕ) (o i : ℕ) where
  abbrev ts : List Thread
  ts = (dec_block b).threads

  abbrev any : List Thread → Bool
  any l = waited_sync l o

  abbrev waits : Thread → Bool
  waits t = waits_sync t.status and contains (ids t.wait_objects) o

  pub waited-step : i < 32 → waited_sync (drop i ts) o ≡ waits (thread_at ts i) or waited_sync (drop (i + 1) ts) o
  unfolding waited_sync
  waited-step h = any_step no_thread waits any refl (λ x xs. refl) ts i (omega (arith, size-threads b))

  pub waited-end : 32 ≤ i → waited_sync (drop i ts) o ≡ false
  unfolding waited_sync
  waited-end h = any_end no_thread waits any refl (λ x xs. refl) ts i (omega (arith, size-threads b))

pub ruleset waiting = (common_steps, or_yes, or_no, waited-step, waited-end)
