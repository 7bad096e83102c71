-- Collect takes a result and the call that it was for, which are no part of a wait.
use Rattle.std.specs.Prelude.{◌≡◌, refl, ℕ, Option, Some, None}
use Rattle.types.specs.declared.kernel.Kernel.{Kernel}
use Rattle.sound.specs.View.{thread_at}
use Rattle.passing.specs.Picks.{thread-f}
use Rattle.timing.specs.Wait.{wait_of}
use Rattle.svc.specs.Collect.{collect_as, collect}

-- every wait stays
wait_as : (c : Option ℕ) (k : Kernel) (w : ℕ)
    → wait_of (thread_at (collect_as c k).threads w) ≡ wait_of (thread_at k.threads w)
wait_as None k w = refl
wait_as (Some c) k w = thread-f wait_of k.threads c _ w refl

pub collect-waits : (k : Kernel) (w : ℕ) → wait_of (thread_at (collect k).threads w) ≡ wait_of (thread_at k.threads w)
unfolding collect
collect-waits k w = wait_as k.current_thread k w

-- and the relief flag
relief_as : (c : Option ℕ) (k : Kernel) → (collect_as c k).relief ≡ k.relief
relief_as None k = refl
relief_as (Some c) k = refl

pub collect-relief : (k : Kernel) → (collect k).relief ≡ k.relief
unfolding collect
collect-relief k = relief_as k.current_thread k
