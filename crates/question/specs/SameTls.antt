-- TLS slots counted into an array are counted as the definition counts them.
use Rattle.std.specs.Prelude.{◌≡◌, refl, List, ◌-◌, leb, length, get_or, replicate}
use Rattle.std.proofs.Common.{arith}
use Rattle.laws.specs.Numbers.{all_below, all_to-same}
use Rattle.laws.specs.Count.{count}
use Rattle.laws.specs.Tally.{tally, tally_get, zero_get, zero-le}
use Rattle.types.specs.declared.thread.Thread.{Thread}
use Rattle.sound.specs.Tls.{held, held-length}
use Rattle.question.specs.Linear.{once32?}

pub once_is : (ts : List Thread) → length ts ≡ 32 → once32? (tally 129 (replicate 129 0) (held ts)) ≡ all_below 32 (λ s. leb (count s (held ts)) 1)
unfolding once32?
once_is ts e =
    all_to-same 32 _ _ (λ i a b.
    let g : get_or (tally 129 (replicate 129 0) (held ts)) (i - 1) 0 ≡ count (i - 1) (held ts) =
    omega (arith, tally_get 129 (held ts) (replicate 129 0) 0 refl (zero-le 129) (omega (arith, held-length ts)) (i - 1) (omega arith), zero_get 129 (i - 1)) in
    rw g)
