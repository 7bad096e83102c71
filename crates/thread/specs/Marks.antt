-- TLS slots as they are looked for: those held are counted into an array.
use Rattle.std.specs.Prelude.{◌≡◌, refl, Bool, true, false, List, ℕ, zero, suc, ◌+◌, ◌≤◌, eqb, ltb, length, get_or}
use Rattle.std.specs.Prelude.{replicate}
use Rattle.std.proofs.Common.{arith, ltb-true, ltb-false}
use Rattle.laws.specs.Logic.{pick}
use Rattle.laws.specs.Count.{count}
use Rattle.laws.specs.Tally.{tally, tally_get, zero_get, zero-le}
use Rattle.types.specs.declared.thread.Thread.{Thread}
use Rattle.sound.specs.Tls.{held, held-length}
use Rattle.thread.specs.Threads.{least, free_from}

-- ---- the lesser of two numbers
pub least-is : (a b : ℕ) → a ≤ b → least a b ≡ a
least-is a b h = go (ltb a b) refl
  where
    go : (t : Bool) → ltb a b ≡ t → pick t a b ≡ a
    go true e = refl
    go false e = omega (arith, ltb-false a b e)

pub least-le : (a b : ℕ) → least a b ≤ b
least-le a b = go (ltb a b) refl
  where
    go : (t : Bool) → ltb a b ≡ t → pick t a b ≤ b
    go true e = omega (arith, ltb-true a b e)
    go false e = omega arith

-- ---- TLS slots
unfoldable pub free_marked : List ℕ → ℕ → ℕ → ℕ
free_marked m zero s = s
free_marked m (suc n) s = pick (eqb (get_or m s 0) 0) s (free_marked m n (s + 1))

pub free-is : (ts : List Thread) → length ts ≡ 32 → (n s : ℕ) → s + n ≤ 128 → free_marked (tally 129 (replicate 129 0) (held ts)) n s ≡ free_from (held ts) n s
unfolding free_marked free_from
free-is ts e zero s h = refl
free-is ts e (suc n) s h =
    let g : get_or (tally 129 (replicate 129 0) (held ts)) s 0 ≡ count s (held ts) =
    omega (arith, tally_get 129 (held ts) (replicate 129 0) 0 refl (zero-le 129) (omega (arith, held-length ts)) s (omega arith), zero_get 129 s) in
    rw (g, free-is ts e n (s + 1) (omega arith))
