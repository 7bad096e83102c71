-- A thread that may be ended has a place. Assumes nothing.
use mathlib.Core.Path.{◌≡◌, refl, sym, ap, ◌∙◌}
use mathlib.Core.Bool.{Bool, true, false}
use mathlib.Core.List.{List}
use mathlib.Core.Logic.{inl, inr}
use Prim.Native.Nat.{ℕ, ◌≤◌, ◌<◌}
use native.Mathlib.Omega.{arith}
use lib.Dec.{ltb}
use Rattle.laws.specs.Logic.{pick, lt-cases}
use Rattle.types.specs.Refusal.{found_in, unless_found}
use Rattle.types.specs.declared.kernel.Kernel.{Kernel}
use Rattle.types.specs.Thread.{is_dead}
use Rattle.block.specs.Block.{dec_block}
use Rattle.sound.specs.View.{thread_at}
use Rattle.lent.specs.Operations.{end_refusal}
use Rattle.lent.proofs.Cases.{dead-far}
use Rattle.rows.specs.Sizes.{size-threads}

pub far-dead : (b : List ℕ) (t : ℕ) → 32 ≤ t → is_dead (thread_at (dec_block b).threads t).status ≡ true
far-dead b t h = dead-far (dec_block b).threads t (omega (arith, size-threads b))

refused : (a d : Bool) → d ≡ true → ◌≡◌ {A = ℕ} (pick a (pick d 4 0) 4) 0 → ⊥
refused true true e z = absurd (omega (arith, z))
refused true false e z = absurd (let w : ◌≡◌ {A = Bool} false true = e in let y : ◌≡◌ {A = ℕ} 4 0 = sym (ap (λ (q : Bool). pick q 4 0) w) ∙ z in omega (arith, y))
refused false d e z = absurd (omega (arith, z))

-- what is refused is what is found
pub found-refusal : {A : Type 0} (x : A) (t : ℕ) (k : Kernel) → found_in (unless_found {A = A} (end_refusal t k) x) ≡ end_refusal t k
unfolding end_refusal
found-refusal {A = A} x t k = go (ltb t k.thread_count) (is_dead (thread_at k.threads t).status)
  where
    go : (a d : Bool) → found_in (unless_found {A = A} (pick a (pick d 4 0) 4) x) ≡ pick a (pick d 4 0) 4
    go true true = refl
    go true false = refl
    go false d = refl

pub refusal-place : (b : List ℕ) (t : ℕ) → end_refusal t (dec_block b) ≡ 0 → t < 32
unfolding end_refusal
refusal-place b t e = elim (lt-cases t 32) [ inl h ↦ h | inr h ↦ absurd (refused (ltb t (dec_block b).thread_count) (is_dead (thread_at (dec_block b).threads t).status) (far-dead b t h) e) ]
