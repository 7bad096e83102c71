-- "handles distinct, from 0x10000, below the next": they stand in rising order, without gaps, and unused entries are zero.
use Rattle.std.specs.Prelude.{◌≡◌, refl, Bool, true, false, List, [], ◌∷◌, ℕ, zero, suc, ◌≤◌, ◌<◌, eqb, leb, ltb}
use Rattle.std.proofs.Common.{arith}
use Rattle.laws.specs.Logic.{◌and◌}
use Rattle.laws.specs.Test.{Test, t-yes, t-no, t-eq, t-le, t-lt, t-and}
use Rattle.laws.specs.Count.{count, ind-other}
use Rattle.types.specs.declared.object.HandleEntry.{HandleEntry}
use Rattle.sound.specs.View.{handled}

-- ---- unused entries
abbrev pub NoEntries : List HandleEntry → Type 0
NoEntries [] = Unit {0}
NoEntries (e ∷ es) = (e.handle.0 ≡ 0) × ((e.object.0 ≡ 0) × NoEntries es)

unfoldable pub no_entries? : List HandleEntry → Bool
no_entries? [] = true
no_entries? (e ∷ es) = eqb e.handle.0 0 and (eqb e.object.0 0 and no_entries? es)

t_no_entries : (es : List HandleEntry) → Test (no_entries? es) (NoEntries es)
unfolding no_entries?
t_no_entries [] = t-yes
t_no_entries (e ∷ es) = t-and (t-eq e.handle.0 0) (t-and (t-eq e.object.0 0) (t_no_entries es))

-- ---- n handles from low on, below next, each of an object number; with none left, low is at most next
abbrev pub Rising : ℕ → ℕ → List HandleEntry → ℕ → Type 0
Rising zero low es next = (low ≤ next) × NoEntries es
Rising (suc n) low [] next = ⊥
Rising (suc n) low (e ∷ es) next =
    (low ≤ e.handle.0) × ((e.handle.0 < next) × ((0 < e.object.0) × ((e.object.0 ≤ 128) × Rising n (suc e.handle.0) es next)))

unfoldable pub rising? : ℕ → ℕ → List HandleEntry → ℕ → Bool
rising? zero low es next = leb low next and no_entries? es
rising? (suc n) low [] next = false
rising? (suc n) low (e ∷ es) next =
    leb low e.handle.0 and (ltb e.handle.0 next and (ltb 0 e.object.0 and (leb e.object.0 128 and rising? n (suc e.handle.0) es next)))

pub t-rising : (n low : ℕ) (es : List HandleEntry) (next : ℕ) → Test (rising? n low es next) (Rising n low es next)
unfolding rising?
t-rising zero low es next = t-and (t-le low next) (t_no_entries es)
t-rising (suc n) low [] next = t-no
t-rising (suc n) low (e ∷ es) next =
    t-and (t-le low e.handle.0) (t-and (t-lt e.handle.0 next) (t-and (t-lt 0 e.object.0) (t-and (t-le e.object.0 128) (t-rising n (suc e.handle.0) es next))))

-- ---- no handle names a number past the last slot
none-far : (o : ℕ) (es : List HandleEntry) → 0 < o → NoEntries es → count o (handled es) ≡ 0
unfolding count
none-far o [] p z = refl
none-far o (e ∷ es) p z = omega (arith, ind-other e.object.0 o (omega (arith, z.1.0)), none-far o es p z.1.1)

pub rising-far : (o n low : ℕ) (es : List HandleEntry) (next : ℕ) → 128 < o → Rising n low es next → count o (handled es) ≡ 0
unfolding count
rising-far o zero low es next p r = none-far o es (omega arith) r.1
rising-far o (suc n) low [] next p r = absurd r
rising-far o (suc n) low (e ∷ es) next p r =
    omega (arith, ind-other e.object.0 o (omega (arith, r.1.1.1.0)), rising-far o n (suc e.handle.0) es next p r.1.1.1.1)
