-- Question 2 as it is computed: names, chains and TLS slots are counted once into arrays.
use Rattle.std.specs.Prelude.{Bool, true, false, not, List, ℕ, ◌-◌, eqb, leb, ltb, get_or, Option}
use Rattle.laws.specs.Logic.{◌and◌}
use Rattle.laws.specs.Count.{at}
use Rattle.laws.specs.Numbers.{all_to, all_below}
use Rattle.types.specs.declared.thread.ThreadStatus.{ThreadStatus}
use Rattle.types.specs.declared.thread.ThreadStatus.TheVariants.{Dead, Running, Ready, Sleeping, WaitSync, WaitArbiter, Dormant}
use Rattle.types.specs.declared.thread.Thread as th
use Rattle.types.specs.declared.object.HandleEntry.{HandleEntry}
use Rattle.sound.specs.View.{thread_at}
use Rattle.sound.specs.Threads.{place?}

-- ---- threads
unfoldable pub one_place? : Bool → ℕ → Bool
one_place? true x = ltb 0 x and leb x 128
one_place? false x = eqb x 0

abbrev pub runs? : ThreadStatus → Bool → Bool
runs? Dead c = not c
runs? Running c = c
runs? Ready c = true
runs? Sleeping c = true
runs? WaitSync c = true
runs? WaitArbiter c = true
runs? Dormant c = true

unfoldable pub places32? : ℕ → Option ℕ → List th.Thread → Bool
places32? n c ts = all_below 32 (λ i. place? n c i (thread_at ts i))

-- no count of the first 32 is above 1
unfoldable pub once32? : List ℕ → Bool
once32? m = all_below 32 (λ s. leb (get_or m s 0) 1)

-- ---- handles
-- from low on: that the last one is below the next is asked once, after all of them
unfoldable pub entry? : ℕ → HandleEntry → Bool
entry? low e = leb low e.handle.0 and (ltb 0 e.object.0 and leb e.object.0 128)

-- ---- a slot of kind number k and count r that is named n times and stands f times on the free chain
unfoldable pub slot? : ℕ → ℕ → ℕ → ℕ → Bool
slot? k r n f = eqb r n and (eqb (1 - k) (1 - r) and eqb f (1 - k))

unfoldable pub slots? : List ℕ → List ℕ → List ℕ → List ℕ → ℕ → Bool
slots? ks rs c m n = all_to n (λ o. slot? (at ks o) (at rs o) (get_or c o 0) (get_or m o 0))
