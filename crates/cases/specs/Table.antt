-- The table of worked cases. One test is computed over it, and one law turns the test into an equation for each row.
use Rattle.std.specs.Prelude.{◌≡◌, refl, Bool, true, false, List, [], ◌∷◌, ℕ, eqb, Some, None}
use Rattle.std.proofs.Common.{eqb-true}
use Rattle.laws.specs.Logic.{◌and◌, ◌or◌, and-true, false-true}
use Rattle.laws.specs.All.{All}
use Rattle.sound.specs.View.{slot_at}
use Rattle.object.specs.Slots.{slot_put, content}
use Rattle.object.specs.Handles.{place_of, object_of}
use Rattle.object.specs.Kept.{resolve}
use Rattle.kernel.specs.NextEvent.{contains}
use Rattle.pass.specs.Signal.{acquire, acquires}
use Rattle.pass.specs.Timers.{any_over, fire_timers, timer_due, catch_up_timers}
use Rattle.pass.specs.Waits.{all_signaled, first_signaled}
use Rattle.pass.specs.Pick.{least_priority, first_from, pick_next}
use Rattle.svc.specs.Waits.{resolve_all, resolve_store, wait_synchronization_n}
use Rattle.cases.specs.Ask.{Ask, ticks, fired, lead, picks, waits, answer}

pub record Row : Type 0 where
  pub ask : Ask
  pub want : List ℕ

infix 20 ◌gives◌
abbrev pub ◌gives◌ : Ask → List ℕ → Row
a gives w = record { ask = a; want = w }

-- a yes is 1, a no 0, and none is the empty list
abbrev pub table : List Row
table =
    (ticks 0 gives 0 ∷ [])
    ∷ (ticks 3 gives 0 ∷ [])
    ∷ (ticks 4 gives 1 ∷ [])
    ∷ (ticks 1000000 gives 268111 ∷ [])
    ∷ (ticks 1000000000 gives 268111856 ∷ [])
    ∷ (fired 100 30 129 gives 130 ∷ [])
    ∷ (fired 100 30 130 gives 160 ∷ [])
    ∷ (lead 17924544 gives 0 ∷ [])
    ∷ (lead 17924545 gives 1 ∷ [])
    ∷ (picks (5 ∷ 3 ∷ 3 ∷ []) None false gives 1 ∷ [])
    ∷ (picks (5 ∷ 3 ∷ 3 ∷ []) (Some 2) false gives 1 ∷ [])
    ∷ (picks (5 ∷ 3 ∷ 3 ∷ []) (Some 2) true gives 2 ∷ [])
    -- a wait for all of no handles: done, index 0; a wait for any of none with a time-out of 0: 17
    ∷ (waits 1 true [] 0 gives 0 ∷ 0 ∷ 1 ∷ [])
    ∷ (waits 1 false [] 0 gives 17 ∷ 1 ∷ [])
    -- done with index 0, and the count is one below 0
    ∷ (waits 1 true (0x10000 ∷ 0x10000 ∷ []) 0 gives 0 ∷ 0 ∷ 4294967295 ∷ [])
    ∷ []

-- ---- the test
unfoldable same? : List ℕ → List ℕ → Bool
same? [] [] = true
same? [] (y ∷ ys) = false
same? (x ∷ xs) [] = false
same? (x ∷ xs) (y ∷ ys) = eqb x y and same? xs ys

unfoldable hold? : List Row → Bool
hold? [] = true
hold? (r ∷ rs) = same? (answer r.ask) r.want and hold? rs

tested : hold? table ≡ true
unfolding hold? same? answer slot_at slot_put content acquire acquires any_over fire_timers timer_due catch_up_timers all_signaled first_signaled least_priority first_from pick_next place_of object_of resolve resolve_all resolve_store contains wait_synchronization_n ◌and◌ ◌or◌
tested = refl

-- ---- what it tells
same-is : (a b : List ℕ) → same? a b ≡ true → a ≡ b
unfolding same?
same-is [] [] e = refl
same-is [] (y ∷ ys) e = false-true e
same-is (x ∷ xs) [] e = false-true e
same-is (x ∷ xs) (y ∷ ys) e = let h = and-true (eqb x y) (same? xs ys) e in rw (eqb-true x y h.0, same-is xs ys h.1)

abbrev pub Holds : Row → Type 0
Holds r = answer r.ask ≡ r.want

holds-all : (rs : List Row) → hold? rs ≡ true → All Holds rs
unfolding hold?
holds-all [] e = tt
holds-all (r ∷ rs) e = let h = and-true (same? (answer r.ask) r.want) (hold? rs) e in (same-is (answer r.ask) r.want h.0, holds-all rs h.1)

-- every row of the table is what the definitions give
pub cases : All Holds table
cases = holds-all table tested
