-- A walk over the call table, a row at a time: the rows from i on answer as the whole table does. Assumes nothing.
use mathlib.Core.Path.{◌≡◌, refl, sym, ◌∙◌}
use mathlib.Core.Bool.{Bool, true, false}
use mathlib.Core.Logic.{◌≢◌}
use mathlib.Core.List.{List, [], ◌∷◌}
use Prim.Native.Nat.{ℕ, ◌+◌, ◌<◌, ◌≤◌}
use native.Mathlib.Numerals.{add-one}
use Rattle.std.specs.Prelude.{◌||◌}
use Rattle.std.specs.List.{list_any}
use native.Mathlib.Omega.{arith}
use Rattle.std.proofs.lemmas.Grind.{common_steps}
use lib.Dec.{eqb, ltb}
use lib.ListN.{length, get_or, drop, drop_of_length-le}
use lib.Seq.{drop-cons}
use borrow.Author.Tests.{eq-eqb, ne_eqb}
use Rattle.laws.specs.Logic.{pick, ◌and◌, ◌or◌, and_no, and_yes, pick_yes, pick_no}
use Rattle.types.specs.Thread.{wait_list}
use Rattle.types.specs.declared.kernel.Kernel.{Kernel}
use Rattle.block.specs.Block.{dec_block}
use Rattle.sound.specs.View.{thread_at, thread_at-out}
use Rattle.rows.specs.Sizes.{size-threads}
use Rattle.pass.specs.Pick.{is_running}
use Rattle.svc.specs.declared.Registers.{Registers}
use Rattle.svc.specs.Dispatch.{words_read, in_window, runs_as, runs?, too_many?, outside?}
use Rattle.svc.specs.declared.CallRow.{CallRow}
use Rattle.svc.specs.Table.{row, row_in, known_in}

module _ (rs : List CallRow) (i n : ℕ) where
  step : (d : CallRow) → i < length rs → row_in (drop i rs) n ≡ pick (eqb (get_or rs i d).number n) (get_or rs i d) (row_in (drop (i + 1) rs) n)
  unfolding row_in
  step d h = rw (drop-cons rs i d h, add-one)

  pub row_hit : (d : CallRow) → i < length rs → (get_or rs i d).number ≡ n → get_or rs i d ≡ row_in (drop i rs) n
  row_hit d h e = sym (step d h ∙ rw (eq-eqb (get_or rs i d).number n e))

  pub row_miss : (d : CallRow) → i < length rs → (get_or rs i d).number ≢ n → row_in (drop (i + 1) rs) n ≡ row_in (drop i rs) n
  row_miss d h e = sym (step d h ∙ rw (ne_eqb (get_or rs i d).number n e))

  pub row_end : length rs ≤ i → row n 0 0 ≡ row_in (drop i rs) n
  unfolding row_in
  row_end h = rw (drop_of_length-le rs h)

pub any-known : (rs : List CallRow) (n : ℕ) → list_any (λ (r : CallRow). eqb r.number n) rs ≡ known_in rs n
unfolding known_in ◌or◌
any-known [] n = refl
any-known (r ∷ rs) n = rw (any-known rs n) (go (eqb r.number n) (known_in rs n))
  where
    go : (a b : Bool) → a || b ≡ a or b
    go true b = refl
    go false b = refl

-- ---- what each question asks
pub too_many-asks : (number : ℕ) (r : Registers) → too_many? number r ≡ eqb number 0x25 and ltb wait_list r.r2
unfolding too_many?
too_many-asks number r = refl

pub outside-asks : (base len number : ℕ) (r : Registers)
    → outside? base len number r
    ≡ pick (eqb (words_read number r) 0) false (pick (in_window base len r.r1 (words_read number r)) false true)
unfolding outside?
outside-asks base len number r = refl

pub runs-ask : (k : Kernel) → runs? k ≡ runs_as k.current_thread k.threads
unfolding runs?
runs-ask k = refl

pub none-runs : (b : List ℕ) (c : ℕ) → 32 ≤ c → is_running (thread_at (dec_block b).threads c).status ≡ false
none-runs b c h = rw (thread_at-out (dec_block b).threads c (omega (arith, size-threads b)))

pub ruleset asks = (common_steps, and_no, and_yes, pick_yes, pick_no, too_many-asks, outside-asks, runs-ask, none-runs)
