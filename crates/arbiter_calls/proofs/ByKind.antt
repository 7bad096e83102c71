-- ArbitrateAddress by its kind. Assumes nothing.
use Rattle.std.proofs.lemmas.Grind.{common_steps}
use Rattle.std.specs.Prelude.{Option, Some, None, Ok, Err}
use Rattle.units.specs.declared.Ticks.{Ticks}
use mathlib.Core.Path.{◌≡◌, refl, sym, ap, ◌∙◌}
use mathlib.Core.Bool.{Bool, true, false, true≢false}
use mathlib.Core.List.{List}
use Prim.Native.Nat.{ℕ}
use lib.Dec.{ltb}
use Rattle.laws.specs.Logic.{pick, ◌or◌}
use Rattle.types.specs.declared.sync.ArbitrationType.{ArbitrationType}
use Rattle.types.specs.declared.sync.ArbitrationType.TheVariants.{Signal, WaitIfLessThan, DecrementAndWaitIfLessThan, WaitIfLessThanWithTimeout, DecrementAndWaitIfLessThanWithTimeout}
use Rattle.types.specs.declared.kernel.Kernel.{Kernel}
use Rattle.types.specs.declared.refusal.Refusal.{Refusal}
use Rattle.types.specs.Refusal.{refusal_number, refusal-some, unless_found}
use Rattle.types.specs.Sync.{arbitration_from_raw}
use Rattle.block.specs.Block.{dec_block}
use Rattle.sound.specs.Question.{sound?}
use Rattle.svc.specs.declared.Registers.{Registers}
use Rattle.svc.specs.declared.Served.{Served}
use Rattle.svc.specs.Call.{answers, pair, resolved}
use Rattle.svc.specs.Sync.{biased}
use Rattle.svc.specs.Arbiter.{decrements, park_time, arbitrate_for, arbitrate_by, arbitrate_address}
use Rattle.lent.specs.Operations.{finding, out_of_handles?}
use Rattle.rows.specs.Holds.{holds}
use Rattle.outcome.specs.Outcome.{answered, outcome, left, outcome-0, outcome-found, left-0, left-found}
use Rattle.outcome.specs.Findings.{found_of, same-finding, room-none, room-refused}
use Rattle.arbiter.specs.Park.{word_after, over_below}
use Rattle.arbiter_calls.specs.Kinds.{signals, parks, goes_on, waits, waits_as, on_handle}

-- the kinds that wait (`is_wait` of sync.rs)
abbrev pub is_wait : ArbitrationType → Bool
is_wait Signal = false
is_wait WaitIfLessThan = true
is_wait DecrementAndWaitIfLessThan = true
is_wait WaitIfLessThanWithTimeout = true
is_wait DecrementAndWaitIfLessThanWithTimeout = true

pub not-signal : (kind : ArbitrationType) → (kind ≡ Signal → ⊥) → is_wait kind ≡ true
not-signal Signal n = absurd (n refl)
not-signal WaitIfLessThan n = refl
not-signal DecrementAndWaitIfLessThan n = refl
not-signal WaitIfLessThanWithTimeout n = refl
not-signal DecrementAndWaitIfLessThanWithTimeout n = refl

module _ (k : Kernel) (r : Registers) (word tick : ℕ) where
  by_kind : (x : Option ArbitrationType) → arbitration_from_raw r.r2 ≡ x → arbitrate_by x k r word tick ≡ arbitrate_address k r word tick
  unfolding arbitrate_address
  by_kind x e = ap (λ (y : Option ArbitrationType). arbitrate_by y k r word tick) (sym e)

  pub no_kind : arbitration_from_raw r.r2 ≡ None → answers 18 k ≡ arbitrate_address k r word tick
  no_kind e = by_kind None e

  pub some-kind : (kind : ArbitrationType) → arbitration_from_raw r.r2 ≡ Some kind → arbitrate_for kind k (resolved k r.r0) r word tick ≡ arbitrate_address k r word tick
  some-kind kind e = by_kind (Some kind) e

  pub signal-kind : (kind : ArbitrationType) → kind ≡ Signal → on_handle k r.r0 (signals r.r1 r.r3) ≡ arbitrate_for kind k (resolved k r.r0) r word tick
  unfolding on_handle
  signal-kind kind e = rw e

  pub wait-kind : (kind : ArbitrationType) → is_wait kind ≡ true → on_handle k r.r0 (waits_as kind r word tick) ≡ arbitrate_for kind k (resolved k r.r0) r word tick
  unfolding on_handle
  wait-kind Signal e = absurd (true≢false (sym e))
  wait-kind WaitIfLessThan e = refl
  wait-kind DecrementAndWaitIfLessThan e = refl
  wait-kind WaitIfLessThanWithTimeout e = refl
  wait-kind DecrementAndWaitIfLessThanWithTimeout e = refl

  waits-over : k.overflow ≡ false → (kind : ArbitrationType)
      → on_handle k r.r0 (waits (decrements kind) (park_time kind (pair r.r4 r.r5)) r.r1 r.r3 word tick) ≡ on_handle k r.r0 (waits_as kind r word tick)
  unfolding on_handle ◌or◌
  waits-over v kind = rw v

-- ---- in the block b
module _ (b : List ℕ) where
  none_over : (dec_block b).overflow ≡ false
  unfolding dec_block
  none_over = refl

  pub waits-kind : (r : Registers) (word tick : ℕ) (kind : ArbitrationType)
      → on_handle (dec_block b) r.r0 (waits (decrements kind) (park_time kind (pair r.r4 r.r5)) r.r1 r.r3 word tick) ≡ on_handle (dec_block b) r.r0 (waits_as kind r word tick)
  waits-kind r word tick = waits-over (dec_block b) r word tick none_over

-- ---- the kinds that wait, by whether the word is less than the value
module _ (k : Kernel) (h : ℕ) (d : Bool) (time : Option Ticks) (a value word tick : ℕ) where
  pub not-below : ltb (biased word) (biased value) ≡ false → on_handle k h goes_on ≡ on_handle k h (waits d time a value word tick)
  not-below e = ap (on_handle k h) (λ i q o. pick (sym e i) (parks a time tick (over_below d word) (word_after d word) q o) (goes_on q o))

  pub below : ltb (biased word) (biased value) ≡ true → on_handle k h (parks a time tick (over_below d word) (word_after d word)) ≡ on_handle k h (waits d time a value word tick)
  below e = ap (on_handle k h) (λ i q o. pick (sym e i) (parks a time tick (over_below d word) (word_after d word) q o) (goes_on q o))

-- a signal finds nothing more
pub signal-finding : (a value : ℕ) (k : Kernel) (o : ℕ) → finding (signals a value k o).kernel ≡ finding k
unfolding finding out_of_handles?
signal-finding a value k o = refl

-- ---- an answer that leaves the state
module _ (b : List ℕ) (n : ℕ) where
  abbrev v : Served
  v = answers n (dec_block b)

  pub answers-over : (r : Refusal) → unless_found {A = Unit {0}} (found_of false (out_of_handles? (dec_block b))) tt ≡ Err r → (Err r ≡ outcome v) × (b ≡ left v b)
  answers-over r e =
      let f : finding (dec_block b) ≡ refusal_number r = same-finding b ∙ room-refused false (out_of_handles? (dec_block b)) tt r e in
      (sym (outcome-found v r f), sym (left-found v b (λ w. refusal-some r (sym f ∙ w))))

  pub answers-same : sound? b ≡ true → (u : Unit {0}) → unless_found (found_of false (out_of_handles? (dec_block b))) tt ≡ Ok u → (Ok (answered n) ≡ outcome v) × (b ≡ left v b)
  answers-same s u e =
      let f : finding (dec_block b) ≡ 0 = same-finding b ∙ room-none false (out_of_handles? (dec_block b)) tt u e in
      (sym (outcome-0 v f), (holds b s).same ∙ sym (left-0 v b f))

pub ruleset kinds = (common_steps, not-signal, no_kind, some-kind, signal-kind, wait-kind, waits-kind, not-below, below)
