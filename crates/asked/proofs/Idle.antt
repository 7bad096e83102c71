-- With no thread blocked nothing wakes and no timer is waited on, so `next_event` needs no test for it. Assumes nothing.
use Rattle.std.specs.Prelude.{Option, None}
use Rattle.units.specs.declared.Ticks.{Ticks}
use mathlib.Core.Path.{◌≡◌, refl, ◌∙◌}
use mathlib.Core.Bool.{Bool, true, false}
use mathlib.Core.List.{List, [], ◌∷◌}
use Prim.Native.Nat.{ℕ, suc}
use Rattle.laws.specs.Logic.{pick, and_no, or_no, or-false}
use Rattle.types.specs.declared.thread.Thread.{Thread}
use Rattle.types.specs.declared.object.Slot.{Slot}
use Rattle.types.specs.declared.kernel.Kernel.{Kernel}
use Rattle.types.specs.Thread.{is_blocked}
use Rattle.kernel.specs.NextEvent.{next_wake, any_blocked, waited_on, next_due, next_event}

no-wake : (best : Option Ticks) (ts : List Thread) → any_blocked ts ≡ false → next_wake best ts ≡ best
unfolding any_blocked next_wake
no-wake best [] e = refl
no-wake best (t ∷ ts) e = let d = or-false (is_blocked t.status) (any_blocked ts) e in rw d.0 (no-wake best ts d.1)

no-wait : (ts : List Thread) (o : ℕ) → any_blocked ts ≡ false → waited_on ts o ≡ false
unfolding any_blocked waited_on
no-wait [] o e = refl
no-wait (t ∷ ts) o e = let d = or-false (is_blocked t.status) (any_blocked ts) e in or_no _ _ (and_no _ _ d.0) ∙ no-wait ts o d.1

no_due : (ts : List Thread) (best : Option Ticks) (o : ℕ) (l : List Slot) → any_blocked ts ≡ false → next_due ts best o l ≡ best
unfolding next_due
no_due ts best o [] e = refl
no_due ts best o (s ∷ ss) e = rw (no-wait ts o e) (no_due ts best (suc o) ss e)

module _ (k : Kernel) where
  abbrev earliest : Option Ticks
  earliest = next_due k.threads (next_wake None k.threads) 1 k.objects.slots

  by_blocked : (t : Bool) → any_blocked k.threads ≡ t → earliest ≡ pick t earliest None
  by_blocked true e = refl
  by_blocked false e = no_due k.threads (next_wake None k.threads) 1 k.objects.slots e ∙ no-wake None k.threads e

  pub event-is : earliest ≡ next_event k
  unfolding next_event
  event-is = by_blocked (any_blocked k.threads) refl
