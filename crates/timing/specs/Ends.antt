-- A pass and a timed wait: it goes on, ends by time or is given something, and each says how the tick and what is waited for stand.
use Rattle.std.specs.Prelude.{◌≡◌, refl, Bool, true, false, ℕ, ◌≤◌, ◌<◌, Some}
use Rattle.std.proofs.Common.{sym, ◌∙◌, inl, inr}
use Rattle.laws.specs.Logic.{lt-cases, false-true}
use Rattle.units.specs.declared.Ticks.{Ticks}
use Rattle.types.specs.declared.kernel.Kernel.{Kernel}
use Rattle.sound.specs.View.{thread_at}
use Rattle.pass.specs.Pick.{is_runnable}
use Rattle.pass.specs.Schedule.{schedule}
use Rattle.timing.specs.Wait.{wait_of, Blocked}
use Rattle.timing.specs.Turn.{stays?, is_given, fate_at}
use Rattle.timing.specs.Pass.{pass-stays, pass-ends}
use Rattle.timing.specs.Late.{by_time?, ends-given, time-given, stays-given, late-not-stays, time-from}

-- what a pass makes of thread w, whose wait runs out at a tick
pub data Ends (k : Kernel) (tick w : ℕ) (at : Ticks) : Type 0 where
  goes_on_lem : wait_of (thread_at (schedule k tick).kernel.threads w) ≡ wait_of (thread_at k.threads w) → is_given (fate_at k tick w) ≡ false → tick < at.0 → Ends k tick w at
  runs-out : is_runnable (thread_at (schedule k tick).kernel.threads w).status ≡ true → is_given (fate_at k tick w) ≡ false → at.0 ≤ tick → Ends k tick w at
  gets : is_runnable (thread_at (schedule k tick).kernel.threads w).status ≡ true → is_given (fate_at k tick w) ≡ true → Ends k tick w at

module _ (k : Kernel) (tick w : ℕ) (l : w < 32) (b : Blocked k.threads w) (at : Ticks)
    (e : (thread_at k.threads w).wakeup_at ≡ Some at) where
  abbrev stays : Bool
  stays = stays? (fate_at k tick w)

  abbrev late : Bool
  late = by_time? (fate_at k tick w)

  early : stays ≡ true → tick < at.0
  early s = elim (lt-cases tick at.0) [ inl h ↦ h | inr h ↦ false-true (sym (late-not-stays k tick w b at e h) ∙ s) ]

  end_as : (q r : Bool) → stays ≡ q → late ≡ r → Ends k tick w at
  end_as true r s t = goes_on_lem (pass-stays k tick w l b s) (stays-given (fate_at k tick w) s) (early s)
  end_as false true s t = runs-out (pass-ends k tick w l b s) (time-given (fate_at k tick w) t) (time-from k tick w t at e)
  end_as false false s t = gets (pass-ends k tick w l b s) (ends-given (fate_at k tick w) s t)

  pub pass-end : Ends k tick w at
  pass-end = end_as stays late refl refl
