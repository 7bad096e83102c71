-- What a pass does to a blocked thread: its fate at its turn says whether its wait goes on or it can run.
use Rattle.std.specs.Prelude.{◌≡◌, true, false, ℕ, ◌<◌}
use Rattle.std.proofs.Common.{ap, ◌∙◌}
use Rattle.types.specs.declared.thread.Thread.{Thread}
use Rattle.types.specs.declared.kernel.Kernel.{Kernel}
use Rattle.sound.specs.View.{thread_at}
use Rattle.pass.specs.Pick.{is_runnable}
use Rattle.pass.specs.Schedule.{tried, schedule}
use Rattle.timing.specs.Wait.{wait_of, Blocked, blocked-runs}
use Rattle.timing.specs.Turn.{stays?, fate_at, tried-stays, tried-ready}
use Rattle.timing.specs.Rest.{at_rest, rest-runs, rest-wait, choose-rest}

-- ---- every thread
module _ (k : Kernel) (tick i : ℕ) where
  pub pass-rest : at_rest (thread_at (schedule k tick).kernel.threads i) ≡ at_rest (thread_at (tried k tick).threads i)
  unfolding schedule
  pass-rest = choose-rest k (tried k tick) tick i

  -- who can run after a pass is who could after its tries
  pub pass-runs : is_runnable (thread_at (schedule k tick).kernel.threads i).status ≡ is_runnable (thread_at (tried k tick).threads i).status
  pass-runs = rest-runs (thread_at (tried k tick).threads i) (thread_at (schedule k tick).kernel.threads i) pass-rest

-- ---- a blocked thread
module _ (k : Kernel) (tick w : ℕ) (l : w < 32) (b : Blocked k.threads w) where
  pub pass-stays : stays? (fate_at k tick w) ≡ true → wait_of (thread_at (schedule k tick).kernel.threads w) ≡ wait_of (thread_at k.threads w)
  pass-stays e =
      let same : thread_at (tried k tick).threads w ≡ thread_at k.threads w = tried-stays k tick w l e in
      rest-wait (thread_at (tried k tick).threads w) (thread_at (schedule k tick).kernel.threads w) (pass-rest k tick w)
      (ap (λ (t : Thread). is_runnable t.status) same ∙ blocked-runs (thread_at k.threads w).status b)
      ∙ ap wait_of same

  pub pass-ends : stays? (fate_at k tick w) ≡ false → is_runnable (thread_at (schedule k tick).kernel.threads w).status ≡ true
  pass-ends e = pass-runs k tick w ∙ ap is_runnable (tried-ready k tick w l b e)
