-- The three parts of demand 3 that speak of what comes after an operation.
use Rattle.std.specs.Prelude.{◌≡◌, true, ℕ, ◌+◌, Some}
use Rattle.std.proofs.Math.Path.{ap, subst}
use Rattle.std.proofs.Common.{sym, ◌∙◌}
use mathlib.Core.List.{List, []}
use Rattle.units.specs.Ticks.{nanos_to_ticks}
use Rattle.types.specs.declared.kernel.Kernel.{Kernel}
use Rattle.types.specs.Thread.{is_blocked}
use Rattle.sound.specs.View.{thread_at}
use Rattle.sound.specs.Sound.{Sound}
use Rattle.soundness.specs.Whole.{sound-parts}
use Rattle.svc.specs.declared.Registers.{Registers}
use Rattle.svc.specs.Call.{pair}
use Rattle.svc.specs.Timers.{not_below}
use Rattle.svc.specs.Table.{table, row_in, row_of}
use Rattle.svc.specs.Dispatch.{given, call}
use Rattle.demand.specs.Words.{Doing, calls, Event, named, awaited_by, asks_for, wait_nanos, Begins, asked_for, Ends, Runs, KeepsGrid}
use Rattle.timing.specs.Clock.{clock_at}
use Rattle.timing.specs.Fires.{fired_clocks}
use Rattle.clocks.specs.Timers.{set-clock}
use Rattle.deadlines.specs.Effect.{Timed, runs_out}
use Rattle.deadlines.specs.Ends.{call-wake}
use Rattle.course.specs.Read.{nanos-read, timed_read, asks_read}
use Rattle.course.specs.Asks.{call_asks}
use Rattle.course.specs.Course.{effect, Asked, Real, Course}
use Rattle.course.specs.Ends.{InWait, on-time}
use Rattle.course.specs.Runs.{in_two}
use Rattle.course.specs.Grid.{clock_set, clock-grid, timer_place, grid-run}

module _ (e : Event) (es : List Event) (real : Real e) (course : Course e.after es) where
  -- what an accepted call did
  called : e.accepted ≡ true → (number : ℕ) (r : Registers) (words : List ℕ) (t : ℕ) → e.does ≡ calls number r words t → e.after ≡ (call number e.before (given number r) words t).kernel
  called a number r words t d = real.did a ∙ ap (λ (x : Doing). effect x e.before) d

  begun : (τ n t : ℕ) → (b : Begins e τ n t) → InWait τ (t + (nanos_to_ticks (record { 0 = n })).0) (asked_for e τ n t b) e.after
  begun τ n t b =
      let a = subst (λ (d : Doing). Asked d e.before) b.doing (real.asked b.accept) in
      let f = called b.accept b.number b.registers b.words t b.doing in
      let p = subst (λ (x : Kernel). is_blocked (thread_at x.threads τ).status ≡ true) f b.parks in
      let x : Registers = given b.number b.registers in
      let n-is : wait_nanos b.number x ≡ n = nanos-read b.number b.registers ∙ b.nanos in
      let m : Timed (wait_nanos b.number x) t = subst (λ (y : ℕ). Timed y t) (sym n-is) (record { least = b.from; most = b.to; fits = b.fits }) in
      record {
        is = b.parks;
        wake =
            ap (λ (x : Kernel). (thread_at x.threads τ).wakeup_at) f
            ∙ call-wake b.number e.before x b.words t (sound-parts e.before a.0) a.1 τ b.who p (timed_read b.number b.registers ∙ b.wait) m
            ∙ ap (λ (y : ℕ). runs_out y t) n-is;
        for =
            subst (λ (y : Kernel). awaited_by (thread_at y.threads τ) ≡ asks_for b.number b.registers b.words
            (named (Some τ) e.before.handles y.objects)) (sym f)
            (call_asks b.number e.before x b.words t a.3 (timed_read b.number b.registers ∙ b.wait) a.1 τ b.who p
            ∙ asks_read b.number b.registers b.words
            (named (Some τ) e.before.handles (call b.number e.before x b.words t).kernel.objects));
      }

  pub ends : Ends e es
  ends τ n t b s = let w = begun τ n t b in (w.for, on-time τ (t + (nanos_to_ticks (record { 0 = n })).0) (asked_for e τ n t b) e.after es course w s)

  pub runs : Runs e es
  runs τ n t b s = in_two τ e.after es course s

  pub grid : KeepsGrid e es
  unfolding fired_clocks row_of row_in table
  grid o t a b h p =
      let q = subst (λ (d : Doing). Asked d e.before) h.doing (real.asked h.accept) in
      let f = called h.accept 0x1B h.registers h.words t h.doing in
      let s : Sound e.after = real.sound h.accept in
      let c : clock_at e.after.objects o ≡ clock_set t a b =
      ap (λ (x : Kernel). clock_at x.objects o) f
      ∙ set-clock e.before (given 0x1B h.registers) h.words t o q.0 q.1 (subst Sound f s) h.names h.kind
      ∙ ap (λ (x : ℕ). clock_set t x (not_below (pair h.registers.r1 h.registers.r4))) h.initial ∙ ap (λ (x : ℕ). clock_set t a x) h.interval in
      (clock-grid t a b [] e.after.objects o tt c, grid-run o t a b [] e.after es course (timer_place e.before.objects o h.kind) s p tt c)
