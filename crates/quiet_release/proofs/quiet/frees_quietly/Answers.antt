use Rattle.std.specs.Prelude.{Option, ℕ}
use mathlib.Core.Path.{ap, sym, ◌∙◌}
use native.Mathlib.Omega.{arith}
use Rattle.types.specs.declared.thread.Thread.{Thread}
use Rattle.block.specs.Block.{dec_block}
use Rattle.pass.specs.Asks.{calm_from, frees_quietly}
use Rattle.rows.specs.Sizes.{size-threads}
use Rattle.quiet_release.specs.Alone.{alone}
use Rattle.quiet_release.proofs.Calm.{not-alone, no-thread, some-due, not_calm, quiet}
use Rattle.quiet_release.proofs.quiet.frees_quietly.Goals as goal
use Rattle.quiet_release.proofs.quiet.frees_quietly.Goals.{else-runs_alone-via-then-runs_alone+then-none_due+else-all_calm, else-runs_alone-via-then-runs_alone+else-none_due, else-runs_alone-via-else-runs_alone}

pub returns-then-c-ge32 : goal.returns-then-c-ge32
returns-then-c-ge32 c =
    let a = c.args in
    let k = dec_block a.b.now in
    no-thread k c.in_ok-c.c a.o.0 a.tick.0 (omega (arith, size-threads a.b.now)) ∙ ap (λ (u : Option ℕ). frees_quietly u k a.o.0 a.tick.0) c.in_ok-c.ensures

pub returns-then-all_calm : goal.returns-then-all_calm
returns-then-all_calm c =
    let a = c.args in
    let k = dec_block a.b.now in
    let n = c.in_ok-c.c in
    let e = c.runs_alone.ensures ∙ ap (λ (x : Thread). alone x a.tick.0) c.thread_at-t.ensures in
    let f = c.all_calm.ensures ∙ ap (λ (x : Thread). calm_from a.o.0 n x.priority 0 k.threads) c.thread_at-t.ensures in
    quiet k n a.o.0 a.tick.0 (sym e ∙ c.if-runs_alone.true) (sym c.none_due.ensures ∙ c.if-none_due.true) (sym f ∙ c.if-all_calm.true)
    ∙ ap (λ (u : Option ℕ). frees_quietly u k a.o.0 a.tick.0) c.in_ok-c.ensures

pub returns-else-runs_alone : goal.returns-else-runs_alone
returns-else-runs_alone c =
    let a = c.args in
    let k = dec_block a.b.now in
    let n = c.in_ok-c.c in
    let e = c.runs_alone.ensures ∙ ap (λ (x : Thread). alone x a.tick.0) c.thread_at-t.ensures in
    (elim c.else-runs_alone.branch [
      | else-runs_alone-via-else-runs_alone w ↦ not-alone k n a.o.0 a.tick.0 (sym e ∙ w.if-runs_alone.false)
      | else-runs_alone-via-then-runs_alone+else-none_due w ↦ some-due k n a.o.0 a.tick.0 (sym e ∙ w.if-runs_alone.true) (sym w.none_due.ensures ∙ w.if-none_due.false)
      | else-runs_alone-via-then-runs_alone+then-none_due+else-all_calm w ↦
          let f = w.all_calm.ensures ∙ ap (λ (x : Thread). calm_from a.o.0 n x.priority 0 k.threads) c.thread_at-t.ensures in
          not_calm k n a.o.0 a.tick.0 (sym e ∙ w.if-runs_alone.true) (sym w.none_due.ensures ∙ w.if-none_due.true) (sym f ∙ w.if-all_calm.false)
    ])
    ∙ ap (λ (u : Option ℕ). frees_quietly u k a.o.0 a.tick.0) c.in_ok-c.ensures
