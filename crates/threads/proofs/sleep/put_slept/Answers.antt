use Rattle.std.specs.Prelude.{Option, ℕ}
use Rattle.std.proofs.Common.{ap, sym, ◌∙◌}
use Rattle.block.specs.Block.{dec_block}
use Rattle.rows.specs.Holds.{holds, put-thread}
use Rattle.std.proofs.Common.{rules}
use Rattle.pass.specs.Timers.{saturating_add}
use Rattle.pass.specs.Waits.{sleeping}
use Rattle.pass.specs.Schedule.{with_run}
use Rattle.sound.specs.View.{thread_at}
use Rattle.svc.specs.Threads.{runs_since}
use Rattle.threads.proofs.Found.{sleep-none, sleep-some, put-as}
use Rattle.threads.proofs.sleep.put_slept.Goals as goal

pub returns-in_default : goal.returns-in_default
returns-in_default c = rw (sleep-none (dec_block c.args.block.now) c.args.time c.args.tick.0 (sym c.current.ensures ∙ c.in_default.is)) (holds _ c.requires.block_value)

pub returns-in-None : goal.returns-in-None
returns-in-None c =
    let b = c.args.block.now in
    let x = thread_at (dec_block b).threads c.in-Some.c in
    let e = c.change.ensures.1.1 ∙ put-as b c.in-Some.c c.change.ensures.0 (with_run x x.waited c.args.tick.0) (λ l. search (rules, c.change.ensures.1.0 l)) in
    rw (c.in-None.is, ap (λ (x : Option ℕ). runs_since x (dec_block b) c.args.tick.0) (sym c.current.ensures ∙ c.in-Some.is), e) (put-thread (holds _ c.requires.block_value) _ _)

pub returns-in-Some-time : goal.returns-in-Some-time
returns-in-Some-time c =
    let b = c.args.block.now in
    let x = thread_at (dec_block b).threads c.in-Some.c in
    let d = c.in-Some-time.d in
    let e = c.change-in-Some-time.ensures.1.1
    ∙ put-as b c.in-Some.c c.change-in-Some-time.ensures.0 (sleeping x (saturating_add c.args.tick.0 d.0)) (λ l. search (rules, c.change-in-Some-time.ensures.1.0 l)) in
    rw (sleep-some (dec_block b) c.in-Some.c c.args.time d c.args.tick.0 (sym c.current.ensures ∙ c.in-Some.is) c.in-Some-time.is, e)
    (put-thread (holds _ c.requires.block_value) _ _)
