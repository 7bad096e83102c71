use mathlib.Core.Path.{◌∙◌}
use Rattle.scheduler.specs.Turn.{turning}
use Rattle.scheduler.proofs.Choice.{choose_as}
use Rattle.scheduler.proofs.choose.choose.Goals as goal
use Rattle.scheduler.proofs.choose.choose.Goals.{then-not-same, else-not-same}

pub returns : goal.returns
returns c k s =
    let a = c.args in
    rw (c.flipped.ensures, c.switches.ensures, c.unless-2.ensures, c.unless.ensures)
    (choose_as (turning k a.current a.relief) s a.ts a.tick.0 c.mark_waited.new.ts c.begin_run.new.ts c.begin_run-2.new.ts c.take_core.new.ts
    c.pick_next-first.result c.chosen-next.result c.starving-starve.result c.stays-same.result
    c.mark_waited.ensures c.pick_next-first.ensures c.begin_run.ensures c.starving-starve.ensures c.chosen-next.ensures
    c.begin_run-2.ensures c.stays-same.ensures
    (c.take_core.ensures ∙ elim c.if-not-same.branch [
      | then-not-same w ↦ rw (w.l-is, w.leave_core.ensures, w.if-not-same.true)
      | else-not-same w ↦ rw (w.l-is, w.if-not-same.false)
    ]))
