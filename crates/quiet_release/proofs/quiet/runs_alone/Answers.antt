use mathlib.Core.Path.{◌≡◌, sym, ◌∙◌}
use mathlib.Core.Bool.{not}
use lib.Dec.{eqb}
use borrow.Author.Rules.{rules}
use Rattle.laws.specs.Logic.{◌and◌, and_no, and_yes}
use Rattle.types.specs.Thread.{result_number}
use Rattle.pass.specs.Pick.{is_running}
use Rattle.pass.specs.Schedule.{starves}
use Rattle.quiet_release.proofs.Calm.{no_result, no_syscall, alone-is}
use Rattle.quiet_release.proofs.quiet.runs_alone.Goals as goal
use Rattle.quiet_release.proofs.quiet.runs_alone.Goals.{then-not-starves, else-not-starves}

pub returns-then-is_none : goal.returns-then-is_none
unfolding ◌and◌
returns-then-is_none c =
    let t = c.args.t in
    let e : c.if-is_running.value ≡ (is_running t.status and not t.waited) = search rules in
    let f : c.if-not-t.value ≡ (c.if-is_running.value and not (starves t c.args.tick.0)) = search rules in
    let g : c.if-not-starves.value ≡ (c.if-not-t.value and eqb (result_number t.wait_result) 0) = elim c.if-not-starves.branch [
      | then-not-starves w ↦ w.value-is ∙ rw w.if-not-starves.true (no_result t.wait_result w.is_none.result w.is_none.ensures)
      | else-not-starves w ↦ w.value-is ∙ rw w.if-not-starves.false
    ] in
    no_syscall t.wait_syscall c.is_none-then-is_none.result c.is_none-then-is_none.ensures ∙ sym (and_yes c.if-not-starves.value _ c.if-is_none.true) ∙ alone-is t c.args.tick.0 _ _ _ e f g

pub returns-else-is_none : goal.returns-else-is_none
unfolding ◌and◌
returns-else-is_none c =
    let t = c.args.t in
    let e : c.if-is_running.value ≡ (is_running t.status and not t.waited) = search rules in
    let f : c.if-not-t.value ≡ (c.if-is_running.value and not (starves t c.args.tick.0)) = search rules in
    let g : c.if-not-starves.value ≡ (c.if-not-t.value and eqb (result_number t.wait_result) 0) = elim c.if-not-starves.branch [
      | then-not-starves w ↦ w.value-is ∙ rw w.if-not-starves.true (no_result t.wait_result w.is_none.result w.is_none.ensures)
      | else-not-starves w ↦ w.value-is ∙ rw w.if-not-starves.false
    ] in
    c.if-is_none.false ∙ sym (and_no c.if-not-starves.value _ c.if-is_none.false) ∙ alone-is t c.args.tick.0 _ _ _ e f g
