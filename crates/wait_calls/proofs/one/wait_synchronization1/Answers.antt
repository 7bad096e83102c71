use mathlib.Core.Path.{sym, ap, ◌∙◌}
use mathlib.Core.Bool.{false}
use Rattle.laws.specs.Logic.{◌or◌, or-false}
use Rattle.types.specs.declared.kernel.Kernel.{Kernel}
use Rattle.block.specs.Block.{dec_block}
use Rattle.svc.specs.Timers.{caught_up}
use Rattle.lent.specs.Operations.{out_of_handles?}
use Rattle.std.proofs.lemmas.Result.{err_from_is_err_and}
use Rattle.types.specs.declared.refusal.Refusal.TheVariants.{Overflow}
use Rattle.outcome.specs.Findings.{none_found, room-none, room-refused}
use Rattle.wait_calls.specs.Named.{wait1_opened}
use Rattle.wait_calls.proofs.Ways.{moves, refuses, same-handles, plain-is, plain_over, plain-found}
use Rattle.wait_calls.proofs.one.wait_synchronization1.Goals as goal

pub returns-then-over_now : goal.returns-then-over_now
returns-then-over_now c =
    let a = c.args in
    let b = a.block.now in
    let p = sym c.is_pseudo.ensures ∙ c.if-is_pseudo.false in
    let o = c.resolve-o.result.0 in
    let w' = refuses b Overflow _ (plain_over b a.r a.tick.0 p o c.resolve-o.ensures (sym c.over_now.ensures ∙ c.if-over_now.true)) in
    record { value = w'.0; block_after = w'.1 }

pub returns-in_err-found_before : goal.returns-in_err-found_before
returns-in_err-found_before c =
    let a = c.args in
    let b = a.block.now in
    let p = sym c.is_pseudo.ensures ∙ c.if-is_pseudo.false in
    let o = c.resolve-o.result.0 in
    let w' = refuses b _ _ (plain-found b a.r a.tick.0 p o c.resolve-o.ensures (sym c.over_now.ensures ∙ c.if-over_now.false) ∙ room-refused false ((caught_up (dec_block b) a.tick.0).objects.overflow or out_of_handles? (dec_block b)) tt _ (sym c.found_before.ensures ∙ c.in_err-found_before.was)) in
    let p = err_from_is_err_and c.from_residual.result c.from_residual.ensures.1 in
    rw (p.1, p.2) record { value = w'.0; block_after = w'.1 }

pub catch_up_if-requires : goal.catch_up_if-requires
catch_up_if-requires c =
    let a = c.args in
    let b = a.block.now in
    let n = (none_found false _ (room-none false ((caught_up (dec_block b) a.tick.0).objects.overflow or out_of_handles? (dec_block b)) tt _ (sym c.found_before.ensures ∙ c.in_ok-found_before.was))).1 in
    let f = or-false (caught_up (dec_block b) a.tick.0).objects.overflow (out_of_handles? (dec_block b)) n in record { block_value = c.requires.block_value; fires_value = c.timer_due-fires.ensures; tick_value = f.0 }

pub wait_opened-requires : goal.wait_opened-requires
wait_opened-requires c =
    let a = c.args in
    let b = a.block.now in
    let n = (none_found false _ (room-none false ((caught_up (dec_block b) a.tick.0).objects.overflow or out_of_handles? (dec_block b)) tt _ (sym c.found_before.ensures ∙ c.in_ok-found_before.was))).1 in
    let f = or-false (caught_up (dec_block b) a.tick.0).objects.overflow (out_of_handles? (dec_block b)) n in record { block_value = c.catch_up_if.ensures.block_after_2; block_value_2 = same-handles _ (dec_block b) _ c.catch_up_if.ensures.block_after f.1 }

pub returns : goal.returns
returns c =
    let a = c.args in
    let b = a.block.now in
    let p = sym c.is_pseudo.ensures ∙ c.if-is_pseudo.false in
    let o = c.resolve-o.result.0 in
    let w' = moves b _ _ _ _ _ (ap (λ (k : Kernel). wait1_opened k o a.r a.tick.0) c.catch_up_if.ensures.block_after ∙ plain-is b a.r a.tick.0 p o c.resolve-o.ensures)
    (plain-found b a.r a.tick.0 p o c.resolve-o.ensures (sym c.over_now.ensures ∙ c.if-over_now.false) ∙ room-none false ((caught_up (dec_block b) a.tick.0).objects.overflow or out_of_handles? (dec_block b)) tt _ (sym c.found_before.ensures ∙ c.in_ok-found_before.was)) c.wait_opened.ensures.value c.wait_opened.ensures.block_after in
    record { value = w'.0; block_after = w'.1 }
