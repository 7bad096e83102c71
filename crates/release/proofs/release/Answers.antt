use native.Mathlib.Omega.{arith}
use mathlib.Core.Path.{sym, subst, ◌∙◌}
use Rattle.block.specs.Block.{dec_block}
use Rattle.thread.specs.Threads.{with_threads}
use Rattle.rows.specs.Holds.{Holds}
use Rattle.release.proofs.Released.{released-last, released}
use Rattle.release.proofs.release.Goals as goal

pub returns-then-old-lt2 : goal.returns-then-old-lt2
returns-then-old-lt2 c = let b = c.args.block.now in
    let k = dec_block b in
    let e = released-last b c.requires.encoded c.args.o.0 c.slot_at-old.result c.slot_at-old.ensures (sym c.is_free.ensures ∙ c.if-is_free.false) c.if-old-lt2.true in
    let w' = released b c.requires.encoded c.args.o.0 _ (omega (arith, c.well_formed)) (subst (λ s. Holds c.free_slot.new.block (with_threads k k.threads s)) (sym e) c.free_slot.ensures) in
    record { block_after = w'.0; encoded_2 = w'.1 }
