use Rattle.std.proofs.Common.{ap, sym, ◌∙◌}
use Rattle.std.specs.Prelude.{Bool}
use Rattle.laws.specs.Logic.{pick}
use Rattle.types.specs.Refusal.{unless_found}
use Rattle.block.specs.Block.{dec_block}
use Rattle.sound.specs.View.{ids, first_ids}
use Rattle.pass.specs.Waits.{satisfied_at}
use Rattle.take.proofs.Taken.{fits-as}
use Rattle.tries.specs.Tries.{is_over, took}
use Rattle.tries.proofs.Turns.{fate-is, over-is, turned}
use Rattle.tries.proofs.try_wait.Goals as goal

pub returns : goal.returns
returns c =
    let b = c.args.block.now in
    let k = dec_block b in
    let t = c.thread_at-t.result in
    let found = c.satisfied_at-found.ensures ∙ ap (satisfied_at k.threads k.objects c.args.i t.wait_all) (ap ids c.first-list.ensures.value ∙ first_ids t.wait_objects t.wait_count) in
    let f = c.fate_of-f.ensures ∙ fate-is b c.requires.block_value c.args.tick.0 c.args.i t c.thread_at-t.ensures c.satisfied_at-found.result found in
    let e = (λ j. (took (f j) k.objects (c.thread_at-t.ensures j) c.args.i).overflow) ∙ over-is b c.requires.block_value c.args.tick.0 c.args.i in
    let fine = sym e ∙ fits-as _ tt tt (sym c.take_for.ensures.value ∙ c.in_ok-take_for.was) in
    let after = rw (ap ids c.first-list.ensures.value ∙ first_ids t.wait_objects t.wait_count) at c.release_list.ensures.block_after in
    let w =
    turned b c.requires.block_value c.args.tick.0 c.args.i t c.thread_at-t.ensures c.fate_of-f.result f (ap is_over (sym f) ∙ sym c.is_over.ensures ∙ c.if-not-is_over.false) fine
    c.take_for.new.block c.release_list.new.block (c.take_for.ensures.block_after c.in_ok-take_for.was) after c.release_list.ensures.encoded_2 c.tried.result c.tried.ensures in
    rw c.put_thread.ensures record { value = ap (λ (v : Bool). unless_found (pick v 8 0) tt) (sym fine); block_after = λ _. w.0; block_after_2 = λ _. w.1 }
