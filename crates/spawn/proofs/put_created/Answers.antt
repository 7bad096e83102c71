use mathlib.Core.Path.{◌∙◌}
use Rattle.block.specs.Block.{dec_block}
use Rattle.thread.proofs.Steps.{min-least, tls-le}
use Rattle.spawn.proofs.Made.{count-is, made}
use Rattle.spawn.proofs.put_created.Goals as goal

pub new_head-requires : goal.new_head-requires
new_head-requires c = rw c.requires.tls_value (tls-le (dec_block c.args.block.now))

pub returns : goal.returns
returns c = let b = c.args.block.now in
    rw (c.put_head.ensures, c.new_head.ensures, c.put_thread.ensures, c.new_thread-made.ensures, c.min.ensures, min-least)
    (made c.forget_if.new.block (dec_block b) c.args.asked.entry c.args.asked.stack_top c.args.asked.priority c.args.asked.processor_id c.forget_if.ensures.encoded c.args.id c.requires.id_value c.args.tls c.requires.tls_value c.get32.result (c.get32.ensures ∙ count-is b) c.forget_if.ensures.block_after c.get_head-head.result c.get_head-head.ensures)
