use mathlib.Core.Path.{ap, ◌∙◌}
use Rattle.block.specs.Block.{dec_block}
use Rattle.sound.specs.View.{ids, first_ids}
use Rattle.release.specs.Encoded.{encoded-head}
use Rattle.ending.proofs.Ended.{ended_in}
use Rattle.ending.proofs.put_ended.Goals as goal

pub returns : goal.returns
returns c =
    let x = c.thread_at-x.result in
    let listed = ap ids c.first.ensures.value ∙ first_ids x.wait_objects x.wait_count in
    let after = rw listed at c.release_list.ensures.block_after in
    rw (c.put_head.ensures, c.new_head.ensures, c.left_by-current.ensures, c.put_thread.ensures, c.ended.ensures)
    (ended_in c.disown.new.block (dec_block c.args.block.now) (dec_block c.release_list.new.block) c.args.t c.thread_at-x.result c.thread_at-x.ensures c.current.result c.current.ensures after c.get_head-head.result (c.get_head-head.ensures ∙ encoded-head c.release_list.new.block c.release_list.ensures.encoded_2) c.disown.ensures)
