use Rattle.rows.specs.Current.{current-place}
use Rattle.rows.specs.Holds.{put-thread}
use Rattle.arbiter_calls.proofs.park.park_at.Goals as goal

pub thread_at-t-requires : goal.thread_at-t-requires
thread_at-t-requires c = record { t_bound = current-place c.args.block.now c.requires.block_value c.args.c c.requires.current_thread_value }

pub returns : goal.returns
returns c = rw (c.put_thread.ensures, c.parked.ensures, c.wake_tick-wake.ensures, c.thread_at-t.ensures) (put-thread c.put_pushed.ensures c.args.c _)
