use mathlib.Core.Path.{◌≡◌, ◌∙◌}
use native.Mathlib.Omega.{arith}
use lib.ListN.{length, length-set}
use Rattle.codec.proofs.Fit.{length-dec_all}
use Rattle.types.specs.declared.object.Waiter.{Waiter}
use Rattle.block.specs.Table.{dec_waiter}
use Rattle.block.specs.Tables.{waiters_in, row_at}
use Rattle.tally.specs.Columns.{no_waiter, map_more, map-done}
use Rattle.question.proofs.records.read_records.Goals as goal

pub loop-i-preserved : goal.loop-i-preserved
loop-i-preserved c =
    let l = c.loop-i in
    let b = c.args.b.now in
    let n : length (waiters_in b) ≡ 64 = length-dec_all dec_waiter 12 64 b 12416 in
    let t = c.waiter_at-w.ensures ∙ row_at dec_waiter 12 no_waiter 64 b 12416 l.i (omega arith) in
    record {
      made = (length-set _ _ _ ∙ l.invariant.made.0, (length-set _ _ _ ∙ l.invariant.made.1.0, length-set _ _ _ ∙ l.invariant.made.1.1));
      nexts = rw t (map_more (λ (x : Waiter). x.next) (waiters_in b) no_waiter l.r.nexts l.i (omega arith) (omega arith) l.invariant.nexts);
      threads = rw t (map_more (λ (x : Waiter). x.thread) (waiters_in b) no_waiter l.r.threads l.i (omega arith) (omega arith) l.invariant.threads);
      addresses = rw t (map_more (λ (x : Waiter). x.address) (waiters_in b) no_waiter l.r.addresses l.i (omega arith) (omega arith) l.invariant.addresses);
    }

pub returns : goal.returns
returns c =
    let l = c.loop-i in
    let b = c.args.b.now in
    let n : length (waiters_in b) ≡ 64 = length-dec_all dec_waiter 12 64 b 12416 in
    record {
      nexts_after = map-done (λ (x : Waiter). x.next) (waiters_in b) l.r.nexts l.i (omega arith) (omega arith) l.invariant.nexts;
      threads_after = map-done (λ (x : Waiter). x.thread) (waiters_in b) l.r.threads l.i (omega arith) (omega arith) l.invariant.threads;
      addresses_after = map-done (λ (x : Waiter). x.address) (waiters_in b) l.r.addresses l.i (omega arith) (omega arith) l.invariant.addresses;
    }
