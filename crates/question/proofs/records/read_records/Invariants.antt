use mathlib.Core.Path.{◌≡◌}
use lib.ListN.{length, take}
use Rattle.block.specs.Tables.{waiters_in}
use Rattle.sound.specs.View.{waiter_nexts, waiter_threads, waiter_addresses}
use Rattle.question.proofs.records.read_records.Given as goal

abbrev pub invariant-loop-i : goal.invariant-loop-i
invariant-loop-i l =
    let w = take l.i (waiters_in l.b) in
    record {
      made : (length l.r.nexts ≡ 64) × ((length l.r.threads ≡ 64) × (length l.r.addresses ≡ 64));
      nexts : take l.i l.r.nexts ≡ waiter_nexts w;
      threads : take l.i l.r.threads ≡ waiter_threads w;
      addresses : take l.i l.r.addresses ≡ waiter_addresses w;
    }
