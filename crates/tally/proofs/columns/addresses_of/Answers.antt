use mathlib.Core.Path.{◌≡◌, ◌∙◌}
use native.Mathlib.Omega.{arith}
use lib.ListN.{length, length-set}
use Rattle.types.specs.declared.object.Waiter.{Waiter}
use Rattle.tally.specs.Columns.{no_waiter, map_more, map-done}
use Rattle.tally.proofs.columns.addresses_of.Goals as goal

pub loop-i-preserved : goal.loop-i-preserved
loop-i-preserved c =
    let l = c.loop-i in
    let n : length c.args.l ≡ 64 = omega (arith, c.well_formed) in
    record {
      made = length-set _ _ _ ∙ l.invariant.made;
      column =
          map_more (λ (x : Waiter). x.address) c.args.l no_waiter l.r l.i (omega arith) (omega arith) l.invariant.column;
    }

pub returns : goal.returns
returns c =
    let l = c.loop-i in
    let n : length c.args.l ≡ 64 = omega (arith, c.well_formed) in
    map-done (λ (x : Waiter). x.address) c.args.l l.r l.i (omega arith) (omega arith) l.invariant.column
