-- What collect finds. Assumes nothing.
use Rattle.std.specs.Prelude.{Option, Some, None}
use mathlib.Core.Path.{◌≡◌}
use mathlib.Core.Bool.{false}
use mathlib.Core.List.{List}
use Prim.Native.Nat.{ℕ}
use Rattle.laws.specs.Logic.{◌or◌}
use Rattle.block.specs.Block.{dec_block}
use Rattle.svc.specs.Collect.{collect_as, collect}
use Rattle.lent.specs.Operations.{finding, out_of_handles?}
use Rattle.outcome.specs.Findings.{found_of, same-finding, parts-finding}

finding_as : (b : List ℕ) (c : Option ℕ) → finding (collect_as c (dec_block b)) ≡ found_of false (out_of_handles? (dec_block b))
unfolding dec_block ◌or◌
finding_as b None = same-finding b
finding_as b (Some c) = parts-finding b _ (dec_block b).objects

pub collect-finding : (b : List ℕ) → finding (collect (dec_block b)) ≡ found_of false (out_of_handles? (dec_block b))
unfolding collect
collect-finding b = finding_as b (dec_block b).current_thread
