-- What is found when an object is made. Assumes nothing.
use mathlib.Core.Path.{◌≡◌, ap, ◌∙◌}
use mathlib.Core.List.{List}
use Prim.Native.Nat.{ℕ}
use lib.Dec.{eqb, leb}
use Rattle.laws.specs.Logic.{◌or◌}
use Rattle.types.specs.declared.object.KObject.{KObject}
use Rattle.block.specs.Block.{dec_block}
use Rattle.object.specs.Store.{insert}
use Rattle.object.specs.Handles.{give}
use Rattle.svc.specs.Call.{create_object}
use Rattle.lent.specs.Operations.{finding, out_of_handles?}
use Rattle.outcome.specs.Findings.{found_of, next-over, both-finding}

pub created-finding : (b : List ℕ) (v : KObject)
    → finding (create_object (dec_block b) v).kernel ≡ found_of (eqb (dec_block b).objects.free 0 or leb 256 (dec_block b).handles.count) (leb 0xFFFF8000 (dec_block b).handles.next.0)
unfolding create_object insert give dec_block out_of_handles? ◌or◌
created-finding b v =
    both-finding b (give (dec_block b).handles (dec_block b).objects.free) (insert (dec_block b).objects v)
    ∙ ap (found_of (eqb (dec_block b).objects.free 0 or leb 256 (dec_block b).handles.count)) (next-over (dec_block b).handles.next.0)
