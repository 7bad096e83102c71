use mathlib.Core.Path.{◌≡◌}
use lib.ListN.{length, take}
use Rattle.block.specs.Tables.{slots_in}
use Rattle.sound.specs.View.{kinds, refs, nexts, heads}
use Rattle.question.specs.LinearObjects.{named, contents_by?}
use Rattle.question.proofs.objects.read_columns.Given as goal

abbrev pub invariant-loop-i : goal.invariant-loop-i
invariant-loop-i l =
    let t = take l.i (slots_in l.b) in
    record {
      made : (length l.s.kinds ≡ 128) × ((length l.s.refs ≡ 128) × ((length l.s.nexts ≡ 128) × ((length l.s.heads ≡ 128) × (length l.s.named ≡ 128))));
      contents : l.ok ≡ contents_by? l.n l.d (slots_in l.b) l.i;
      kinds : take l.i l.s.kinds ≡ kinds t;
      refs : take l.i l.s.refs ≡ refs t;
      nexts : take l.i l.s.nexts ≡ nexts t;
      heads : take l.i l.s.heads ≡ heads t;
      named : take l.i l.s.named ≡ named t;
    }
