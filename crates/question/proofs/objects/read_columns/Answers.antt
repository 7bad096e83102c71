use mathlib.Core.Path.{◌≡◌, refl, sym, ◌∙◌}
use Prim.Native.Nat.{ℕ}
use native.Mathlib.Omega.{arith}
use lib.ListN.{length, length-set}
use Rattle.codec.proofs.Fit.{length-dec_all}
use Rattle.types.specs.declared.object.Slot.{Slot}
use Rattle.types.specs.Object.{kind_number, next_of, head_of}
use Rattle.block.specs.Slot.{dec_slot}
use Rattle.block.specs.Tables.{slots_in, row_at}
use Rattle.sound.specs.View.{no_slot}
use Rattle.tally.specs.Columns.{map_more, map-done}
use Rattle.question.specs.LinearObjects.{named_of}
use Rattle.question.specs.ObjectSteps.{contents-start, contents-next}
use Rattle.question.proofs.Steps.{eager-turn}
use Rattle.question.proofs.objects.read_columns.Goals as goal

abbrev kind : Slot → ℕ
kind s = kind_number s.object

abbrev count : Slot → ℕ
count s = s.refcount

abbrev next : Slot → ℕ
next s = next_of s.object

abbrev head : Slot → ℕ
head s = head_of s.object

abbrev thread : Slot → ℕ
thread s = named_of s.object

pub loop-i-init : goal.loop-i-init
loop-i-init c =
    let w = c.well_formed in
    record {
      made = (omega arith, (omega arith, (omega arith, (omega arith, omega arith))));
      contents = contents-start _ _ _;
      kinds = refl;
      refs = refl;
      nexts = refl;
      heads = refl;
      named = refl;
    }

pub loop-i-preserved : goal.loop-i-preserved
loop-i-preserved c =
    let l = c.loop-i in
    let v = l.invariant in
    let m = slots_in c.args.b.now in
    let n : length m ≡ 128 = length-dec_all dec_slot 40 128 c.args.b.now 5248 in
    let t = c.slot_at-slot.ensures ∙ row_at dec_slot 40 no_slot 128 c.args.b.now 5248 l.i (omega arith) in
    record {
      made = (length-set _ _ _ ∙ v.made.0, (length-set _ _ _ ∙ v.made.1.0, (length-set _ _ _ ∙ v.made.1.1.0, (length-set _ _ _ ∙ v.made.1.1.1.0, length-set _ _ _ ∙ v.made.1.1.1.1))));
      contents = eager-turn l.ok _ ∙ rw (c.content_ok-ok.ensures, t, v.contents) (sym (contents-next _ _ m l.i));
      kinds = rw (c.kind_number.ensures, t) (map_more kind m no_slot l.s.kinds l.i (omega arith) (omega arith) v.kinds);
      refs = rw t (map_more count m no_slot l.s.refs l.i (omega arith) (omega arith) v.refs);
      nexts = rw (c.next_of.ensures, t) (map_more next m no_slot l.s.nexts l.i (omega arith) (omega arith) v.nexts);
      heads = rw (c.head_of.ensures, t) (map_more head m no_slot l.s.heads l.i (omega arith) (omega arith) v.heads);
      named = rw (c.named_of.ensures, t) (map_more thread m no_slot l.s.named l.i (omega arith) (omega arith) v.named);
    }

pub returns : goal.returns
returns c =
    let l = c.loop-i in
    let v = l.invariant in
    let m = slots_in c.args.b.now in
    let n : length m ≡ 128 = length-dec_all dec_slot 40 128 c.args.b.now 5248 in
    let e : l.i ≡ 128 = omega arith in
    record {
      value = rw e at v.contents;
      kinds_after = map-done kind m l.s.kinds l.i (omega arith) (omega arith) v.kinds;
      refs_after = map-done count m l.s.refs l.i (omega arith) (omega arith) v.refs;
      nexts_after = map-done next m l.s.nexts l.i (omega arith) (omega arith) v.nexts;
      heads_after = map-done head m l.s.heads l.i (omega arith) (omega arith) v.heads;
      named_after = map-done thread m l.s.named l.i (omega arith) (omega arith) v.named;
    }
