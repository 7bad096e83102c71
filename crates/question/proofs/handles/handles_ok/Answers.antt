use mathlib.Core.Path.{◌≡◌, refl, ap, sym, ◌∙◌}
use Prim.Native.Nat.{ℕ, ◌+◌, ◌-◌, ◌*◌, ◌<◌}
use native.Mathlib.Omega.{arith}
use lib.ListN.{length, take, drop, replicate}
use borrow.Author.Tests.{lt-leb, le-leb}
use Rattle.laws.specs.Logic.{and_no, and_yes}
use Rattle.laws.specs.Tally.{tally-more, zero-le}
use Rattle.codec.specs.Bytes.{same}
use Rattle.codec.proofs.Fit.{length-dec_all}
use Rattle.types.specs.declared.object.HandleEntry.{HandleEntry}
use Rattle.block.specs.Table.{dec_entry}
use Rattle.block.specs.Tables.{entries_in, row_at}
use Rattle.tally.specs.Lists.{name_of}
use Rattle.sound.specs.Handles.{no_entries?}
use Rattle.question.specs.Linear.{entry?}
use Rattle.question.proofs.Steps.{rising_step, rising-end, rising-far, entry-names, count-more, none-tally}
use Rattle.question.proofs.Entries.{rows_drop, none-zero}
use Rattle.question.proofs.handles.handles_ok.Goals as goal

abbrev none : HandleEntry
none = record { handle = record { 0 = 0 }; object = record { 0 = 0 } }

pub returns-then-count-gt256-clause-value : goal.returns-then-count-gt256-clause-value
returns-then-count-gt256-clause-value c =
    let a = c.args in
    let es = entries_in a.b.now in
    let n : length es ≡ 256 = length-dec_all dec_entry 8 256 a.b.now 10368 in
    sym (rising-far a.count 0x10000 a.next.0 es (omega arith))

pub loop-i-init : goal.loop-i-init
loop-i-init c =
    let e : c.args.count - 0 ≡ c.args.count = omega arith in
    record { handles = rw e; names = refl; made = omega arith; low_counts = λ j. rw c.requires.c_value (zero-le 129 j) }

pub returns-then-not-entry_ok-clause-value : goal.returns-then-not-entry_ok-clause-value
returns-then-not-entry_ok-clause-value c =
    let a = c.args in
    let b = a.b.now in
    let es = entries_in b in
    let n : length es ≡ 256 = length-dec_all dec_entry 8 256 b 10368 in
    let l = c.loop-i in
    let t = c.entry_at-e.ensures ∙ row_at dec_entry 8 none 256 b 10368 l.i (omega arith) in
    sym (rising_step es a.count l.i l.low a.next.0 none (omega arith) (omega arith) ∙ and_no _ _ (ap (λ (x : HandleEntry). entry? l.low x) (sym t) ∙ sym c.entry_ok.ensures ∙ c.if-not-entry_ok.true)) ∙ l.invariant.handles

pub loop-i-preserved : goal.loop-i-preserved
loop-i-preserved c =
    let a = c.args in
    let b = a.b.now in
    let es = entries_in b in
    let n : length es ≡ 256 = length-dec_all dec_entry 8 256 b 10368 in
    let l = c.loop-i in
    let h : l.i < length es = omega arith in
    let t = c.entry_at-e.ensures ∙ row_at dec_entry 8 none 256 b 10368 l.i (omega arith) in
    let f = ap (λ (x : HandleEntry). entry? l.low x) (sym t) ∙ (sym c.entry_ok.ensures ∙ c.if-not-entry_ok.false) in
    record {
      handles = rw (c.from-low.ensures, t) (sym (rising_step es a.count l.i l.low a.next.0 none h (omega arith) ∙ and_yes _ _ f) ∙ l.invariant.handles);
      names = rw (c.count_at.ensures, t, ← entry-names l.low _ f)
          (sym (tally-more 129 (λ (x : HandleEntry). name_of x.object.0) es l.i none l.c h) ∙ l.invariant.names);
      made = c.count_at.array_long;
      low_counts = λ j. rw c.count_at.ensures (count-more l.c _ l.i l.invariant.made l.invariant.low_counts (omega arith) j);
    }

pub returns-then-low-from : goal.returns-then-low-from
returns-then-low-from c =
    let a = c.args in
    let b = a.b.now in
    let es = entries_in b in
    let l = c.loop-i in
    let m = a.count in
    let e : l.i ≡ m = omega arith in
    let z : (512 - m * 2) * 4 ≡ (256 - m) * 8 = omega arith in
    let w : c.zero_words.result ≡ no_entries? (drop m es) =
    c.zero_words.ensures ∙ ap (λ (x : ℕ). same (take x (drop (10368 + m * 8) b)) (replicate x 0)) z ∙ none-zero (256 - m) b (10368 + m * 8) (omega arith)
    ∙ ap no_entries? (sym (rows_drop dec_entry 8 256 m b 10368 (omega arith))) in
    let u = rw e at l.invariant.handles in
    let v = rw e at l.invariant.names in
    record {
      value = w ∙ sym (rising-end (drop m es) m m l.low a.next.0 (omega arith) ∙ and_yes _ _ (rw c.from.ensures at (le-leb _ _ c.if-low-from.true))) ∙ u;
      c_after = λ r. sym (none-tally l.c (drop m es) (sym w ∙ r)) ∙ v;
    }

pub returns-else-low-from-clause-value : goal.returns-else-low-from-clause-value
returns-else-low-from-clause-value c =
    let a = c.args in
    let es = entries_in a.b.now in
    let l = c.loop-i in
    let f = lt-leb _ _ c.if-low-from.false in
    f ∙ sym (rising-end (drop l.i es) a.count l.i l.low a.next.0 (omega arith) ∙ and_no _ _ (rw c.from.ensures at f)) ∙ l.invariant.handles
