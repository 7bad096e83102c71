use Prim.Native.Nat.{ℕ, ◌≤◌, ◌+◌, ◌*◌}
use mathlib.Core.Path.{◌≡◌, refl, sym, ◌∙◌}
use mathlib.Core.Bool.{true, false}
use mathlib.Core.List.{List, []}
use lib.ListN.{length, take, drop, replicate, length-replicate, drop_of_length-le}
use native.Mathlib.Omega.{arith}
use Rattle.laws.specs.Logic.{and_no, and_yes, and-end, and-false}
use Rattle.codec.specs.Bytes.{le}
use Rattle.codec.proofs.Back.{Bytes, bytes_part}
use Rattle.codec.proofs.Fit.{bytes_zeros}
use Rattle.codec.proofs.Same.{length_part, same_refl, same_more, same-less, part_le, le_zeros}
use Rattle.codec.proofs.zero_words.Goals as goal
use Rattle.codec.proofs.zero_words.Goals.{then-get32-ne0, else-get32-ne0}

-- The words passed are zero exactly if `alike`; a turn compares one word more.

pub loop-i-init : goal.loop-i-init
loop-i-init c = sym (and_yes true _ refl)

pub loop-i-preserved : goal.loop-i-preserved
loop-i-preserved c =
    let l = c.loop-i in
    let a = c.args in
    let i = l.i * 4 in
    let A = take (a.n * 4) (drop a.at a.s.now) in
    let Z : List ℕ = replicate (a.n * 4) 0 in
    let u : Bytes A = bytes_part a.s.now a.at (a.n * 4) (λ j. omega (arith, c.type_inv.s j)) in
    let v : Bytes Z = bytes_zeros (a.n * 4) in
    let h : i + 4 ≤ length A = rw (length_part a.s.now a.at (a.n * 4) c.requires) (omega arith) in
    let m : i + 4 ≤ length Z = rw length-replicate (omega arith) in
    let e : i + 4 ≡ (l.i + 1) * 4 = omega arith in
    let p : c.get32.result ≡ le 4 A i = c.get32.ensures ∙ sym (part_le a.s.now a.at (a.n * 4) i 4 (omega arith)) in
    let q = le_zeros 4 (a.n * 4) i in
    elim c.if-get32-ne0.branch [
      | then-get32-ne0 w ↦ l.invariant ∙ rw (same-less A Z i 4 h m u v (λ d. w.if-get32-ne0.true (p ∙ d ∙ q)), w.alike-is) (and-false l.alike ∙ sym (and_no false _ refl))
      | else-get32-ne0 w ↦ l.invariant ∙ rw (w.alike-is, ← e, same_more A Z i 4 h m u v (sym p ∙ w.if-get32-ne0.false ∙ sym q))
    ]

pub returns : goal.returns
returns c =
    let l = c.loop-i in
    let a = c.args in
    let A = take (a.n * 4) (drop a.at a.s.now) in
    let Z : List ℕ = replicate (a.n * 4) 0 in
    let f : length A ≤ l.i * 4 = rw (length_part a.s.now a.at (a.n * 4) c.requires) (omega arith) in
    let g : length Z ≤ l.i * 4 = rw length-replicate (omega arith) in
    sym (l.invariant ∙ rw (drop_of_length-le A f, drop_of_length-le Z g, same_refl []) (and-end l.alike))
