use mathlib.Core.Path.{sym, ◌∙◌}
use Prim.Native.Nat.{◌+◌, ◌*◌, ◌≤◌}
use lib.ListN.{length}
use native.Mathlib.Omega.{arith}
use Rattle.codec.specs.Layout.{dec_all}
use Rattle.guest.specs.Word.{few, room}
use borrow.Author.Rules.{rules}
use Rattle.guest.proofs.window.words_in.Goals as goal

pub returns-then-n-eq0 : goal.returns-then-n-eq0
unfolding dec_all
returns-then-n-eq0 c = rw (sym c.requires.n_value ∙ c.if-n-eq0.true, c.if-n-eq0.true)

pub overflow_sub-r : goal.overflow_sub-r
overflow_sub-r c =
    let a = c.args in
    let p = c.requires in
    let h : a.base ≤ a.r.r1 = (room a.base (length a.window.now) a.number a.r p.r_value_2 (λ z. c.if-n-eq0.false (p.n_value ∙ z))).0 in
    search rules

pub words_at-requires : goal.words_at-requires
words_at-requires c =
    let a = c.args in
    let p = c.requires in
    let h = room a.base (length a.window.now) a.number a.r p.r_value_2 (λ z. c.if-n-eq0.false (p.n_value ∙ z)) in
    let g : a.r.r1 + 4 * a.n ≤ a.base + length a.window.now = rw p.n_value h.1 in record { n_le_wait_list = rw p.n_value (few a.number a.r p.r_value); n_in_bounds = omega (arith, h.0, g) }
