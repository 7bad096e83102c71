use native.Mathlib.Omega.{arith}
use borrow.Author.Tests.{leb-true}
use Rattle.laws.specs.Logic.{and-true}
use Prim.Native.Nat.{◌+◌, ◌≤◌}
use lib.ListN.{length}
use Rattle.guest.proofs.window.put_word.Goals as goal

pub overflow_sub-r : goal.overflow_sub-r
overflow_sub-r c = leb-true _ _ (and-true _ _ (rw c.in-Some.is at c.requires)).0

pub put32-requires : goal.put32-requires
put32-requires c =
    let a = c.args in
    let p = and-true _ _ (rw c.in-Some.is at c.requires) in
    let g : a.base ≤ a.r.r1 = leb-true _ _ p.0 in
    let h : a.r.r1 + 4 ≤ a.base + length a.window.now = leb-true _ _ p.1 in
    omega (arith, g, h)
