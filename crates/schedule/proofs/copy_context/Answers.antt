use mathlib.Core.Path.{◌≡◌, sym, ap, ◌∙◌}
use mathlib.Core.List.{List}
use Prim.Native.Nat.{ℕ, ◌+◌, ◌-◌}
use native.Mathlib.Omega.{arith}
use lib.ListN.{length, take, drop}
use lib.Seq.{length-take-le}
use Rattle.codec.specs.Bytes.{over}
use Rattle.schedule.proofs.Halves.{halves}
use Rattle.schedule.proofs.copy_context.Goals as goal

pub slice_bounds-copy-end : goal.slice_bounds-copy-end
slice_bounds-copy-end c = sym (length-take-le 104 c.args.context.now (omega (arith, c.requires.context_len)))

pub copy-requires : goal.copy-requires
copy-requires c =
    let e : length (take 104 c.args.context.now) ≡ 104 =
    length-take-le 104 c.args.context.now (omega (arith, c.requires.context_len))
    in
    omega (arith, e, c.requires.room)

pub returns : goal.returns
returns c =
    let a = c.args in
    let x = a.context.now in
    let n = c.requires.context_len in
    c.copy-2.ensures
    ∙ ap (λ (b : List ℕ). over b (a.at + 104) (take (length x - 104) (drop 104 x))) c.copy.ensures
    ∙ halves a.b.now x a.at 104 (omega (arith, n)) (omega (arith, n, c.requires.room))
