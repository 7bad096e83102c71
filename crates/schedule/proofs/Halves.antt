-- A list written over a part of another in two parts. Assumes nothing.
use mathlib.Core.Path.{◌≡◌, ap, ◌∙◌}
use mathlib.Core.List.{List}
use Prim.Native.Nat.{ℕ, ◌+◌, ◌-◌, ◌≤◌}
use native.Mathlib.Omega.{arith}
use lib.ListN.{length, take, drop, length-drop, take-append-drop}
use lib.Seq.{length-take-le, take_all}
use Rattle.codec.specs.Bytes.{over}
use Rattle.codec.proofs.Laws.{over-next}

pub halves : (b xs : List ℕ) (at m : ℕ) → m ≤ length xs → at + length xs ≤ length b
    → over (over b at (take m xs)) (at + m) (take (length xs - m) (drop m xs)) ≡ over b at xs
halves b xs at m e h =
    let n = length xs - m in
    let d : length (drop m xs) ≡ n = length-drop m xs in
    let l : length (take m xs) ≡ m = length-take-le m xs e in
    let t : take n (drop m xs) ≡ drop m xs = take_all n (drop m xs) (omega arith) in
    rw t (over-next b at m (take m xs) (drop m xs) l (omega arith) ∙ ap (over b at) (take-append-drop m xs))
