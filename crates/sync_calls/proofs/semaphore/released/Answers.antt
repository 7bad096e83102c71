use Rattle.std.proofs.Common.{rules, arith, ◌≡◌, true, ◌+◌, ◌%◌}
use Rattle.std.proofs.lemmas.Int.{to_z-of_z}
use Rattle.std.specs.Prelude.{◌+ℤ◌}
use Rattle.std.specs.Int.{w32, cast_signed, cast_unsigned, int_min}
use Rattle.std.specs.Int.RustNames.{FitsSigned}
use Rattle.svc.specs.Sync.{sum_over}
use Rattle.sync_calls.proofs.Words.{sum_over_lem, sum-fits, sum-is, min-is}
use Rattle.sync_calls.proofs.semaphore.released.Goals as goal

pub returns-in_err-sum : goal.returns-in_err-sum
returns-in_err-sum c =
    let f : sum_over c.args.s.count c.args.n ≡ true = sum_over_lem _ _ (search rules) (search rules) (grind (arith, to_z-of_z, c.in_err-sum.ensures)) in
    rw (f, c.from_residual.ensures)

pub returns : goal.returns
returns c =
    let a = c.args.s.count in
    let f : FitsSigned w32 (cast_signed w32 a +ℤ cast_signed w32 c.args.n) = grind (arith, to_z-of_z, c.in_ok-sum.ensures) in
    let e : c.in_ok-sum.sum ≡ cast_signed w32 a +ℤ cast_signed w32 c.args.n = grind (arith, to_z-of_z, c.in_ok-sum.ensures) in
    let g : c.min.result ≡ int_min c.in_ok-sum.sum (cast_signed w32 c.args.s.max_count) = grind (arith, to_z-of_z, c.min.ensures.value) in
    let r : c.cast_unsigned-count.result ≡ cast_unsigned w32 c.min.result = grind (arith, to_z-of_z) in
    rw (sum-fits a c.args.n (search rules) (search rules) f, r, g, e, ← sum-is a c.args.n (search rules) (search rules) f, min-is ((a + c.args.n) % 4294967296) c.args.s.max_count (omega arith) (search rules))
