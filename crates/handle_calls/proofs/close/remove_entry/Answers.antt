use mathlib.Core.Path.{◌≡◌}
use native.Mathlib.Omega.{arith}
use Rattle.block.specs.Block.{dec_block}
use Rattle.object.specs.Handles.{no_entry}
use Rattle.handle_calls.proofs.Removed.{remove-end}
use borrow.Author.Rules.{rules}
use Rattle.handle_calls.proofs.close.remove_entry.Goals as goal

pub returns : goal.returns
returns c = let l = c.loop-j in
    let none : c.default.result ≡ no_entry = search rules in
    rw (c.put_entry-2.ensures, none)
    (remove-end (dec_block c.args.block.now) c.args.i l.j l.block l.invariant.1.1
    (omega (arith, c.loop-j-test, l.invariant.0)))
