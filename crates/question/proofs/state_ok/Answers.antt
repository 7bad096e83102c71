use mathlib.Core.Path.{sym, ◌∙◌}
use mathlib.Core.List.{List}
use Prim.Native.Nat.{ℕ}
use native.Mathlib.Omega.{arith}
use Rattle.laws.specs.Logic.{and_no, and_yes}
use Rattle.laws.specs.All.{All}
use Rattle.codec.proofs.Back.{Bytes}
use Rattle.codec.proofs.Fit.{all_dec, length-dec_all}
use Rattle.block.specs.Table.{dec_id}
use Rattle.block.specs.Thread.{dec_thread}
use Rattle.block.specs.Block.{dec_block}
use Rattle.block.proofs.Fits.{block-fits}
use Rattle.tally.specs.Lists.{Listed}
use Rattle.question.specs.Same.{state-same}
use Rattle.types.specs.Thread.{wait_list}
use Rattle.question.proofs.state_ok.Goals as goal

-- every list has all its places

all_listed : (b : List ℕ) → Bytes b → All Listed (dec_block b).threads
unfolding dec_block dec_thread
all_listed b u = all_dec Listed dec_thread 160 32 b 128 (λ s w. listed s) u
  where
    listed : (s : List ℕ) → Listed (dec_thread s)
    listed s = length-dec_all dec_id 4 wait_list s 80

pub returns-then-tables_ok : goal.returns-then-tables_ok
unfolding dec_block
returns-then-tables_ok c =
    let b = c.args.b.now in
    let u : Bytes b = λ j. omega (arith, c.fits-b j) in
    let t = c.tables_ok.ensures in
    let y = c.if-tables_ok.true in
    rw (t.c_after y) at c.store_ok.ensures ∙ sym (sym (state-same (dec_block b) (block-fits b u) (all_listed b u)) ∙ and_yes _ _ (sym t.value ∙ y))

pub returns-else-tables_ok : goal.returns-else-tables_ok
returns-else-tables_ok c =
    let b = c.args.b.now in
    let u : Bytes b = λ j. omega (arith, c.fits-b j) in
    let y = c.if-tables_ok.false in
    y ∙ sym (sym (state-same (dec_block b) (block-fits b u) (all_listed b u)) ∙ and_no _ _ (sym c.tables_ok.ensures.value ∙ y))
