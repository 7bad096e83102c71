use mathlib.Core.Path.{◌≡◌, sym, ap, ◌∙◌}
use native.Mathlib.Omega.{arith}
use Rattle.laws.specs.Numbers.{all_to-end}
use Rattle.block.specs.Thread.{dec_thread}
use Rattle.block.specs.Tables.{threads_in, row_at}
use Rattle.sound.specs.View.{no_thread, thread_at}
use Rattle.sound.specs.Threads.{place?}
use Rattle.question.specs.Linear.{places32?}
use Rattle.question.specs.Turns.{below-more, below-fails}
use Rattle.question.proofs.threads.all_places_ok.Goals as goal

pub loop-i-init : goal.loop-i-init
loop-i-init c = all_to-end _ 0 (omega arith)

pub returns-then-not-place_ok : goal.returns-then-not-place_ok
unfolding places32?
returns-then-not-place_ok c =
    let a = c.args in
    let i = c.loop-i.i in
    let t = c.thread_at.ensures ∙ row_at dec_thread 160 no_thread 32 a.b.now 128 i (omega arith) in
    sym (below-fails (λ k. place? a.n a.c k (thread_at (threads_in a.b.now) k)) i 32 (omega arith) (ap (place? a.n a.c i) (sym t) ∙ sym c.place_ok.ensures ∙ c.if-not-place_ok.true))

pub loop-i-preserved : goal.loop-i-preserved
loop-i-preserved c =
    let a = c.args in
    let i = c.loop-i.i in
    let t = c.thread_at.ensures ∙ row_at dec_thread 160 no_thread 32 a.b.now 128 i (omega arith) in
    below-more (λ k. place? a.n a.c k (thread_at (threads_in a.b.now) k)) i c.loop-i.invariant (ap (place? a.n a.c i) (sym t) ∙ sym c.place_ok.ensures ∙ c.if-not-place_ok.false)

pub returns : goal.returns
unfolding places32?
returns c = let e : c.loop-i.i ≡ 32 = omega arith in sym (rw e at c.loop-i.invariant)
