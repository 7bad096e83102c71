use mathlib.Core.Path.{◌≡◌, sym, ◌∙◌}
use Prim.Native.Nat.{◌<◌}
use native.Mathlib.Omega.{arith}
use Rattle.arbiter_calls.proofs.Woken.{woken-none, woken-next, woken-more, woken-all}
use Rattle.arbiter_calls.proofs.wake.wake_threads.Goals as goal
use Rattle.arbiter_calls.proofs.wake.wake_threads.Goals.{then-is_woken, else-is_woken}

pub loop-i-init : goal.loop-i-init
loop-i-init c = woken-none c.args.p c.args.block.now c.told-block c.requires.block_value

pub loop-i-preserved : goal.loop-i-preserved
loop-i-preserved c = let l = c.loop-i in
    let a = c.args in
    let h : l.i < 32 = omega arith in
    let g = l.invariant in
    elim c.if-is_woken.branch [
      | then-is_woken w ↦
          rw (w.block-is, w.put_thread.ensures)
          (woken-more a.p a.block.now l.i l.block h g (sym c.is_woken.ensures ∙ w.if-is_woken.true)
          w.thread_at-t.result w.woken_up.result
          w.thread_at-t.ensures w.woken_up.ensures)
      | else-is_woken w ↦
          rw w.block-is (woken-next a.p a.block.now l.i l.block h g (sym c.is_woken.ensures ∙ w.if-is_woken.false))
    ]

pub returns : goal.returns
returns c = let l = c.loop-i in
    let a = c.args in
    let e : l.i ≡ 32 = omega arith in
    woken-all a.p a.block.now l.block (rw e at l.invariant)
