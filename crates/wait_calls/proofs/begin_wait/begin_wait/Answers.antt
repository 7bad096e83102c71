use Rattle.std.specs.Prelude.{Option}
use Rattle.units.specs.declared.Ticks.{Ticks}
use mathlib.Core.Path.{ap, subst, ◌∙◌}
use mathlib.Core.List.{List}
use Prim.Native.Nat.{ℕ, ◌<◌}
use native.Mathlib.Omega.{arith}
use lib.ListN.{length}
use Rattle.types.specs.declared.thread.Thread.{Thread}
use Rattle.block.specs.Block.{enc_block, dec_block}
use Rattle.thread.specs.Thread.{with_result}
use Rattle.pass.specs.Waits.{wake_tick, waiting}
use Rattle.sound.specs.View.{ids, first_ids}
use Rattle.object.specs.Store.{add_refs}
use Rattle.svc.specs.Call.{with_objects}
use Rattle.rows.specs.Holds.{Holds, put-thread}
use Rattle.rows.specs.Sizes.{size-threads}
use Rattle.rows.specs.Current.{current-place}
use Rattle.wait_calls.proofs.Begins.{begun-once}
use Rattle.wait_calls.proofs.begin_wait.begin_wait.Goals as goal

pub thread_at-t-requires : goal.thread_at-t-requires
thread_at-t-requires c = record { t_bound = current-place c.args.block.now c.requires.block_value c.args.w.thread c.requires.current_thread_value }

pub returns : goal.returns
returns c = let a = c.args in
    let b = a.block.now in
    let c0 : a.w.thread < length (dec_block b).threads = omega (arith, size-threads b, current-place b c.requires.block_value a.w.thread c.requires.current_thread_value) in
    let w = c.waiting-waiting.ensures ∙ (λ i. waiting (c.thread_at-t.ensures i) a.w.list a.w.count a.w.all ((c.wake_tick-wake.ensures ∙ ap (λ (z : Option Ticks). wake_tick z a.tick.0) c.wait_time.ensures) i)) in
    let t = c.with_call-noted.ensures ∙ ap (λ (u : Thread). with_result u u.wait_result a.call) w in
    let os = ap ids c.first.ensures.value ∙ first_ids a.w.list a.w.count in
    let h = subst (λ (z : List ℕ). Holds c.hold_list.new.block (with_objects (dec_block b) (add_refs (dec_block b).objects z))) os c.hold_list.ensures in
    let g = put-thread h a.w.thread c.with_call-noted.result in
    c.put_thread.ensures ∙ g.same ∙ ap enc_block (begun-once (dec_block b) a.w.thread a.w.list a.w.count a.w.all a.w.timeout.0 a.tick.0 a.call c.requires.current_thread_value c0 c.with_call-noted.result t)
