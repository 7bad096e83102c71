-- What is found where only threads change, and where a thread ends. Assumes nothing.
use Rattle.std.proofs.lemmas.Grind.{common_steps}
use Rattle.laws.specs.Logic.{pick_yes, pick_no}
use Rattle.codec.specs.Layout.{dec_all}
use Rattle.block.specs.Thread.{dec_thread}
use Rattle.pass.specs.Pick.{others_ready, others_from}
use Rattle.std.specs.Prelude.{Option, Some, None}
use mathlib.Core.Path.{◌≡◌, refl, ap, ◌∙◌}
use mathlib.Core.Logic.{inl, inr}
use borrow.Author.Tests.{le-ltb}
use mathlib.Core.Bool.{false}
use mathlib.Core.List.{List}
use Prim.Native.Nat.{ℕ, ◌<◌}
use native.Mathlib.Omega.{arith}
use lib.ListN.{set}
use Rattle.laws.specs.Logic.{◌or◌, lt-cases}
use Rattle.units.specs.declared.Ticks.{Ticks}
use Rattle.types.specs.declared.thread.Thread.{Thread}
use Rattle.block.specs.Block.{dec_block}
use Rattle.sound.specs.View.{thread_at}
use Rattle.thread.specs.Threads.{with_threads, set_priority}
use Rattle.types.specs.declared.kernel.Kernel.{Kernel}
use Rattle.pass.specs.Timers.{saturating_add}
use Rattle.pass.specs.Waits.{sleeping, sleep_as, sleep_current}
use Rattle.svc.specs.declared.Registers.{Registers}
use Rattle.svc.specs.Call.{pair}
use Rattle.svc.specs.Threads.{exit_as, set_priority_as, sleep_ticks, runs_since, sleep_for, sleep_thread}
use Rattle.lent.specs.Operations.{finding, out_of_handles?}
use Rattle.rows.specs.Rows.{thread_put}
use Rattle.outcome.specs.Outcome.{accepted, silent}
use Rattle.outcome.specs.Findings.{found_of, same-finding, parts-finding}
use Rattle.ending.proofs.Ended.{end-finding}

pub threads-finding : (b : List ℕ) (ts : List Thread) → finding (with_threads (dec_block b) ts (dec_block b).objects) ≡ found_of false (out_of_handles? (dec_block b))
unfolding dec_block ◌or◌
threads-finding b ts = parts-finding b ts (dec_block b).objects

pub priority-finding : (b : List ℕ) (named : Option ℕ) (p : ℕ) → finding (set_priority_as named (dec_block b) p).kernel ≡ found_of false (out_of_handles? (dec_block b))
unfolding set_priority
priority-finding b None p = same-finding b
priority-finding b (Some t) p = threads-finding b _

-- a thread written where it lies is the same for each number that a thread has
pub put-as : (b : List ℕ) (t : ℕ) (x y : Thread) → (t < 32 → x ≡ y) → thread_put b t x ≡ thread_put b t y
unfolding thread_put
put-as b t x y e = elim (lt-cases t 32) [ inl h ↦ rw (e h) refl | inr h ↦ rw (le-ltb t 32 h) refl ]

-- ---- with no current thread a sleep changes nothing
pub sleep-none : (k : Kernel) (time : Option Ticks) (tick : ℕ) → k.current_thread ≡ None → sleep_for time k tick ≡ k
unfolding sleep_current
sleep-none k None tick e = ap (λ (c : Option ℕ). runs_since c k tick) e
sleep-none k (Some d) tick e = ap (λ (c : Option ℕ). sleep_as c k d.0 tick) e

pub sleep-some : (k : Kernel) (c : ℕ) (time : Option Ticks) (d : Ticks) (tick : ℕ) → k.current_thread ≡ Some c → time ≡ Some d
    → sleep_for time k tick ≡ with_threads k (set k.threads c (sleeping (thread_at k.threads c) (saturating_add tick d.0))) k.objects
unfolding sleep_current
sleep-some k c time d tick e f = ap (λ (x : Option Ticks). sleep_for x k tick) f ∙ ap (λ (x : Option ℕ). sleep_as x k d.0 tick) e

runs-finding : (b : List ℕ) (c : Option ℕ) (tick : ℕ) → finding (runs_since c (dec_block b) tick) ≡ found_of false (out_of_handles? (dec_block b))
runs-finding b None tick = same-finding b
runs-finding b (Some c) tick = threads-finding b _

sleeps-finding : (b : List ℕ) (c : Option ℕ) (d tick : ℕ) → finding (sleep_as c (dec_block b) d tick) ≡ found_of false (out_of_handles? (dec_block b))
sleeps-finding b None d tick = same-finding b
sleeps-finding b (Some c) d tick = threads-finding b _

for-finding : (b : List ℕ) (time : Option Ticks) (tick : ℕ) → finding (sleep_for time (dec_block b) tick) ≡ found_of false (out_of_handles? (dec_block b))
unfolding sleep_current
for-finding b None tick = runs-finding b (dec_block b).current_thread tick
for-finding b (Some d) tick = sleeps-finding b (dec_block b).current_thread d.0 tick

pub sleep-finding : (b : List ℕ) (r : Registers) (tick : ℕ) → finding (sleep_thread (dec_block b) r tick).kernel ≡ found_of false (out_of_handles? (dec_block b))
unfolding sleep_thread
sleep-finding b r tick = for-finding b (sleep_ticks (dec_block b) (pair r.r0 r.r1) tick) tick

pub exit_finding : (b : List ℕ) (current : Option ℕ) → finding (exit_as current (dec_block b)).kernel ≡ found_of false (out_of_handles? (dec_block b))
exit_finding b None = same-finding b
exit_finding b (Some c) = end-finding b c

-- an exit writes no register
pub exit-silent : (current : Option ℕ) (k : Kernel) → accepted (exit_as current k) ≡ silent
exit-silent None k = refl
exit-silent (Some c) k = refl

-- another thread that is ready, of the threads as they are read
pub others-ask : (b : List ℕ)
    → others_ready (dec_block b) ≡ others_from (dec_block b).current_thread 0 (dec_all dec_thread 160 32 b 128)
unfolding others_ready dec_block
others-ask b = refl

pub ruleset yields = (common_steps, pick_yes, pick_no, others-ask)
