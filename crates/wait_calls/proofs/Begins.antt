-- The record of a thread that begins to wait, written once. Assumes nothing.
use Rattle.std.specs.Prelude.{Option, Some}
use mathlib.Core.Path.{◌≡◌, sym, ap, ◌∙◌}
use mathlib.Core.Bool.{Bool, false}
use mathlib.Core.List.{List}
use Prim.Native.Nat.{ℕ, ◌<◌}
use lib.ListN.{length, take, set}
use lib.Seq.{get_or-set_same, set-set}
use Rattle.laws.specs.Logic.{◌or◌}
use Rattle.units.specs.declared.ObjectId.{ObjectId}
use Rattle.types.specs.declared.thread.Thread.{Thread}
use Rattle.types.specs.declared.thread.WaitSyscall.{WaitSyscall}
use Rattle.types.specs.declared.object.ObjectStore.{ObjectStore}
use Rattle.types.specs.declared.kernel.Kernel.{Kernel}
use Rattle.block.specs.Block.{dec_block}
use Rattle.sound.specs.View.{ids, thread_at, no_thread}
use Rattle.object.specs.Store.{add_refs}
use Rattle.thread.specs.Thread.{with_result}
use Rattle.thread.specs.Threads.{with_threads}
use Rattle.pass.specs.Waits.{wake_tick, waiting, begin_wait_as, begin_wait}
use Rattle.soundness.specs.Fine.{add_refs-full}
use Rattle.passing.specs.Begins.{add_refs-overflow}
use Rattle.svc.specs.Call.{with_objects}
use Rattle.svc.specs.Waits.{wait_time}
use Rattle.lent.specs.Operations.{finding, out_of_handles?}
use Rattle.outcome.specs.Findings.{found_of, parts-finding}
use Rattle.wait_calls.specs.Waits.{wait_on_in}
use Rattle.timer_calls.proofs.Found.{down}

module _ (k : Kernel) (c : ℕ) (l : List ObjectId) (n : ℕ) (all : Bool) (nanos tick : ℕ) (call : Option WaitSyscall) (e : k.current_thread ≡ Some c) where
  abbrev waits : Thread
  waits = waiting (thread_at k.threads c) l n all (wake_tick (wait_time nanos) tick)

  abbrev held : ObjectStore
  held = add_refs k.objects (take n (ids l))

  -- the call noted in a state
  abbrev noted : Kernel → Kernel
  noted b = with_threads b (set b.threads c (with_result (thread_at b.threads c) (thread_at b.threads c).wait_result call)) b.objects

  begun : (wait_on_in k c l n all nanos tick call).kernel ≡ noted (with_threads k (set k.threads c waits) held)
  unfolding begin_wait
  begun = ap (λ (z : Option ℕ). noted (begin_wait_as z k l n all (wait_time nanos) tick)) e

  pub begun-once : c < length k.threads → (t : Thread) → t ≡ with_result waits waits.wait_result call → with_threads k (set k.threads c t) held ≡ (wait_on_in k c l n all nanos tick call).kernel
  begun-once h t q =
      ap (λ (u : Thread). with_threads k (set k.threads c u) held) q
      ∙ sym (begun
      ∙ ap (λ (u : Thread). with_threads k (set (set k.threads c waits) c (with_result u u.wait_result call)) held) (get_or-set_same k.threads c waits no_thread h)
      ∙ ap (λ (z : List Thread). with_threads k z held) (set-set k.threads c waits (with_result waits waits.wait_result call)))

-- what is found is what was before; s is the store then
pub begun-finding : (b : List ℕ) (s : ObjectStore) (c : ℕ) (l : List ObjectId) (n : ℕ) (all : Bool) (nanos tick : ℕ) (call : Option WaitSyscall) → (dec_block b).current_thread ≡ Some c
    → finding (wait_on_in (with_objects (dec_block b) s) c l n all nanos tick call).kernel ≡ found_of s.full (s.overflow or out_of_handles? (dec_block b))
begun-finding b s c l n all nanos tick call e =
    ap finding (begun (with_objects (dec_block b) s) c l n all nanos tick call e)
    ∙ parts-finding b _ (add_refs s (take n (ids l)))
    ∙ (λ i. found_of (add_refs-full (take n (ids l)) s i) (add_refs-overflow (take n (ids l)) s i or out_of_handles? (dec_block b)))

pub begun-none : (b : List ℕ) → out_of_handles? (dec_block b) ≡ false → (c : ℕ) (l : List ObjectId) (n : ℕ) (all : Bool) (nanos tick : ℕ) (call : Option WaitSyscall) → (dec_block b).current_thread ≡ Some c
    → finding (wait_on_in (dec_block b) c l n all nanos tick call).kernel ≡ 0
unfolding ◌or◌
begun-none b h c l n all nanos tick call e = begun-finding b (dec_block b).objects c l n all nanos tick call e ∙ (λ i. found_of ((down b).0 i) ((down b).1 i or h i))
