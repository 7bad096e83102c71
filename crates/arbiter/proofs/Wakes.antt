-- A signal at an address by the code's cases: one step of the walk. Assumes nothing.
use mathlib.Core.Path.{◌≡◌, refl, ap}
use mathlib.Core.Logic.{◌≢◌, ◌⊎◌}
use mathlib.Core.List.{List, [], ◌∷◌}
use Prim.Native.Nat.{ℕ, suc, ◌-◌}
use Rattle.std.proofs.lemmas.Grind.{common_steps}
use Rattle.laws.specs.Logic.{◌and◌, and_yes, and_no, ◌or◌, or_yes, or_no, pick_yes, pick_no}
use Rattle.laws.specs.Walk.{walk, walk-nil}
use Rattle.types.specs.declared.thread.Thread as th
use Rattle.types.specs.declared.object.Waiter.{Waiter}
use Rattle.types.specs.declared.object.ObjectStore.{ObjectStore}
use Rattle.types.specs.declared.kernel.Kernel.{Kernel}
use Rattle.types.specs.Object.{head_of}
use Rattle.sound.specs.View.{object_at, waiter_nexts}
use Rattle.sound.specs.Records.{chain_of}
use Rattle.object.specs.Waiters.{waiter_at, link, relinked}
use Rattle.object.proofs.Laws.{walk-over, walk_record, slot_put-same, head-same}
use Rattle.kernel.specs.NextEvent.{contains}
use Rattle.thread.specs.Threads.{with_threads}
use Rattle.svc.specs.Arbiter.{to_wake, unlink_woken, wake_all, signal_address, woken_at}
use Rattle.arbiter.specs.Marks.{parked_marks, stays_marked, marks_by, count_marked, marks_after, unlink_marked}
use Rattle.arbiter.specs.Marks.{wake_marked, tells-start, tells-after, unlink-is, wake-is}

-- ---- the walk
module _ (ws : List Waiter) (a value : ℕ) (p : List ℕ) (n h left free : ℕ) where
  abbrev xs : List ℕ
  xs = walk (waiter_nexts ws) left h

  module _ (e : (h ≡ 0) ⊎ ((h ≢ 0) × (left ≡ 0))) where
    pub walked-links : record { waiters = ws; free = free; head = 0 } ≡ unlink_marked ws a value p n free xs
    unfolding unlink_marked
    walked-links = rw (walk-over (waiter_nexts ws) left h e)

    pub walked-marks : p ≡ marks_after ws a value p n xs
    unfolding marks_after
    walked-marks = rw (walk-over (waiter_nexts ws) left h e)

  module _ (c : left ≢ 0) (d : h ≢ 0) where
    abbrev rest : List ℕ
    rest = walk (waiter_nexts ws) (left - 1) (waiter_at ws h).next

    pub unlinked : link (stays_marked ws a value p n h) h (unlink_marked ws a value (marks_by ws a value p n h) (count_marked ws a value p n h) free rest) ≡ unlink_marked ws a value p n free xs
    unfolding unlink_marked
    unlinked = rw (walk_record ws left h c d)

    pub marks : marks_after ws a value (marks_by ws a value p n h) (count_marked ws a value p n h) rest ≡ marks_after ws a value p n xs
    unfolding marks_after
    marks = rw (walk_record ws left h c d)

-- ---- `signal_address`
pub signal-is : (k : Kernel) (o a value : ℕ)
    → (let s : ObjectStore = k.objects in
    with_threads k (wake_marked (marks_after s.waiters a value (parked_marks k.threads a) 0 (chain_of s o)) 0 k.threads) (relinked s o (unlink_marked s.waiters a value (parked_marks k.threads a) 0 s.free_waiter (chain_of s o)))
    ≡ signal_address k o a value)
signal-is k o a value =
    let s : ObjectStore = k.objects in
    let ts : List th.Thread = k.threads in
    let v = tells-after ts s.waiters a value (parked_marks ts a) [] 0 (chain_of s o) (tells-start ts a) refl in
    rw (
      unlink-is ts s.waiters a value (parked_marks ts a) [] 0 s.free_waiter (chain_of s o) (tells-start ts a) refl,
      wake-is ts a (marks_after s.waiters a value (parked_marks ts a) 0 (chain_of s o)) (woken_at ts s o a value) 0 ts v,
    )

-- without records it changes nothing
wake-none : (i : ℕ) (ts : List th.Thread) → wake_all [] i ts ≡ ts
unfolding wake_all contains
wake-none i [] = refl
wake-none i (t ∷ ts) = ap (λ l. t ∷ l) (wake-none (suc i) ts)

pub signal-none : (k : Kernel) (o a value : ℕ) → head_of (object_at k.objects o) ≡ 0 → k ≡ signal_address k o a value
unfolding to_wake unlink_woken
signal-none k o a value e =
    rw (
      walk-nil (waiter_nexts k.objects.waiters) 64 (head_of (object_at k.objects o)) e,
      wake-none 0 k.threads,
      head-same (object_at k.objects o) e,
      slot_put-same k.objects.slots o,
    )

pub ruleset decides = (common_steps, and_yes, and_no, or_yes, or_no, pick_yes, pick_no)

pub ruleset walks = (common_steps, walked-links, walked-marks, unlinked, marks)
