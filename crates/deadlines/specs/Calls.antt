-- Every guest call, by its number: whose waits it leaves, whom it wakes, and when the wait of a thread that it parks runs out.
use Rattle.std.specs.Prelude.{◌≡◌, Bool, true, false, ℕ, eqb, get_or}
use Rattle.std.proofs.Math.Path.{refl, subst}
use Rattle.std.proofs.Common.{ap, sym, eqb-true}
use mathlib.Core.List.{List, []}
use Rattle.laws.specs.Logic.{pick, pick_no, ◌and◌, ◌or◌}
use Rattle.types.specs.declared.kernel.Kernel.{Kernel}
use Rattle.types.specs.Sync.{arbitration_from_raw}
use Rattle.soundness.specs.Slots.{pick_if}
use Rattle.soundness.specs.Whole.{Parts}
use Rattle.svc.specs.declared.Registers.{Registers}
use Rattle.svc.specs.declared.Served.{Served}
use Rattle.svc.specs.Call.{silent}
use Rattle.svc.specs.Threads.{create_thread, exit_thread, sleep_thread, set_thread_priority}
use Rattle.svc.specs.Sync.{create_mutex, release_mutex, create_semaphore, release_semaphore, create_event, signal_event, clear_event}
use Rattle.svc.specs.Timers.{create_timer, set_timer, cancel_timer, clear_timer}
use Rattle.svc.specs.Arbiter.{create_address_arbiter, arbitrate_address}
use Rattle.svc.specs.Waits.{wait_synchronization1, wait_synchronization_n}
use Rattle.svc.specs.Handles.{close_handle, duplicate_handle}
use Rattle.svc.specs.Dispatch.{call}
use Rattle.demand.specs.Words.{timed_wait?, wait_nanos}
use Rattle.deadlines.specs.Effect.{Effect, Calm, calm-effect, same-calm}
use Rattle.deadlines.specs.Same.{Leaves, create_mutex-same, release_mutex-same, create_semaphore-same, release_semaphore-same, create_event-same, signal_event-same, clear_event-same, create_timer-same, set_timer-same, cancel_timer-same, clear_timer-same, create_arbiter_same, close_handle-same, duplicate_handle-same}
use Rattle.deadlines.specs.Threads.{create_thread-calm, exit_thread-calm, sleep_thread-effect, set_priority-calm}
use Rattle.deadlines.specs.Waits.{wait1_effect, wait_n-effect}
use Rattle.deadlines.specs.Arbiter.{woken_if, timed_kind, arbitrate_effect}

-- ---- by number
-- the threads that a call wakes
unfoldable pub wakes : ℕ → Kernel → Registers → List ℕ
wakes number k r = pick (eqb number 0x22) (woken_if (arbitration_from_raw r.r2) k r) []

-- the calls that may park the current thread
unfoldable pub parks? : ℕ → Bool
parks? number = eqb number 0x0A or (eqb number 0x22 or (eqb number 0x24 or eqb number 0x25))

-- what the call of that number does
abbrev pub CallEffect : Kernel → Registers → ℕ → ℕ → Served → Type 0
CallEffect k r tick number x = Effect k (wakes number k r) (parks? number) (timed_wait? number r) (wait_nanos number r) tick x.kernel

-- kinds 3 and 4 have a time
kind_timed : (n : ℕ) → eqb n 3 or eqb n 4 ≡ true → timed_kind (arbitration_from_raw n) ≡ true
unfolding ◌or◌
kind_timed n e = go (eqb n 3) refl e
  where
    go : (q : Bool) → eqb n 3 ≡ q → q or eqb n 4 ≡ true → timed_kind (arbitration_from_raw n) ≡ true
    go true f g = ap (λ (m : ℕ). timed_kind (arbitration_from_raw m)) (eqb-true n 3 f)
    go false f g = ap (λ (m : ℕ). timed_kind (arbitration_from_raw m)) (eqb-true n 4 g)

module _ (k : Kernel) (r : Registers) (tick : ℕ) where
  -- the four that may park
  sleep-at : CallEffect k r tick 0x0A (sleep_thread k r tick)
  unfolding wakes parks? timed_wait? wait_nanos ◌or◌
  sleep-at = sleep_thread-effect k r tick

  wait1_at : CallEffect k r tick 0x24 (wait_synchronization1 k r tick)
  unfolding wakes parks? timed_wait? wait_nanos ◌or◌
  wait1_at = wait1_effect k r tick

  wait_n-at : (words : List ℕ) → CallEffect k r tick 0x25 (wait_synchronization_n k r words tick)
  unfolding wakes parks? timed_wait? wait_nanos ◌or◌
  wait_n-at words = wait_n-effect k r words tick

  arbitrate_at : (word : ℕ) → CallEffect k r tick 0x22 (arbitrate_address k r word tick)
  unfolding wakes parks? timed_wait? wait_nanos ◌or◌ ◌and◌
  arbitrate_at word =
      let d = arbitrate_effect k r word tick in
      record { waits = d.waits; wakes = d.wakes; parked = d.parked; wake = λ c e x b t s. d.wake c e x b (kind_timed r.r2 t) s; relief = d.relief }

  -- the others
  calm-at : (number : ℕ) → eqb number 0x22 ≡ false → (x : Served) → Calm k x.kernel → CallEffect k r tick number x
  unfolding wakes
  calm-at number e x q =
      subst (λ (l : List ℕ). Effect k l (parks? number) (timed_wait? number r) (wait_nanos number r) tick x.kernel) (sym (pick_no (eqb number 0x22) (woken_if (arbitration_from_raw r.r2) k r) [] e))
      (calm-effect k x.kernel q (parks? number) (timed_wait? number r) (wait_nanos number r) tick)

  module _ (number : ℕ) where
    at : (m : ℕ) (x : Served) → CallEffect k r tick m x → eqb number m ≡ true → CallEffect k r tick number x
    at m x d e = subst (λ (j : ℕ). CallEffect k r tick j x) (sym (eqb-true number m e)) d

    calm : (m : ℕ) → eqb m 0x22 ≡ false → (x : Served) → Calm k x.kernel → eqb number m ≡ true → CallEffect k r tick number x
    calm m n x q = at m x (calm-at m n x q)

    same : (m : ℕ) → eqb m 0x22 ≡ false → (x : Served) → Leaves k x → eqb number m ≡ true → CallEffect k r tick number x
    same m n x s = calm m n x (same-calm k x.kernel s)

    pub call-effect : (words : List ℕ) → Parts k → CallEffect k r tick number (call number k r words tick)
    unfolding call
    call-effect words p =
        let P : Served → Type 0 = CallEffect k r tick number in
        pick_if P (eqb number 0x08) _ _ (calm 0x08 refl (create_thread k r) (create_thread-calm k r p)) (λ e08.
        pick_if P (eqb number 0x09) _ _ (calm 0x09 refl (exit_thread k) (exit_thread-calm k)) (λ e09.
        pick_if P (eqb number 0x0A) _ _ (at 0x0A (sleep_thread k r tick) sleep-at) (λ e0_a.
        pick_if P (eqb number 0x0C) _ _ (calm 0x0C refl (set_thread_priority k r) (set_priority-calm k r)) (λ e0_c.
        pick_if P (eqb number 0x13) _ _ (same 0x13 refl (create_mutex k r) (create_mutex-same k r)) (λ e13.
        pick_if P (eqb number 0x14) _ _ (same 0x14 refl (release_mutex k r) (release_mutex-same k r)) (λ e14.
        pick_if P (eqb number 0x15) _ _ (same 0x15 refl (create_semaphore k r) (create_semaphore-same k r)) (λ e15.
        pick_if P (eqb number 0x16) _ _ (same 0x16 refl (release_semaphore k r) (release_semaphore-same k r)) (λ e16.
        pick_if P (eqb number 0x17) _ _ (same 0x17 refl (create_event k r) (create_event-same k r)) (λ e17.
        pick_if P (eqb number 0x18) _ _ (same 0x18 refl (signal_event k r) (signal_event-same k r)) (λ e18.
        pick_if P (eqb number 0x19) _ _ (same 0x19 refl (clear_event k r) (clear_event-same k r)) (λ e19.
        pick_if P (eqb number 0x1A) _ _ (same 0x1A refl (create_timer k r) (create_timer-same k r)) (λ e1_a.
        pick_if P (eqb number 0x1B) _ _ (same 0x1B refl (set_timer k r tick) (set_timer-same k r tick)) (λ e1_b.
        pick_if P (eqb number 0x1C) _ _ (same 0x1C refl (cancel_timer k r tick) (cancel_timer-same k r tick)) (λ e1_c.
        pick_if P (eqb number 0x1D) _ _ (same 0x1D refl (clear_timer k r tick) (clear_timer-same k r tick)) (λ e1_d.
        pick_if P (eqb number 0x21) _ _ (same 0x21 refl (create_address_arbiter k) (create_arbiter_same k)) (λ e21.
        pick_if P (eqb number 0x22) _ _ (at 0x22 (arbitrate_address k r (get_or words 0 0) tick) (arbitrate_at (get_or words 0 0))) (λ e22.
        pick_if P (eqb number 0x23) _ _ (same 0x23 refl (close_handle k r) (close_handle-same k r)) (λ e23.
        pick_if P (eqb number 0x24) _ _ (at 0x24 (wait_synchronization1 k r tick) wait1_at) (λ e24.
        pick_if P (eqb number 0x25) _ _ (at 0x25 (wait_synchronization_n k r words tick) (wait_n-at words)) (λ e25.
        pick_if P (eqb number 0x27) _ _ (same 0x27 refl (duplicate_handle k r) (duplicate_handle-same k r)) (λ e27.
        calm-at number e22 (silent k) (same-calm k k (record { threads = refl; relief = refl })))))))))))))))))))))))
