-- Every guest call, by its number, keeps a state sound, and its answer is an accepted one.
use Rattle.std.specs.Prelude.{◌≡◌, refl, true, List, ℕ, ◌≤◌, ◌<◌, eqb, length, get_or}
use Rattle.std.proofs.Common.{inl}
use Rattle.types.specs.declared.kernel.Kernel.{Kernel}
use Rattle.types.specs.Thread.{wait_list}
use Rattle.sound.specs.Sound.{Sound}
use Rattle.soundness.specs.Slots.{pick-both, pick_if}
use Rattle.svc.specs.declared.Registers.{Registers}
use Rattle.svc.specs.declared.Served.{Served}
use Rattle.svc.specs.Dispatch.{runs?, call}
use Rattle.calling.specs.Call.{RegistersFit, Clear, Accepted}
use Rattle.calling.specs.Threads.{create_thread-sound, create_thread-answers, exit_thread-sound, exit_thread-answers, sleep_thread-sound, sleep_thread-answers, set_thread_priority-sound, set_thread_priority-answers}
use Rattle.calling.specs.Sync.{create_mutex-sound, create_mutex-answers, release_mutex-sound, release_mutex-answers, create_semaphore-sound, create_semaphore-answers, release_semaphore-sound, release_semaphore-answers, create_event-sound, create_event-answers, signal_event-sound, signal_event-answers, clear_event-sound, clear_event-answers}
use Rattle.calling.specs.Timers.{create_timer-sound, create_timer-answers, set_timer-sound, set_timer-answers, cancel_timer-sound, cancel_timer-answers, clear_timer-sound, clear_timer-answers}
use Rattle.calling.specs.Arbiter.{create_address_arbiter-sound, create_address_arbiter-answers}
use Rattle.calling.specs.Handles.{close_handle-sound, close_handle-answers, duplicate_handle-sound, duplicate_handle-answers}
use Rattle.parking.specs.Arbitrates.{arbitrate_address-sound, arbitrate_address-answers}
use Rattle.parking.specs.Waits.{wait_synchronization1-sound, wait_synchronization1-answers, wait_synchronization_n-sound, wait_synchronization_n-answers}

-- 0x25 is given at most 12 handles, by question 5
module _ (number : ℕ) (k : Kernel) (r : Registers) (words : List ℕ) (tick : ℕ) where
  pub call-sound : (eqb number 0x25 ≡ true → length words ≤ wait_list) → RegistersFit r → tick < 18446744073709551616 → runs? k ≡ true → Sound k
      → Clear (call number k r words tick).kernel → Sound (call number k r words tick).kernel
  unfolding call
  call-sound few f t g s =
      let P : Served → Type 0 = λ v. Clear v.kernel → Sound v.kernel in
      pick-both P (eqb number 0x08) _ _ (create_thread-sound k r f s)
      (pick-both P (eqb number 0x09) _ _ (λ c. exit_thread-sound k s)
      (pick-both P (eqb number 0x0A) _ _ (λ c. sleep_thread-sound k r tick t s g)
      (pick-both P (eqb number 0x0C) _ _ (λ c. set_thread_priority-sound k r s)
      (pick-both P (eqb number 0x13) _ _ (create_mutex-sound k r s)
      (pick-both P (eqb number 0x14) _ _ (release_mutex-sound k r s)
      (pick-both P (eqb number 0x15) _ _ (create_semaphore-sound k r f s)
      (pick-both P (eqb number 0x16) _ _ (release_semaphore-sound k r s)
      (pick-both P (eqb number 0x17) _ _ (create_event-sound k r s)
      (pick-both P (eqb number 0x18) _ _ (signal_event-sound k r s)
      (pick-both P (eqb number 0x19) _ _ (clear_event-sound k r s)
      (pick-both P (eqb number 0x1A) _ _ (create_timer-sound k r s)
      (pick-both P (eqb number 0x1B) _ _ (set_timer-sound k r tick f s)
      (pick-both P (eqb number 0x1C) _ _ (cancel_timer-sound k r tick s)
      (pick-both P (eqb number 0x1D) _ _ (clear_timer-sound k r tick s)
      (pick-both P (eqb number 0x21) _ _ (create_address_arbiter-sound k s)
      (pick-both P (eqb number 0x22) _ _ (arbitrate_address-sound k r (get_or words 0 0) tick f g s)
      (pick-both P (eqb number 0x23) _ _ (close_handle-sound k r s)
      (pick-both P (eqb number 0x24) _ _ (wait_synchronization1-sound k r tick g s)
      (pick_if P (eqb number 0x25) _ _ (λ e. wait_synchronization_n-sound k r words tick (few e) g s)
      (λ e. pick-both P (eqb number 0x27) _ _ (duplicate_handle-sound k r s)
      (λ c. s)))))))))))))))))))))

  pub call-answers : Accepted (call number k r words tick).answer
  unfolding call
  call-answers =
      let P : Served → Type 0 = λ v. Accepted v.answer in
      pick-both P (eqb number 0x08) _ _ (create_thread-answers k r)
      (pick-both P (eqb number 0x09) _ _ (exit_thread-answers k)
      (pick-both P (eqb number 0x0A) _ _ (sleep_thread-answers k r tick)
      (pick-both P (eqb number 0x0C) _ _ (set_thread_priority-answers k r)
      (pick-both P (eqb number 0x13) _ _ (create_mutex-answers k r)
      (pick-both P (eqb number 0x14) _ _ (release_mutex-answers k r)
      (pick-both P (eqb number 0x15) _ _ (create_semaphore-answers k r)
      (pick-both P (eqb number 0x16) _ _ (release_semaphore-answers k r)
      (pick-both P (eqb number 0x17) _ _ (create_event-answers k r)
      (pick-both P (eqb number 0x18) _ _ (signal_event-answers k r)
      (pick-both P (eqb number 0x19) _ _ (clear_event-answers k r)
      (pick-both P (eqb number 0x1A) _ _ (create_timer-answers k r)
      (pick-both P (eqb number 0x1B) _ _ (set_timer-answers k r tick)
      (pick-both P (eqb number 0x1C) _ _ (cancel_timer-answers k r tick)
      (pick-both P (eqb number 0x1D) _ _ (clear_timer-answers k r tick)
      (pick-both P (eqb number 0x21) _ _ (create_address_arbiter-answers k)
      (pick-both P (eqb number 0x22) _ _ (arbitrate_address-answers k r (get_or words 0 0) tick)
      (pick-both P (eqb number 0x23) _ _ (close_handle-answers k r)
      (pick-both P (eqb number 0x24) _ _ (wait_synchronization1-answers k r tick)
      (pick-both P (eqb number 0x25) _ _ (wait_synchronization_n-answers k r words tick)
      (pick-both P (eqb number 0x27) _ _ (duplicate_handle-answers k r)
      (inl refl)))))))))))))))))))))
