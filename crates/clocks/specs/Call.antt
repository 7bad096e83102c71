-- A timer that is neither set nor cancelled by a guest call, and kept open, has the clock that it had, fired at the call's tick if the call fires timers.
use Rattle.std.specs.Prelude.{◌≡◌, Bool, true, false, List, [], ◌∷◌, ℕ, ◌<◌, eqb, get_or}
use Rattle.std.proofs.Math.Path.{refl, ap}
use Rattle.std.proofs.Common.{sym, ◌∙◌, eqb-true}
use Rattle.laws.specs.Logic.{pick, ◌or◌, and_yes, or_yes, or_no}
use Rattle.types.specs.declared.object.ObjectStore.{ObjectStore}
use Rattle.types.specs.declared.kernel.Kernel.{Kernel}
use Rattle.sound.specs.Sound.{Sound}
use Rattle.soundness.specs.Whole.{Parts, sound-parts}
use Rattle.soundness.specs.Slots.{pick_if}
use Rattle.svc.specs.declared.Registers.{Registers}
use Rattle.svc.specs.declared.Served.{Served}
use Rattle.svc.specs.Call.{silent}
use Rattle.svc.specs.Threads.{create_thread, exit_thread, sleep_thread, set_thread_priority}
use Rattle.svc.specs.Sync.{create_mutex, release_mutex, create_semaphore, release_semaphore, create_event, signal_event, clear_event}
use Rattle.svc.specs.Timers.{create_timer, set_timer, cancel_timer, clear_timer}
use Rattle.svc.specs.Arbiter.{create_address_arbiter, arbitrate_address}
use Rattle.svc.specs.Waits.{wait_synchronization1, wait_synchronization_n}
use Rattle.svc.specs.Handles.{close_handle, duplicate_handle}
use Rattle.svc.specs.Dispatch.{runs?, call}
use Rattle.demand.specs.Words.{calls, target, resets?, fires?, Open}
use Rattle.timing.specs.Clock.{clock_at}
use Rattle.timing.specs.Fires.{fired_clock, fired_clocks}
use Rattle.timing.specs.Keeps.{FirstFree, handle_kind}
use Rattle.clocks.specs.Resolves.{Used, parts_free}
use Rattle.clocks.specs.Threads.{create_thread-clock, exit_thread-clock, sleep_thread-objects, set_thread_priority-objects}
use Rattle.clocks.specs.Sync.{create_mutex-clock, release_mutex-clock, create_semaphore-clock, release_semaphore-clock, create_event-clock, signal_event-clock, clear_event-clock}
use Rattle.clocks.specs.Timers.{create_timer-clock, set_timer-clock, cancel_timer-clock, clear_timer-clock}
use Rattle.clocks.specs.Arbiter.{create_address_arbiter-clock, arbitrate_address-clock}
use Rattle.clocks.specs.Handles.{close_handle-clock, duplicate_handle-clock}
use Rattle.clocks.specs.Waits.{wait_synchronization1-clock, wait_synchronization_n-clock}

module _ (number : ℕ) (k : Kernel) (r : Registers) (words : List ℕ) (tick : ℕ) where
  -- ---- the calls from a number on, as `call` goes through them
  abbrev from27 : Served
  from27 = pick (eqb number 0x27) (duplicate_handle k r) (silent k)

  abbrev from25 : Served
  from25 = pick (eqb number 0x25) (wait_synchronization_n k r words tick) from27

  abbrev from24 : Served
  from24 = pick (eqb number 0x24) (wait_synchronization1 k r tick) from25

  abbrev from23 : Served
  from23 = pick (eqb number 0x23) (close_handle k r) from24

  abbrev from22 : Served
  from22 = pick (eqb number 0x22) (arbitrate_address k r (get_or words 0 0) tick) from23

  abbrev from21 : Served
  from21 = pick (eqb number 0x21) (create_address_arbiter k) from22

  abbrev from1_d : Served
  from1_d = pick (eqb number 0x1D) (clear_timer k r tick) from21

  abbrev from1_c : Served
  from1_c = pick (eqb number 0x1C) (cancel_timer k r tick) from1_d

  abbrev from1_b : Served
  from1_b = pick (eqb number 0x1B) (set_timer k r tick) from1_c

  abbrev from1_a : Served
  from1_a = pick (eqb number 0x1A) (create_timer k r) from1_b

  abbrev from19 : Served
  from19 = pick (eqb number 0x19) (clear_event k r) from1_a

  abbrev from18 : Served
  from18 = pick (eqb number 0x18) (signal_event k r) from19

  abbrev from17 : Served
  from17 = pick (eqb number 0x17) (create_event k r) from18

  abbrev from16 : Served
  from16 = pick (eqb number 0x16) (release_semaphore k r) from17

  abbrev from15 : Served
  from15 = pick (eqb number 0x15) (create_semaphore k r) from16

  abbrev from14 : Served
  from14 = pick (eqb number 0x14) (release_mutex k r) from15

  abbrev from13 : Served
  from13 = pick (eqb number 0x13) (create_mutex k r) from14

  abbrev from0_c : Served
  from0_c = pick (eqb number 0x0C) (set_thread_priority k r) from13

  abbrev from0_a : Served
  from0_a = pick (eqb number 0x0A) (sleep_thread k r tick) from0_c

  abbrev from09 : Served
  from09 = pick (eqb number 0x09) (exit_thread k) from0_a

  -- ---- a state in which the object o has an open handle, and the call does not set or cancel it
  module _ (o : ℕ) (p : Parts k) (z : 0 < o) (h : Open o k) (calm : resets? o (calls number r words tick) k ≡ false) where
    -- what a call that leaves v does
    abbrev Does : Served → Type 0
    Does v = Sound v.kernel → Open o v.kernel → clock_at v.kernel.objects o ≡ fired_clocks (pick (fires? number) (tick ∷ []) []) (clock_at k.objects o)

    free : FirstFree k.objects
    free = parts_free k p

    used : Used k.objects o
    used = handle_kind k p o z h

    used-after : (v : Served) → Sound v.kernel → Open o v.kernel → Used v.kernel.objects o
    used-after v s g = handle_kind v.kernel (sound-parts v.kernel s) o z g

    -- a call that does not fire timers
    rests : fires? number ≡ false → (v : Served) → (Sound v.kernel → Open o v.kernel → clock_at v.kernel.objects o ≡ clock_at k.objects o) → Does v
    unfolding fired_clocks
    rests e v f s g = f s g ∙ ap (λ (b : Bool). fired_clocks (pick b (tick ∷ []) []) (clock_at k.objects o)) (sym e)

    -- and one that does
    fires : fires? number ≡ true → (v : Served) → (Sound v.kernel → clock_at v.kernel.objects o ≡ fired_clock tick (clock_at k.objects o)) → Does v
    unfolding fired_clocks
    fires e v f s g = f s ∙ ap (λ (b : Bool). fired_clocks (pick b (tick ∷ []) []) (clock_at k.objects o)) (sym e)

    -- the call n, which leaves v, or else those after it
    if_rests : (n : ℕ) (v rest : Served) → fires? n ≡ false → (Sound v.kernel → Open o v.kernel → clock_at v.kernel.objects o ≡ clock_at k.objects o)
        → (eqb number n ≡ false → Does rest) → Does (pick (eqb number n) v rest)
    if_rests n v rest q f next = pick_if Does (eqb number n) v rest (λ e. rests (ap fires? (eqb-true number n e) ∙ q) v f) next

    if_fires : (n : ℕ) (v rest : Served) → fires? n ≡ true → (eqb number n ≡ true → Sound v.kernel → clock_at v.kernel.objects o ≡ fired_clock tick (clock_at k.objects o))
        → (eqb number n ≡ false → Does rest) → Does (pick (eqb number n) v rest)
    if_fires n v rest q f next = pick_if Does (eqb number n) v rest (λ e. fires (ap fires? (eqb-true number n e) ∙ q) v (f e)) next

    -- a call that sets or cancels names another object
    other : eqb number 0x1B or eqb number 0x1C ≡ true → eqb (target k r) o ≡ false
    other e = sym (and_yes (eqb number 0x1B or eqb number 0x1C) (eqb (target k r) o) e) ∙ calm

    none : eqb number 0x1B ≡ false → eqb number 0x1C ≡ false → eqb number 0x1D ≡ false → eqb number 0x24 ≡ false → eqb number 0x25 ≡ false → fires? number ≡ false
    none a b c d e =
        or_no (eqb number 0x1B) (eqb number 0x1C or (eqb number 0x1D or (eqb number 0x24 or eqb number 0x25))) a
        ∙ or_no (eqb number 0x1C) (eqb number 0x1D or (eqb number 0x24 or eqb number 0x25)) b ∙ or_no (eqb number 0x1D) (eqb number 0x24 or eqb number 0x25) c
        ∙ or_no (eqb number 0x24) (eqb number 0x25) d ∙ e

    does_call : Does (call number k r words tick)
    unfolding call ◌or◌
    does_call =
        if_rests 0x08 (create_thread k r) from09 refl (λ s g. create_thread-clock k p r o z h) (λ n08.
        if_rests 0x09 (exit_thread k) from0_a refl (λ s g. exit_thread-clock k o (used-after (exit_thread k) s g)) (λ n09.
        if_rests 0x0A (sleep_thread k r tick) from0_c refl (λ s g. ap (λ (x : ObjectStore). clock_at x o) (sleep_thread-objects k r tick)) (λ n0_a.
        if_rests 0x0C (set_thread_priority k r) from13 refl (λ s g. ap (λ (x : ObjectStore). clock_at x o) (set_thread_priority-objects k r)) (λ n0_c.
        if_rests 0x13 (create_mutex k r) from14 refl (λ s g. create_mutex-clock k free o used r) (λ n13.
        if_rests 0x14 (release_mutex k r) from15 refl (λ s g. release_mutex-clock k free o used r) (λ n14.
        if_rests 0x15 (create_semaphore k r) from16 refl (λ s g. create_semaphore-clock k free o used r) (λ n15.
        if_rests 0x16 (release_semaphore k r) from17 refl (λ s g. release_semaphore-clock k free o used r) (λ n16.
        if_rests 0x17 (create_event k r) from18 refl (λ s g. create_event-clock k free o used r) (λ n17.
        if_rests 0x18 (signal_event k r) from19 refl (λ s g. signal_event-clock k free o used r) (λ n18.
        if_rests 0x19 (clear_event k r) from1_a refl (λ s g. clear_event-clock k free o used r) (λ n19.
        if_rests 0x1A (create_timer k r) from1_b refl (λ s g. create_timer-clock k free o used r) (λ n1_a.
        if_fires 0x1B (set_timer k r tick) from1_c refl (λ e s. set_timer-clock k free o used r tick (other (or_yes (eqb number 0x1B) (eqb number 0x1C) e))) (λ n1_b.
        if_fires 0x1C (cancel_timer k r tick) from1_d refl (λ e s. cancel_timer-clock k free o used r tick (other (or_no (eqb number 0x1B) (eqb number 0x1C) n1_b ∙ e))) (λ n1_c.
        if_fires 0x1D (clear_timer k r tick) from21 refl (λ e s. clear_timer-clock k free o used r tick) (λ n1_d.
        if_rests 0x21 (create_address_arbiter k) from22 refl (λ s g. create_address_arbiter-clock k free o used) (λ n21.
        if_rests 0x22 (arbitrate_address k r (get_or words 0 0) tick) from23 refl (λ s g. arbitrate_address-clock k free o used r (get_or words 0 0) tick) (λ n22.
        if_rests 0x23 (close_handle k r) from24 refl (λ s g. close_handle-clock k r o (used-after (close_handle k r) s g)) (λ n23.
        if_fires 0x24 (wait_synchronization1 k r tick) from25 refl (λ e s. wait_synchronization1-clock k free o used r tick) (λ n24.
        if_fires 0x25 (wait_synchronization_n k r words tick) from27 refl (λ e s. wait_synchronization_n-clock k p o used tick words r (sound-parts (wait_synchronization_n k r words tick).kernel s)) (λ n25.
        if_rests 0x27 (duplicate_handle k r) (silent k) refl (λ s g. duplicate_handle-clock k free o used r) (λ n27.
        rests (none n1_b n1_c n1_d n24 n25) (silent k) (λ s g. refl))))))))))))))))))))))

pub call-clock : (number : ℕ) (k : Kernel) (r : Registers) (words : List ℕ) (tick o : ℕ) → Sound k → runs? k ≡ true → Sound (call number k r words tick).kernel → 0 < o
    → Open o k → Open o (call number k r words tick).kernel → resets? o (calls number r words tick) k ≡ false
    → clock_at (call number k r words tick).kernel.objects o ≡ fired_clocks (pick (fires? number) (tick ∷ []) []) (clock_at k.objects o)
call-clock number k r words tick o s g q z h j calm = does_call number k r words tick o (sound-parts k s) z h calm q j
