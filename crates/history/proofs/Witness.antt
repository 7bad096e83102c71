-- The premises can be met: what is computed of the lists of specs/Witness.antt, what it tells of blocks, and the theorem used on them.
use Rattle.std.specs.Prelude.{◌≡◌, refl, true, List, [], ◌∷◌, map, ℕ, length}
use Rattle.std.proofs.Common.{inl, inr}
use Rattle.laws.specs.Logic.{◌and◌, ◌or◌}
use Rattle.laws.specs.Count.{ind, count, at}
use Rattle.laws.specs.Walk.{walk}
use Rattle.codec.specs.Bytes.{bytes}
use Rattle.codec.specs.Layout.{dec_all}
use Rattle.sound.specs.View.{slot_at}
use Rattle.sound.specs.Tls.{held}
use Rattle.sound.specs.Records.{has?}
use Rattle.sound.specs.Question.{sound?}
use Rattle.kernel.specs.Fresh.{in_row, free_slots, free_waiters, fresh}
use Rattle.kernel.specs.NextEvent.{contains}
use Rattle.object.specs.Slots.{slot_put, content}
use Rattle.object.specs.Waiters.{waiter_at, waiter_put, last_of, push}
use Rattle.object.specs.Store.{insert, add_ref, add_refs, release_if, release, releases}
use Rattle.object.specs.Handles.{give, place_of, object_of}
use Rattle.object.specs.Kept.{resolve}
use Rattle.thread.specs.Threads.{free_from, tls_slot, ended_from, ended_thread, create_thread, end_wait, disown, end_thread}
use Rattle.pass.specs.Signal.{acquire, acquires, waited_sync, clear_pulses}
use Rattle.pass.specs.Signal as signals
use Rattle.pass.specs.Timers.{any_over, fire_timers, timer_due, lost_slots, catch_up_timers}
use Rattle.pass.specs.Pick.{least_priority, first_from, pick_next, other_from, pick_other}
use Rattle.pass.specs.Waits.{all_signaled, first_signaled, fate, try_wait, try_waits, begin_wait, sleep_current}
use Rattle.pass.specs.Asks.{padded}
use Rattle.pass.specs.Schedule.{schedule}
use Rattle.svc.specs.Call.{create_object}
use Rattle.svc.specs.Threads.{exit_thread, sleep_thread}
use Rattle.svc.specs.Sync.{create_event, signal_event}
use Rattle.svc.specs.Timers.{create_timer, set_timer}
use Rattle.svc.specs.Arbiter.{create_address_arbiter, to_wake, unlink_woken, wake_all, arbitrate_address}
use Rattle.svc.specs.Waits.{wait_synchronization1, resolve_all, resolve_store, wait_synchronization_n}
use Rattle.svc.specs.Collect.{collect}
use Rattle.svc.specs.Table.{table, row_in, row_of, known_in, known?}
use Rattle.svc.specs.Dispatch.{runs?, too_many?, outside?, refusal, call}
use Rattle.demand.specs.Words.{Event, TimesOut, InTwo, Grid}
use Rattle.demand.specs.Witness as shown
use Rattle.demand.proofs.Witness as met
use Rattle.lent.specs.Lent.{accepted?}
use Rattle.lent.specs.Operations.{out_of_handles?, finding, end_refusal}
use Rattle.history.specs.Step.{Op, step, trace}
use Rattle.history.specs.Events.{event_of}
use Rattle.history.specs.Plays.{play, takes?, takes_all?, start, start_refused, Somewhere}
use Rattle.history.proofs.Plays.{start-accepted, start-refused, from_start, along}
use Rattle.history.specs.Witness.{sleeps, shortest, longest, waits_in_vain, gets, waits_n, parks_in_vain, wakes, naps, repeats, fires_once, busy, Repeats, FiresOnce, Found, All}
use Rattle.history.proofs.Demand.{demand3}

all : All
unfolding play takes? takes_all? finding out_of_handles? accepted? refusal runs? too_many? outside? known? known_in bytes dec_all ◌and◌ ◌or◌ ind count slot_at held in_row free_slots free_waiters fresh free_from tls_slot ended_from ended_thread create_thread give place_of object_of resolve slot_put content insert add_ref add_refs release_if release releases acquire acquires waited_sync contains signals.signal_event clear_pulses any_over fire_timers timer_due lost_slots catch_up_timers least_priority first_from pick_next other_from pick_other all_signaled first_signaled fate try_wait try_waits padded begin_wait sleep_current schedule sleep_thread create_object create_event signal_event create_timer set_timer wait_synchronization1 table row_in row_of call wait_synchronization_n resolve_all resolve_store create_address_arbiter arbitrate_address push waiter_at waiter_put last_of to_wake unlink_woken wake_all has? walk at end_wait disown end_thread collect end_refusal exit_thread
all = record {
  slept = record { accepted = refl; met = inr (inr (inl (met.shown).slept)) };
  waited = record { accepted = refl; met = inr (inr (inr (inr (inl (met.shown).waited)))) };
  shortest = record { accepted = refl; met = inr (inr (inl (met.shown).shortest)) };
  longest = record { accepted = refl; met = inr (inr (inl (met.shown).longest)) };
  waited_n = record { accepted = refl; met = inr (inr (inr (inr (inl (met.shown).waited_n)))) };
  parked3 = record { accepted = refl; met = inr (inr (inr (inr (inl (met.shown).parked3)))) };
  parked4 = record { accepted = refl; met = inr (inr (inr (inr (inl (met.shown).parked4)))) };
  woke = record { accepted = refl; met = inr (inr (inr (inr (inl (met.shown).woke)))) };
  slept_too = record { accepted = refl; met = inr (inr (inr (inr (inr (inl (met.shown).slept_too))))) };
  repeats_too = record { accepted = refl; met = inr (inr (inr (inr (inl (met.shown).repeats_too)))) };
  gave = record { accepted = refl; met = inr (inr (inr (inr (inl (met.shown).gave)))) };
  prompt = record { accepted = refl; met = inr (inr (inr (inr (inl (met.shown).prompt)))) };
  relieved = record { accepted = refl; met = inr (inr (inr (inl (met.shown).relieved))) };
  repeats = record { accepted = refl; met = inr (inr (inr (inl (met.shown).repeats))) };
  single = record { accepted = refl; met = inr (inr (inr (inl (met.shown).single))) };
}

-- ---- what it tells of blocks, whatever the first 16,384 bytes are
module _ (b : List ℕ) (l : length b ≡ 16384) where
  occurs : (P : Event → List Event → Type 0) (ops : List Op) → Found P ops → Somewhere P (map event_of (trace (start ∷ ops) b))
  occurs P ops f = from_start P ops f.accepted f.met b l

  pub slept : Somewhere shown.Late (map event_of (trace (start ∷ sleeps) b))
  slept = occurs shown.Late sleeps all.slept

  pub waited : Somewhere shown.Late (map event_of (trace (start ∷ waits_in_vain) b))
  waited = occurs shown.Late waits_in_vain all.waited

  pub slept-shortest : Somewhere shown.Late (map event_of (trace (start ∷ shortest) b))
  slept-shortest = occurs shown.Late shortest all.shortest

  pub slept-longest : Somewhere shown.Late (map event_of (trace (start ∷ longest) b))
  slept-longest = occurs shown.Late longest all.longest

  pub waited-list : Somewhere shown.Late (map event_of (trace (start ∷ waits_n) b))
  waited-list = occurs shown.Late waits_n all.waited_n

  pub parked3 : Somewhere shown.Late (map event_of (trace (start ∷ parks_in_vain 3) b))
  parked3 = occurs shown.Late (parks_in_vain 3) all.parked3

  pub parked4 : Somewhere shown.Late (map event_of (trace (start ∷ parks_in_vain 4) b))
  parked4 = occurs shown.Late (parks_in_vain 4) all.parked4

  pub woke : Somewhere shown.Given (map event_of (trace (start ∷ wakes) b))
  woke = occurs shown.Given wakes all.woke

  pub slept-too : Somewhere shown.Late (map event_of (trace (start ∷ busy) b))
  slept-too = occurs shown.Late busy all.slept_too

  pub repeats-too : Somewhere (shown.Armed 1 10 1000 2000 shown.busy_dues) (map event_of (trace (start ∷ busy) b))
  repeats-too = occurs (shown.Armed 1 10 1000 2000 shown.busy_dues) busy all.repeats_too

  pub gave : Somewhere shown.Given (map event_of (trace (start ∷ gets) b))
  gave = occurs shown.Given gets all.gave

  pub prompt : Somewhere (shown.Urgent shown.AtFirst) (map event_of (trace (start ∷ gets) b))
  prompt = occurs (shown.Urgent shown.AtFirst) gets all.prompt

  pub relieved : Somewhere (shown.Urgent shown.AtSecond) (map event_of (trace (start ∷ naps) b))
  relieved = occurs (shown.Urgent shown.AtSecond) naps all.relieved

  pub drifts_not : Somewhere Repeats (map event_of (trace (start ∷ repeats) b))
  drifts_not = occurs Repeats repeats all.repeats

  pub single : Somewhere FiresOnce (map event_of (trace (start ∷ fires_once) b))
  single = occurs FiresOnce fires_once all.single

  -- ---- the theorem, used on them
  -- an accepted fresh start leaves a block that question 2 accepts
  pub starts : sound? (step start b).after.block ≡ true
  unfolding trace
  starts = (demand3 (start ∷ []) b).0.keeps (start-accepted b l)

  -- a refused one, which is lent no bank, leaves the block
  pub refuses : (step start_refused b).after.block ≡ b
  unfolding trace
  refuses = (demand3 (start_refused ∷ []) b).0.leaves (start-refused b)

  -- and at each entry that is shown it says what is shown
  pub ends_by_time : Somewhere (λ e es. (x : shown.Late e es) × TimesOut x.τ es x.i) (map event_of (trace (start ∷ sleeps) b))
  ends_by_time = along shown.Late _ (λ e es x c. (x, met.late-must e es x c.0)) (trace (start ∷ sleeps) b) (demand3 (start ∷ sleeps) b) slept

  pub runs_in_two : Somewhere (λ e es. (x : shown.Urgent shown.AtSecond e es) × InTwo x.τ es) (map event_of (trace (start ∷ naps) b))
  runs_in_two = along (shown.Urgent shown.AtSecond) _ (λ e es x c. (x, c.1 x.τ x.n x.t x.begins x.spared)) (trace (start ∷ naps) b) (demand3 (start ∷ naps) b) relieved

  pub on-grid : Somewhere (λ e es. Repeats e es × Grid 1 10 1000 2000 [] es) (map event_of (trace (start ∷ repeats) b))
  on-grid = along Repeats _ (λ e es x c. (x, (c.2 1 10 1000 2000 x.sets x.held).1)) (trace (start ∷ repeats) b) (demand3 (start ∷ repeats) b) drifts_not
