-- What is computed of the operations of specs/Witness.antt, and what the demand says of them.
use Rattle.std.specs.Prelude.{◌≡◌, refl, Bool, true, false, not, ◌≢◌, List, [], ◌∷◌, ℕ, zero, suc, ◌+◌, ◌≤◌, ◌<◌, eqb, ltb, Some}
use Rattle.std.proofs.Common.{ap, sym, arith, eqb-true, ltb-true}
use Rattle.laws.specs.Logic.{◌and◌, ◌or◌, and-true, false-true}
use Rattle.laws.specs.Count.{ind, count, at}
use Rattle.laws.specs.Walk.{walk}
use Rattle.types.specs.declared.thread.Thread.{Thread}
use Rattle.types.specs.declared.kernel.Kernel.{Kernel}
use Rattle.types.specs.Thread.{is_blocked}
use Rattle.sound.specs.View.{slot_at, thread_at}
use Rattle.sound.specs.Threads.{is_current}
use Rattle.sound.specs.Tls.{held}
use Rattle.sound.specs.Records.{has?}
use Rattle.kernel.specs.Fresh.{in_row, free_slots, free_waiters, fresh}
use Rattle.kernel.specs.NextEvent.{contains}
use Rattle.object.specs.Slots.{slot_put, content}
use Rattle.object.specs.Waiters.{waiter_at, waiter_put, last_of, push}
use Rattle.object.specs.Store.{insert, add_ref, add_refs, release_if, release, releases}
use Rattle.object.specs.Handles.{give, place_of, object_of}
use Rattle.object.specs.Kept.{resolve}
use Rattle.thread.specs.Threads.{free_from, tls_slot, ended_from, ended_thread, create_thread, end_wait, disown, end_thread}
use Rattle.pass.specs.Signal.{acquire, acquires, waited_sync, clear_pulses}
use Rattle.pass.specs.Signal as pass
use Rattle.pass.specs.Timers.{any_over, fire_timers, timer_due, lost_slots, catch_up_timers}
use Rattle.pass.specs.Pick.{least_priority, first_from, pick_next, other_from, pick_other}
use Rattle.pass.specs.Waits.{all_signaled, first_signaled, fate, try_wait, try_waits, begin_wait, sleep_current}
use Rattle.pass.specs.Asks.{padded}
use Rattle.pass.specs.Schedule.{schedule}
use Rattle.svc.specs.declared.Registers.{Registers}
use Rattle.svc.specs.Call.{create_object}
use Rattle.svc.specs.Threads.{exit_thread, sleep_thread}
use Rattle.svc.specs.Sync.{create_event, signal_event}
use Rattle.svc.specs.Timers.{create_timer, set_timer}
use Rattle.svc.specs.Arbiter.{create_address_arbiter, to_wake, unlink_woken, wake_all, arbitrate_address}
use Rattle.svc.specs.Waits.{wait_synchronization1, resolve_all, resolve_store, wait_synchronization_n}
use Rattle.svc.specs.Collect.{collect}
use Rattle.svc.specs.Table.{table, row_in, row_of}
use Rattle.svc.specs.Dispatch.{call}
use Rattle.demand.specs.Words.{in_ticks, runnable?, Event, wait_nanos, timed_wait?, Begins, one_of, all_of, TimesOut, FirstPass, NotGiven, Handed, Lowest, LowestAt, entry_of, Sets, reached, Ends}
use Rattle.demand.specs.Witness.{reads, regs, Late, Given, Dues, below?, one, two, make_event, wait, wait6, signal, given8, given300, make_arbiter, below5, park272, wake, woken273, nap, nap1, nap2, arm, once, arm_too, sleep_too, busy, busy_dues, Shown}

-- ---- what the demand says of them: it asks for no more than is shown
pub late-must : (e : Event) (es : List Event) (x : Late e es) → Ends e es → TimesOut x.τ es x.i
late-must e es x h = (h x.τ x.n x.t x.begins x.spared).1.must x.i x.first x.lacks

pub late-only : (e : Event) (es : List Event) (x : Late e es) → Ends e es → FirstPass (x.t + in_ticks x.n) es x.i × NotGiven x.τ es x.i
late-only e es x h = (h x.τ x.n x.t x.begins x.spared).1.only x.i x.ends

pub given-handed : (e : Event) (es : List Event) (x : Given e es) → Ends e es → Handed x.τ es
given-handed e es x h = (h x.τ x.n x.t x.begins x.spared).1.handed

place-below : (r s : Bool) (j τ p q : ℕ) → r ≡ true → j ≢ τ → not r or (eqb j τ or s) ≡ true → s ≡ true
unfolding ◌or◌
place-below true s j τ p q e n h = go (eqb j τ) refl h
  where
    go : (x : Bool) → eqb j τ ≡ x → x or s ≡ true → s ≡ true
    go true f k = absurd (n (eqb-true j τ f))
    go false f k = k
place-below false s j τ p q e n h = false-true e

below-is : (p τ j : ℕ) (bs cs : List Thread) → below? p τ j bs cs ≡ true → (i : ℕ) → runnable? (thread_at cs i).status ≡ true → j + i ≢ τ → p < (thread_at bs i).priority
unfolding below?
below-is p τ j bs [] e i r n = false-true r
below-is p τ j [] (a ∷ cs) e zero r n = none (runnable? a.status) r (and-true _ _ e).0
  where
    none : (x : Bool) → x ≡ true → not x ≡ true → p < 0
    none true f g = false-true g
    none false f g = false-true f
below-is p τ j [] (a ∷ cs) e (suc i) r n = below-is p τ (suc j) [] cs (and-true _ _ e).1 i r (λ m. n (omega (arith, m)))
below-is p τ j (b ∷ bs) (a ∷ cs) e zero r n =
    ltb-true p b.priority (place-below (runnable? a.status) (ltb p b.priority) j τ p b.priority r (λ m. n (omega (arith, m))) (and-true _ _ e).0)
below-is p τ j (b ∷ bs) (a ∷ cs) e (suc i) r n = below-is p τ (suc j) bs cs (and-true _ _ e).1 i r (λ m. n (omega (arith, m)))

lowest : (before after : List Thread) (τ : ℕ) → runnable? (thread_at after τ).status ≡ true → below? (thread_at before τ).priority τ 0 before after ≡ true → Lowest before after τ
lowest before after τ r e = record { can = r; below = λ i s n. below-is (thread_at before τ).priority τ 0 before after e i s (λ m. n (omega (arith, m))) }

low : (e : Event) → runnable? (thread_at e.after.threads 0).status ≡ true → below? (thread_at e.before.threads 0).priority 0 0 e.before.threads e.after.threads ≡ true → LowestAt 0 e
low e r s = lowest e.before.threads e.after.threads 0 r s

-- ---- a call that begins a wait
begin : (k : Kernel) (number : ℕ) (r : Registers) (words : List ℕ) (τ n t : ℕ) → timed_wait? number r ≡ true → wait_nanos number r ≡ n → k.current_thread ≡ Some τ
    → is_blocked (thread_at (reads k number r words t).after.threads τ).status ≡ true → 1 ≤ n → n < 9223372036854775808 → t + in_ticks n < 18446744073709551616
    → Begins (reads k number r words t) τ n t
begin k number r words τ n t w m c p from to fits = record {
  accept = refl;
  number = number;
  registers = r;
  words = words;
  doing = refl;
  wait = w;
  nanos = m;
  who = c;
  parks = p;
  from = from;
  to = to;
  fits = fits;
}

pub shown : Shown
unfolding ◌and◌ ◌or◌ ind count slot_at held in_row free_slots free_waiters fresh free_from tls_slot ended_from ended_thread create_thread give place_of object_of resolve slot_put content insert add_ref add_refs release_if release releases acquire acquires waited_sync contains pass.signal_event clear_pulses any_over fire_timers timer_due lost_slots catch_up_timers least_priority first_from pick_next other_from pick_other all_signaled first_signaled fate try_wait try_waits padded begin_wait sleep_current schedule sleep_thread create_object create_event signal_event create_timer set_timer wait_synchronization1 table row_in row_of call wait_nanos timed_wait? one_of all_of entry_of reached below? wait_synchronization_n resolve_all resolve_store create_address_arbiter arbitrate_address push waiter_at waiter_put last_of to_wake unlink_woken wake_all has? walk at end_wait disown end_thread collect exit_thread
shown = record {
  slept = record {
    τ = 0;
    n = 1000;
    t = 5;
    i = 1;
    begins = begin one 0x0A (regs 1000 0 0) [] 0 1000 5 refl refl refl refl (omega arith) (omega arith) (omega arith);
    spared = (refl, (refl, tt));
    first = (refl, refl);
    lacks = (refl, refl);
    ends = (refl, (refl, refl, refl));
  };
  shortest = record {
    τ = 0;
    n = 1;
    t = 5;
    i = 1;
    begins = begin one 0x0A (regs 1 0 0) [] 0 1 5 refl refl refl refl (omega arith) (omega arith) (omega arith);
    spared = (refl, (refl, tt));
    first = (refl, refl);
    lacks = (refl, refl);
    ends = (refl, (refl, refl, refl));
  };
  longest = record {
    τ = 0;
    n = 9223372036854775807;
    t = 15973848678329917271;
    i = 1;
    begins = begin one 0x0A (regs 0xFFFFFFFF 0x7FFFFFFF 0) [] 0 9223372036854775807 15973848678329917271 refl refl refl refl (omega arith) (omega arith) (omega arith);
    spared = (refl, (refl, tt));
    first = (refl, refl);
    lacks = (refl, refl);
    ends = (refl, (refl, refl, refl));
  };
  waited = record {
    τ = 0;
    n = 1000;
    t = 5;
    i = 2;
    begins = waits;
    spared = (refl, (refl, (refl, tt)));
    first = (refl, (refl, refl));
    lacks = (refl, (refl, refl));
    ends = (refl, (refl, (refl, refl, refl)));
  };
  waited_n = record {
    τ = 0;
    n = 1000;
    t = 5;
    i = 1;
    begins = begin make_event.after 0x25 (regs 1000 0x4000 1) (0x10000 ∷ []) 0 1000 5 refl refl refl refl (omega arith) (omega arith) (omega arith);
    spared = (refl, (refl, tt));
    first = (refl, refl);
    lacks = (refl, refl);
    ends = (refl, (refl, refl, refl));
  };
  parked3 = record {
    τ = 0;
    n = 1000;
    t = 5;
    i = 1;
    begins = begin make_arbiter.after 0x22 (below5 3) (0 ∷ []) 0 1000 5 refl refl refl refl (omega arith) (omega arith) (omega arith);
    spared = (refl, (refl, tt));
    first = (refl, refl);
    lacks = (refl, refl);
    ends = (refl, (refl, refl, refl));
  };
  parked4 = record {
    τ = 0;
    n = 1000;
    t = 5;
    i = 1;
    begins = begin make_arbiter.after 0x22 (below5 4) (0 ∷ []) 0 1000 5 refl refl refl refl (omega arith) (omega arith) (omega arith);
    spared = (refl, (refl, tt));
    first = (refl, refl);
    lacks = (refl, refl);
    ends = (refl, (refl, refl, refl));
  };
  slept_too = record {
    τ = 0;
    n = 1000;
    t = 10;
    i = 8;
    begins = begin arm_too.after 0x0A (regs 1000 0 0) [] 0 1000 10 refl refl refl refl (omega arith) (omega arith) (omega arith);
    spared = (refl, (refl, (refl, (refl, (refl, (refl, (refl, (refl, (refl, tt)))))))));
    first = (refl, (refl, (refl, (refl, (refl, (refl, (refl, (refl, refl))))))));
    lacks = (refl, (refl, (refl, (refl, (refl, (refl, (refl, (refl, refl))))))));
    ends = (refl, (refl, (refl, (refl, (refl, (refl, (refl, (refl, (refl, refl, refl)))))))));
  };
  slept_still = record {
    τ = 0;
    n = 1000;
    t = 5;
    i = 2;
    begins = begin one 0x0A (regs 1000 0 0) [] 0 1000 5 refl refl refl refl (omega arith) (omega arith) (omega arith);
    spared = (refl, (refl, (refl, tt)));
    first = (refl, (refl, refl));
    lacks = (refl, (refl, refl));
    ends = (refl, (refl, (refl, refl, refl)));
  };
  gave = record {
    τ = 0;
    n = 1000;
    t = 5;
    i = 2;
    j = 3;
    begins = waits;
    spared = (refl, (refl, (refl, (refl, tt))));
    gives = refl;
    first = (refl, (refl, (refl, refl)));
    before = omega arith;
    never = never;
  };
  woke = record {
    τ = 0;
    n = 1000;
    t = 5;
    i = 1;
    j = 2;
    begins = begin make_arbiter.after 0x22 (below5 3) (0 ∷ []) 0 1000 5 refl refl refl refl (omega arith) (omega arith) (omega arith);
    spared = (refl, (refl, (refl, tt)));
    gives = refl;
    first = (refl, (refl, refl));
    before = omega arith;
    never = never-woken;
  };
  prompt = record { τ = 0; n = 1000; t = 5; begins = waits; spared = (refl, (refl, (refl, (refl, tt)))); two = (low given8 refl refl, (low given300 refl refl, refl)) };
  prompt_says = λ h. h 0 1000 5 waits (refl, (refl, (refl, (refl, tt)))) (low given8 refl refl) (low given300 refl refl);
  relieved = record { τ = 0; n = 4; t = 20000000; begins = naps; spared = (refl, (refl, tt)); two = (low nap1 refl refl, (low nap2 refl refl, (λ h. false-true (ap (λ c. is_current c 0) h), refl))) };
  relieved_says = λ h. h 0 4 20000000 naps (refl, (refl, tt)) (low nap1 refl refl) (low nap2 refl refl);
  repeats = record { sets = arms; held = omega arith; due = refl; after = ((record { calm = refl; held = omega arith }), refl, ((record { calm = refl; held = omega arith }), refl, ((record { calm = refl; held = omega arith }), refl, ((record { calm = refl; held = omega arith }), refl, tt)))) };
  repeats_says = λ h.
      let g = (((((h 1 10 1000 2000 arms (omega arith)).1 (record { calm = refl; held = omega arith })).1 (record { calm = refl; held = omega arith })).1 (record { calm = refl; held = omega arith })).1 (record { calm = refl; held = omega arith })).0.repeats 268 536 refl refl (omega arith) in
      (g.0, g.2);
  repeats_too = record { sets = record { accept = refl; registers = regs 0x10000 2000 1000; words = []; doing = refl; names = refl; kind = refl; initial = refl; interval = refl }; held = omega arith; due = refl; after = busy_left };
  repeats_still = record { sets = arms; held = omega arith; due = refl; after = ((record { calm = refl; held = omega arith }), refl, tt) };
  single = record { sets = onces; held = omega arith; due = refl; after = ((record { calm = refl; held = omega arith }), refl, ((record { calm = refl; held = omega arith }), refl, tt)) };
  single_says = λ h. (((h 1 10 1000 0 onces (omega arith)).1 (record { calm = refl; held = omega arith })).1 (record { calm = refl; held = omega arith })).0;
}
  where
    waits : Begins wait 0 1000 5
    waits = begin make_event.after 0x24 (regs 0x10000 0 1000) [] 0 1000 5 refl refl refl refl (omega arith) (omega arith) (omega arith)

    naps : Begins nap 0 4 20000000
    naps = begin two 0x0A (regs 4 0 0) [] 0 4 20000000 refl refl refl refl (omega arith) (omega arith) (omega arith)

    never : (h : ℕ) → TimesOut 0 (wait6 ∷ signal ∷ given8 ∷ given300 ∷ []) h → ⊥
    never zero x = false-true x.0
    never (suc zero) x = false-true x.1.0
    never (suc (suc zero)) x = false-true (sym x.1.1.2)
    never (suc (suc (suc h))) x = false-true x.1.1.0

    never-woken : (h : ℕ) → TimesOut 0 (park272 3 ∷ wake ∷ woken273 ∷ []) h → ⊥
    never-woken zero x = false-true x.0
    never-woken (suc zero) x = false-true (sym x.1.2)
    never-woken (suc (suc h)) x = false-true x.1.0

    arms : Sets arm 1 10 1000 2000
    arms = record { accept = refl; registers = regs 0x10000 2000 1000; words = []; doing = refl; names = refl; kind = refl; initial = refl; interval = refl }

    onces : Sets once 1 10 1000 0
    onces = record { accept = refl; registers = regs 0x10000 0 1000; words = []; doing = refl; names = refl; kind = refl; initial = refl; interval = refl }

    busy_left : Dues 1 (sleep_too ∷ busy) busy_dues
    busy_left = ((record { calm = refl; held = omega arith }), refl, ((record { calm = refl; held = omega arith }), refl, ((record { calm = refl; held = omega arith }), refl, ((record { calm = refl; held = omega arith }), refl, ((record { calm = refl; held = omega arith }), refl, ((record { calm = refl; held = omega arith }), refl, ((record { calm = refl; held = omega arith }), refl, ((record { calm = refl; held = omega arith }), refl, ((record { calm = refl; held = omega arith }), refl, ((record { calm = refl; held = omega arith }), refl, tt))))))))))
