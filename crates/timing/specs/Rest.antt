-- The choice of a pass changes who is Running and since when, and nothing else of any thread.
use Rattle.std.specs.Prelude.{◌≡◌, refl, Bool, true, false, List, ℕ, eqb, Option, Some, None}
use Rattle.std.proofs.Common.{ap, sym, ◌∙◌}
use Rattle.laws.specs.Logic.{pick, false-true}
use Rattle.types.specs.declared.thread.ThreadStatus.{ThreadStatus}
use Rattle.types.specs.declared.thread.ThreadStatus.TheVariants.{Dead, Running, Ready, Sleeping, WaitSync, WaitArbiter, Dormant}
use Rattle.types.specs.declared.thread.Thread.{Thread}
use Rattle.types.specs.declared.object.ObjectStore.{ObjectStore}
use Rattle.types.specs.declared.kernel.Kernel.{Kernel}
use Rattle.sound.specs.View.{thread_at}
use Rattle.thread.specs.Thread.{with_status}
use Rattle.soundness.specs.Slots.{pick-both}
use Rattle.pass.specs.declared.Waits.{Waits}
use Rattle.pass.specs.declared.Passed.{Passed}
use Rattle.pass.specs.Pick.{is_runnable, is_running, pick_next}
use Rattle.pass.specs.Schedule.{with_run, mark_waited, begun, begin_run, starving, flipped, chosen, leaves, leave_core, take_core, switch_as, choose}
use Rattle.passing.specs.Picks.{can_run, Runs, pick_next-runs, chosen-runs, thread-f}
use Rattle.passing.specs.Switch.{leave_runs, begin-runs}
use Rattle.timing.specs.Wait.{wait_of}

-- ---- a thread off the core, with no word on when it ran
abbrev pub off_core : ThreadStatus → ThreadStatus
off_core Dead = Dead
off_core Running = Ready
off_core Ready = Ready
off_core Sleeping = Sleeping
off_core WaitSync = WaitSync
off_core WaitArbiter = WaitArbiter
off_core Dormant = Dormant

abbrev pub at_rest : Thread → Thread
at_rest t = with_run (with_status t (off_core t.status)) false 0

-- ---- what at_rest tells
off_runs : (s : ThreadStatus) → is_runnable (off_core s) ≡ is_runnable s
off_runs Dead = refl
off_runs Running = refl
off_runs Ready = refl
off_runs Sleeping = refl
off_runs WaitSync = refl
off_runs WaitArbiter = refl
off_runs Dormant = refl

runs_off : (s : ThreadStatus) → is_runnable s ≡ true → off_core s ≡ Ready
runs_off Dead e = false-true e
runs_off Running e = refl
runs_off Ready e = refl
runs_off Sleeping e = false-true e
runs_off WaitSync e = false-true e
runs_off WaitArbiter e = false-true e
runs_off Dormant e = false-true e

off_same : (s : ThreadStatus) → is_runnable s ≡ false → off_core s ≡ s
off_same Dead e = refl
off_same Running e = false-true (sym e)
off_same Ready e = false-true (sym e)
off_same Sleeping e = refl
off_same WaitSync e = refl
off_same WaitArbiter e = refl
off_same Dormant e = refl

module _ (x y : Thread) (e : at_rest y ≡ at_rest x) where
  -- who can run
  pub rest-runs : is_runnable y.status ≡ is_runnable x.status
  rest-runs = sym (off_runs y.status) ∙ ap (λ (t : Thread). is_runnable t.status) e ∙ off_runs x.status

  -- who is how urgent
  pub rest-priority : y.priority ≡ x.priority
  rest-priority = ap (λ (t : Thread). t.priority) e

  -- the wait of one that cannot run
  pub rest-wait : is_runnable x.status ≡ false → wait_of y ≡ wait_of x
  rest-wait n =
      let w : wait_of (at_rest y) ≡ wait_of (at_rest x) = ap wait_of e in
      ap (λ (s : ThreadStatus). wait_of (with_status y s)) (sym (off_same y.status (rest-runs ∙ n))) ∙ w ∙ ap (λ (s : ThreadStatus). wait_of (with_status x s)) (off_same x.status n)

-- ---- each part of the choice
pub mark_rest : (ts : List Thread) (c : Option ℕ) (i : ℕ)
    → at_rest (thread_at (mark_waited ts c) i) ≡ at_rest (thread_at ts i)
mark_rest ts None i = refl
mark_rest ts (Some c) i =
    pick-both (λ (l : List Thread). at_rest (thread_at l i) ≡ at_rest (thread_at ts i)) (is_runnable (thread_at ts c).status) ts _ refl (thread-f at_rest ts c _ i refl)

begin-rest : (ts : List Thread) (c : Option ℕ) (tick i : ℕ)
    → at_rest (thread_at (begin_run ts c tick) i) ≡ at_rest (thread_at ts i)
begin-rest ts None tick i = refl
begin-rest ts (Some c) tick i =
    thread-f at_rest ts c (begun (thread_at ts c) tick) i (pick-both (λ (x : Thread). at_rest x ≡ at_rest (thread_at ts c)) (thread_at ts c).waited (with_run (thread_at ts c) false tick) (thread_at ts c) refl refl)

status-rest : (t : Thread) (s : ThreadStatus) → off_core s ≡ off_core t.status → at_rest (with_status t s) ≡ at_rest t
status-rest t s e = ap (λ (x : ThreadStatus). with_run (with_status t x) false 0) e

running_off : (s : ThreadStatus) → is_running s ≡ true → off_core s ≡ Ready
running_off Dead e = false-true e
running_off Running e = refl
running_off Ready e = refl
running_off Sleeping e = false-true e
running_off WaitSync e = false-true e
running_off WaitArbiter e = false-true e
running_off Dormant e = false-true e

left-rest : (t : Thread) → at_rest (leaves t) ≡ at_rest t
left-rest t = go (is_running t.status) refl
  where
    go : (b : Bool) → is_running t.status ≡ b → at_rest (pick b (with_status t Ready) t) ≡ at_rest t
    go true e = status-rest t Ready (sym (running_off t.status e))
    go false e = refl

leave_rest : (ts : List Thread) (c : Option ℕ) (i : ℕ)
    → at_rest (thread_at (leave_core ts c) i) ≡ at_rest (thread_at ts i)
leave_rest ts None i = refl
leave_rest ts (Some c) i = thread-f at_rest ts c (leaves (thread_at ts c)) i (left-rest (thread_at ts c))

take_rest : (ts : List Thread) (n i : ℕ) → can_run ts n ≡ true → at_rest (thread_at (take_core ts n) i) ≡ at_rest (thread_at ts i)
take_rest ts n i h = thread-f at_rest ts n (with_status (thread_at ts n) Running) i (status-rest (thread_at ts n) Running (sym (runs_off (thread_at ts n).status h)))

-- ---- the switch to a thread that can run
switch_rest : (k : Kernel) (s : ObjectStore) (ts : List Thread) (relief : Bool) (c next : Option ℕ) → Runs ts next
    → (i : ℕ)
    → at_rest (thread_at (switch_as k s ts relief c next).kernel.threads i) ≡ at_rest (thread_at ts i)
switch_rest k s ts relief None None h i = refl
switch_rest k s ts relief (Some c) None h i = leave_rest ts (Some c) i
switch_rest k s ts relief None (Some n) h i = take_rest ts n i h
switch_rest k s ts relief (Some c) (Some n) h i =
    pick-both (λ (x : Passed). at_rest (thread_at x.kernel.threads i) ≡ at_rest (thread_at ts i)) (eqb c n) _ _ (take_rest ts n i h)
    (take_rest (leave_core ts (Some c)) n i (leave_runs ts (Some c) (Some n) h) ∙ leave_rest ts (Some c) i)

-- ---- the choice
pub choose-rest : (k : Kernel) (x : Waits) (tick i : ℕ) → at_rest (thread_at (choose k x tick).kernel.threads i) ≡ at_rest (thread_at x.threads i)
choose-rest k x tick i =
    let c : (Option ℕ) = k.current_thread in
    let ts : List Thread = mark_waited x.threads c in
    let first : (Option ℕ) = pick_next ts c in
    let first_runs : Runs ts first = pick_next-runs ts c in
    let begun : List Thread = begin_run ts first tick in
    let starve : Bool = starving begun first tick in
    let next : (Option ℕ) = chosen begun first starve k.relief in
    let next-runs : Runs begun next = chosen-runs begun first starve k.relief (begin-runs ts first tick first first_runs) in
    switch_rest k x.objects (begin_run begun next tick) (flipped starve k.relief) c next (begin-runs begun next tick next next-runs) i
    ∙ begin-rest begun next tick i
    ∙ begin-rest ts first tick i
    ∙ mark_rest x.threads c i
