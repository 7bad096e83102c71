-- The switch of a pass: at most the current thread is Running, and it is not Dead. A thread leaves the core, another becomes current, and it takes the core.
use Rattle.std.specs.Prelude.{◌≡◌, refl, Bool, true, false, List, ℕ, ◌^◌, ◌<◌, eqb, set, Option, Some, None}
use Rattle.std.proofs.Common.{ap, sym, subst, ◌∙◌, arith, eqb-true}
use Rattle.std.proofs.lemmas.List.{set-get_or}
use Rattle.laws.specs.Logic.{pick, false-true}
use Rattle.types.specs.declared.thread.ThreadStatus.{ThreadStatus}
use Rattle.types.specs.declared.thread.ThreadStatus.TheVariants.{Dead, Running, Ready, Sleeping, WaitSync, WaitArbiter, Dormant}
use Rattle.types.specs.declared.thread.Thread.{Thread}
use Rattle.types.specs.declared.object.ObjectStore.{ObjectStore}
use Rattle.types.specs.declared.kernel.Kernel.{Kernel}
use Rattle.types.specs.Thread.{is_dead, option_value}
use Rattle.sound.specs.View.{no_thread, thread_at}
use Rattle.sound.specs.Threads.{RunOk, CurrentOk}
use Rattle.sound.specs.Objects.{Live}
use Rattle.thread.specs.Thread.{with_status}
use Rattle.thread.specs.Threads.{with_threads}
use Rattle.soundness.specs.Slots.{pick-both}
use Rattle.soundness.specs.Fits.{Word, z4}
use Rattle.soundness.specs.Threads.{thread-same}
use Rattle.soundness.specs.Whole.{Parts}
use Rattle.pass.specs.declared.Passed.{Passed}
use Rattle.pass.specs.Pick.{is_runnable, is_running}
use Rattle.pass.specs.Schedule.{with_run, mark_waited, begun, begin_run, leaves, leave_core, take_core, scheduled, switch_as}
use Rattle.passing.specs.Signal.{live_in}
use Rattle.passing.specs.Threads.{live-used, live-ok, live-widths, run-parts, runs-live, status-parts}
use Rattle.passing.specs.Picks.{can_run, Runs, running_runs, thread-f, runs_same}

-- ---- the current thread
not_dead : (s : ThreadStatus) (c : Option ℕ) (i : ℕ) → c ≡ Some i → RunOk s c i → is_dead s ≡ false
not_dead Dead c i e r = absurd (r e)
not_dead Running c i e r = refl
not_dead Ready c i e r = refl
not_dead Sleeping c i e r = refl
not_dead WaitSync c i e r = refl
not_dead WaitArbiter c i e r = refl
not_dead Dormant c i e r = refl

is-current : (s : ThreadStatus) (c : Option ℕ) (i : ℕ) → is_running s ≡ true → RunOk s c i → c ≡ Some i
is-current Dead c i e r = false-true e
is-current Running c i e r = r
is-current Ready c i e r = false-true e
is-current Sleeping c i e r = false-true e
is-current WaitSync c i e r = false-true e
is-current WaitArbiter c i e r = false-true e
is-current Dormant c i e r = false-true e

module _ (k : Kernel) (p : Parts k) where
  -- is not Dead
  pub current-live : (c : ℕ) → k.current_thread ≡ Some c → Live k.threads c
  current-live c e =
      let l : c < k.thread_count = subst (λ (x : Option ℕ). CurrentOk x k.thread_count) e p.threads.current in
      not_dead (thread_at k.threads c).status k.current_thread c e ((p.threads.each c (omega (arith, p.threads.many))).used l).run

  -- a Running thread is current
  pub running_current : (i : ℕ) → is_running (thread_at k.threads i).status ≡ true → k.current_thread ≡ Some i
  running_current i e =
      is-current (thread_at k.threads i).status k.current_thread i e
      (live-ok k p i (runs-live (thread_at k.threads i).status (running_runs (thread_at k.threads i).status e))).run

  -- so nobody runs if it does not
  pub nobody : ((c : ℕ) → k.current_thread ≡ Some c → is_running (thread_at k.threads c).status ≡ false) → (i : ℕ)
      → is_running (thread_at k.threads i).status ≡ false
  nobody h i = go (is_running (thread_at k.threads i).status) refl
    where
      go : (b : Bool) → is_running (thread_at k.threads i).status ≡ b → b ≡ false
      go true e = sym e ∙ h i (running_current i e)
      go false e = refl

  -- ---- who has run for how long
  mark_as : (c : Option ℕ) → k.current_thread ≡ c → Parts (with_threads k (mark_waited k.threads c) k.objects)
  mark_as None e = p
  mark_as (Some c) e =
      pick-both (λ (l : List Thread). Parts (with_threads k l k.objects)) (is_runnable (thread_at k.threads c).status) k.threads _ p
      (run-parts k p c (current-live c e) true (thread_at k.threads c).running_since.0 (live-widths k p c (current-live c e)).since)

  pub mark_parts : Parts (with_threads k (mark_waited k.threads k.current_thread) k.objects)
  mark_parts = mark_as k.current_thread refl

  pub begin-parts : (o : Option ℕ) → Runs k.threads o → (tick : ℕ) → tick < 256 ^ 8
      → Parts (with_threads k (begin_run k.threads o tick) k.objects)
  begin-parts None h tick f = p
  begin-parts (Some c) h tick f = go (thread_at k.threads c).waited
    where
      go : (b : Bool) → Parts (with_threads k (set k.threads c (pick b (with_run (thread_at k.threads c) false tick) (thread_at k.threads c))) k.objects)
      go true = run-parts k p c (runs-live (thread_at k.threads c).status h) false tick f
      go false = subst (λ (l : List Thread). Parts (with_threads k l k.objects)) (sym (set-get_or k.threads c no_thread)) p

  -- ---- the current thread leaves the core
  pub leave_parts : (c : Option ℕ) → Parts (with_threads k (leave_core k.threads c) k.objects)
  leave_parts None = p
  leave_parts (Some c) = go (is_running (thread_at k.threads c).status) refl
    where
      go : (b : Bool) → is_running (thread_at k.threads c).status ≡ b
          → Parts (with_threads k (set k.threads c (pick b (with_status (thread_at k.threads c) Ready) (thread_at k.threads c))) k.objects)
      go true e = status-parts k p c (running_runs (thread_at k.threads c).status e) Ready refl tt
      go false e = subst (λ (l : List Thread). Parts (with_threads k l k.objects)) (sym (set-get_or k.threads c no_thread)) p

  -- ---- another thread is current, with nobody Running or with what runs as before
  pub current-parts : (next : Option ℕ) (relief : Bool) → CurrentOk next k.thread_count
      → ((i : ℕ) → i < k.thread_count → RunOk (thread_at k.threads i).status next i) → Parts (scheduled k k.objects k.threads next relief)
  current-parts next relief c r = record {
    ob = p.ob;
    contents = p.contents;
    chains = p.chains;
    table = p.table;
    threads = record {
      many = p.threads.many;
      current = c;
      each = λ i l.
          let q = p.threads.each i l in
          record {
            used = λ u. let t = q.used u in record { priority = t.priority; run = r i u; list = t.list; only = t.only };
            unused = q.unused;
          };
    };
    tls = p.tls;
    store_fits = p.store_fits;
    table_fits = p.table_fits;
    nt = p.nt;
    threads_fit = p.threads_fit;
    status = p.status;
    thread_count = p.thread_count;
    current = word next c;
    next_tls = p.next_tls;
    next_guest = p.next_guest;
    clean = p.clean;
  }
    where
      word : (o : Option ℕ) → CurrentOk o k.thread_count → Word (option_value o)
      word None h = z4
      word (Some t) h = omega (arith, p.threads.many)

-- ---- nobody is Running after
left-ready : (t : Thread) → is_running (leaves t).status ≡ false
left-ready t = go (is_running t.status) refl
  where
    go : (b : Bool) → is_running t.status ≡ b → is_running (pick b (with_status t Ready) t).status ≡ false
    go true e = refl
    go false e = e

-- and who could run still can
left-runs : (t : Thread) → is_runnable (leaves t).status ≡ is_runnable t.status
left-runs t = go (is_running t.status) refl
  where
    go : (b : Bool) → is_running t.status ≡ b → is_runnable (pick b (with_status t Ready) t).status ≡ is_runnable t.status
    go true e = sym (running_runs t.status e)
    go false e = refl

pub leave_runs : (ts : List Thread) (c o : Option ℕ) → Runs ts o → Runs (leave_core ts c) o
leave_runs ts None o h = h
leave_runs ts (Some c) o h = runs_same ts (set ts c (leaves (thread_at ts c)))
    (λ i. thread-f (λ (x : Thread). is_runnable x.status) ts c (leaves (thread_at ts c)) i
    (left-runs (thread_at ts c))) o h

-- how long a thread has run is not asked
pub begin-runs : (ts : List Thread) (c : Option ℕ) (tick : ℕ) (o : Option ℕ) → Runs ts o → Runs (begin_run ts c tick) o
begin-runs ts None tick o h = h
begin-runs ts (Some c) tick o h =
    runs_same ts (set ts c (begun (thread_at ts c) tick))
    (λ i. thread-f (λ (x : Thread). is_runnable x.status) ts c (begun (thread_at ts c) tick) i
    (pick-both (λ (x : Thread). is_runnable x.status ≡ is_runnable (thread_at ts c).status) (thread_at ts c).waited (with_run (thread_at ts c) false tick) (thread_at ts c) refl refl)) o h

-- with nobody Running, whoever can run may be current
run-free : (s : ThreadStatus) (next : Option ℕ) (i : ℕ) → is_running s ≡ false → (next ≡ Some i → is_runnable s ≡ true)
    → RunOk s next i
run-free Dead next i e h = λ q. false-true (h q)
run-free Running next i e h = false-true (sym e)
run-free Ready next i e h = tt
run-free Sleeping next i e h = tt
run-free WaitSync next i e h = tt
run-free WaitArbiter next i e h = tt
run-free Dormant next i e h = tt

module _ (k : Kernel) (p : Parts k) (idle : (i : ℕ) → is_running (thread_at k.threads i).status ≡ false)
    (next : Option ℕ) (runs : Runs k.threads next) (relief : Bool) where
  pub idle_parts : Parts (scheduled k k.objects k.threads next relief)
  idle_parts = current-parts k p next relief (in_use next runs) (λ i l. run-free (thread_at k.threads i).status next i (idle i) (λ e. subst (Runs k.threads) e runs))
    where
      in_use : (o : Option ℕ) → Runs k.threads o → CurrentOk o k.thread_count
      in_use None h = tt
      in_use (Some i) h = live-used k p i (runs-live (thread_at k.threads i).status h)

-- ---- the current thread takes the core
pub take-parts : (k : Kernel) (p : Parts k) (n : ℕ) → k.current_thread ≡ Some n → can_run k.threads n ≡ true
    → Parts (with_threads k (take_core k.threads n) k.objects)
take-parts k p n e h = status-parts k p n h Running refl e

-- ---- the switch
module _ (k : Kernel) (s : ObjectStore) (ts : List Thread) (relief : Bool) (p : Parts (with_threads k ts s)) where
  abbrev here : Kernel
  here = with_threads k ts s

  -- nobody ran
  idle_none : k.current_thread ≡ None → (i : ℕ) → is_running (thread_at ts i).status ≡ false
  idle_none e = nobody here p (λ c q. let z : ◌≡◌ {A = ℕ} 0 1 = cc in absurd (omega arith))

  -- the current thread has left
  idle_left : (c : ℕ) → k.current_thread ≡ Some c → (i : ℕ)
      → is_running (thread_at (leave_core ts (Some c)) i).status ≡ false
  idle_left c e =
      nobody (with_threads k (leave_core ts (Some c)) s) (leave_parts here p (Some c))
      (λ j q.
      let same : c ≡ j = cc in
      subst (λ (i : ℕ). is_running (thread_at (leave_core ts (Some c)) i).status ≡ false) same
      (ap (λ (x : Thread). is_running x.status) (thread-same ts c (leaves (thread_at ts c)) (live_in ts c (current-live here p c e))) ∙ left-ready (thread_at ts c)))

  both : (c n : ℕ) → k.current_thread ≡ Some c → Runs ts (Some n) → (b : Bool) → eqb c n ≡ b
      → Parts (pick {A = Passed} b
      (record {
        kernel = scheduled k s (take_core ts n)
            (Some n) relief;
        saved = None;
        restored = None;
        switched = false;
      })
      (record {
        kernel = scheduled k s (take_core (leave_core ts (Some c)) n)
            (Some n) relief;
        saved = Some c;
        restored = Some n;
        switched = true;
      })).kernel
  both c n e h true q =
      let x : k.current_thread ≡ Some n = e ∙ ap Some (eqb-true c n q) in
      take-parts (scheduled k s ts (Some n) relief)
      (current-parts here p (Some n) relief (live-used here p n (runs-live (thread_at ts n).status h))
      (λ i l. subst (λ (o : Option ℕ). RunOk (thread_at ts i).status o i) x
      ((p.threads.each i (omega (arith, p.threads.many))).used l).run)) n refl h
  both c n e h false q =
      let l : List Thread = leave_core ts (Some c) in
      let r : Runs l (Some n) = leave_runs ts (Some c) (Some n) h in
      take-parts (scheduled k s l (Some n) relief)
      (idle_parts (with_threads k l s) (leave_parts here p (Some c)) (idle_left c e) (Some n) r relief) n refl r

  switch-as : (c next : Option ℕ) → k.current_thread ≡ c → Runs ts next → Parts (switch_as k s ts relief c next).kernel
  switch-as None None e h = idle_parts here p (idle_none e) None tt relief
  switch-as (Some c) None e h = idle_parts (with_threads k (leave_core ts (Some c)) s) (leave_parts here p (Some c))
      (idle_left c e) None tt relief
  switch-as None (Some n) e h = take-parts (scheduled k s ts (Some n) relief)
      (idle_parts here p (idle_none e) (Some n) h relief) n refl h
  switch-as (Some c) (Some n) e h = both c n e h (eqb c n) refl

  pub switch_parts : (next : Option ℕ) → Runs ts next → Parts (switch_as k s ts relief k.current_thread next).kernel
  switch_parts next h = switch-as k.current_thread next refl h

-- objects are no part of it
pub switch_objects : (k : Kernel) (s : ObjectStore) (ts : List Thread) (relief : Bool) (c next : Option ℕ)
    → (switch_as k s ts relief c next).kernel.objects ≡ s
switch_objects k s ts relief None None = refl
switch_objects k s ts relief (Some c) None = refl
switch_objects k s ts relief None (Some n) = refl
switch_objects k s ts relief (Some c) (Some n) = pick-both (λ (x : Passed). x.kernel.objects ≡ s)
    (eqb c n) _ _ refl refl
