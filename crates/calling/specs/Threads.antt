-- The calls on threads keep a state sound.
use Rattle.units.specs.declared.Ticks.{Ticks}
use Rattle.std.specs.Prelude.{◌≡◌, refl, true, false, List, ℕ, ◌<◌, eqb, leb, length, Option, Some, None}
use Rattle.std.proofs.Math.Path.{ap}
use Rattle.std.proofs.Common.{sym, ◌∙◌, inl, inr, arith}
use borrow.Author.Tests.{leb-false}
use Rattle.laws.specs.Logic.{or-false}
use Rattle.types.specs.declared.thread.Thread as th
use Rattle.types.specs.declared.object.KObject.{KObject}
use Rattle.types.specs.declared.object.KObject.TheVariants.{Free, Thread, Event, Mutex, Semaphore, Timer, AddressArbiter, Process, ResourceLimit}
use Rattle.types.specs.declared.object.ObjectStore.{ObjectStore}
use Rattle.types.specs.declared.kernel.Kernel.{Kernel}
use Rattle.types.specs.Thread.{is_dead}
use Rattle.sound.specs.View.{object_at, thread_at}
use Rattle.sound.specs.Threads.{CurrentOk}
use Rattle.sound.specs.Objects.{names, kept_at, Live, ContentOk}
use Rattle.sound.specs.Sound.{Sound}
use Rattle.object.specs.Handles as table
use Rattle.object.specs.Kept.{thread_object}
use Rattle.thread.specs.Thread.{new_thread}
use Rattle.thread.specs.Threads as thread
use Rattle.soundness.specs.Kept.{Found, thread_object-ok}
use Rattle.soundness.specs.Records.{chains-same}
use Rattle.soundness.specs.Each.{each-thread_object}
use Rattle.soundness.specs.Fits.{thread_object-fits}
use Rattle.soundness.specs.Slots.{pick-both}
use Rattle.soundness.specs.Threads.{thread-same}
use Rattle.soundness.specs.Whole.{Parts, sound-parts, parts-sound}
use Rattle.soundness.specs.Creates.{create_thread-parts}
use Rattle.soundness.proofs.Ends.{end_thread-sound}
use Rattle.passing.specs.Alike.{store-parts}
use Rattle.passing.specs.Threads.{live-used, run-parts}
use Rattle.passing.specs.Picks.{Runs, running_runs}
use Rattle.passing.specs.Priority.{set_priority-sound}
use Rattle.passing.specs.Sleeps.{runs_unlisted, sleep_current-parts}
use Rattle.passing.specs.Switch.{current-live}
use Rattle.svc.specs.declared.Registers.{Registers}
use Rattle.svc.specs.Call.{with_objects, pair}
use Rattle.svc.specs.Threads.{thread_handle, create_thread, exit_as, exit_thread, sleep_ticks, runs_since, sleep_for, sleep_thread, thread_named, resolve_thread, set_priority_as, set_thread_priority}
use Rattle.svc.specs.Dispatch.{runs_as, runs?}
use Rattle.calling.specs.Resolves.{thread_object-overflow}
use Rattle.calling.specs.Call.{RegistersFit, Clear, Accepted}
use Rattle.calling.specs.Handles.{create-full, handle_parts}

-- ---- the object of a thread in use
module _ (k : Kernel) (p : Parts k) (t : ℕ) (l : t < k.thread_count) (e : (thread_object k.objects t).full ≡ false) where
  thread-found : Found k.objects (names k.handles k.threads) (thread_object k.objects t) (kept_at (thread_object k.objects t) t) × (0 < kept_at (thread_object k.objects t) t)
  thread-found = thread_object-ok k.objects (names k.handles k.threads) t (omega (arith, p.threads.many)) (λ q. p.ob) e

  pub thread_object-parts : Parts (with_objects k (thread_object k.objects t))
  thread_object-parts =
      store-parts k (thread_object k.objects t)
      (record {
        ob = thread-found.0.ok;
        contents = each-thread_object (ContentOk k.thread_count k.threads) k.objects t l p.contents;
        chains = chains-same k.thread_count k.objects (thread_object k.objects t) thread-found.0.same p.chains;
        fits = thread_object-fits k.objects p.store_fits t (omega (arith, p.threads.many));
        full = e;
        overflow = thread_object-overflow k.objects t ∙ p.clean.3;
      }) p

-- ---- `thread_handle`
module _ (k : Kernel) (p : Parts k) (t : ℕ) (l : t < k.thread_count) where
  thread_handle-parts : Clear (thread_handle k t).kernel → Parts (thread_handle k t).kernel
  thread_handle-parts c =
      let s : ObjectStore = thread_object k.objects t in
      let e : s.full ≡ false = sym (create-full k.handles s (kept_at s t)) ∙ c.store_full in
      let f = thread-found k p t l e in
      handle_parts (with_objects k s) (thread_object-parts k p t l e) (kept_at s t) f.1 (f.0.known f.1) c

-- ---- `create_thread`
-- the new thread is not Dead, so its place is in use
module _ (k : Kernel) (entry stack priority processor : ℕ) (nt : length k.threads ≡ 32) (f : (thread.create_thread k entry stack priority processor).full ≡ false) where
  new-live : Live (thread.create_thread k entry stack priority processor).threads (thread.ended_thread k)
  unfolding thread.create_thread
  new-live =
      let l : thread.ended_thread k < 32 = leb-false 32 (thread.ended_thread k) (or-false k.full (leb 32 (thread.ended_thread k)) f).1 in
      ap (λ (x : th.Thread). is_dead x.status)
      (thread-same k.threads (thread.ended_thread k) (new_thread entry stack (thread.least priority 63) processor (thread.tls_slot k) k.next_guest_id) (omega arith))

pub create_thread-sound : (k : Kernel) (r : Registers) → RegistersFit r → Sound k → Clear (create_thread k r).kernel → Sound (create_thread k r).kernel
unfolding create_thread
create_thread-sound k r w s c =
    let p : Parts k = sound-parts k s in
    let j : Kernel = thread.create_thread k r.r1 r.r3 r.r0 r.r4 in
    let q : Parts j = create_thread-parts k r.r1 r.r3 r.r0 r.r4 p w.r1 w.r3 w.r4 c.full c.overflow in
    parts-sound _ (thread_handle-parts j q (thread.ended_thread k) (live-used j q (thread.ended_thread k) (new-live k r.r1 r.r3 r.r0 r.r4 p.nt c.full)) c)

pub create_thread-answers : (k : Kernel) (r : Registers) → Accepted (create_thread k r).answer
unfolding create_thread
create_thread-answers k r = inl refl

-- ---- `exit_thread`
exit-as : (c : Option ℕ) (k : Kernel) → CurrentOk c k.thread_count → Sound k → Sound (exit_as c k).kernel
exit-as None k l s = s
exit-as (Some c) k l s = end_thread-sound k c l s

pub exit_thread-sound : (k : Kernel) → Sound k → Sound (exit_thread k).kernel
unfolding exit_thread
exit_thread-sound k s = exit-as k.current_thread k s.threads.current s

exit_accepted : (c : Option ℕ) (k : Kernel) → Accepted (exit_as c k).answer
exit_accepted None k = inl refl
exit_accepted (Some c) k = inl refl

pub exit_thread-answers : (k : Kernel) → Accepted (exit_thread k).answer
unfolding exit_thread
exit_thread-answers k = exit_accepted k.current_thread k

-- ---- `sleep_thread`
-- a current thread that runs can run
runs_as_lem : (k : Kernel) (c : Option ℕ) → runs_as c k.threads ≡ true → Runs k.threads c
runs_as_lem k None e = tt
runs_as_lem k (Some c) e = running_runs (thread_at k.threads c).status e

pub runs-current : (k : Kernel) → runs? k ≡ true → Runs k.threads k.current_thread
unfolding runs?
runs-current k e = runs_as_lem k k.current_thread e

since_as : (k : Kernel) (p : Parts k) (c : Option ℕ) (tick : ℕ) → k.current_thread ≡ c → tick < 18446744073709551616
    → Parts (runs_since c k tick)
since_as k p None tick e w = p
since_as k p (Some c) tick e w = run-parts k p c (current-live k p c e) (thread_at k.threads c).waited tick w

sleep-as : (k : Kernel) (p : Parts k) (d : Option Ticks) (tick : ℕ) → runs? k ≡ true → tick < 18446744073709551616
    → Parts (sleep_for d k tick)
sleep-as k p None tick e w = since_as k p k.current_thread tick refl w
sleep-as k p (Some d) tick e w = sleep_current-parts k p d.0 tick
    (runs_unlisted k p k.current_thread (runs-current k e))

pub sleep_thread-sound : (k : Kernel) (r : Registers) (tick : ℕ) → tick < 18446744073709551616 → Sound k → runs? k ≡ true → Sound (sleep_thread k r tick).kernel
unfolding sleep_thread
sleep_thread-sound k r tick w s e = parts-sound _ (sleep-as k (sound-parts k s) (sleep_ticks k (pair r.r0 r.r1) tick) tick e w)

pub sleep_thread-answers : (k : Kernel) (r : Registers) (tick : ℕ) → Accepted (sleep_thread k r tick).answer
unfolding sleep_thread
sleep_thread-answers k r tick = inl refl

-- ---- `set_thread_priority`
-- a thread that an object names exists
named_in : (n : ℕ) (ts : List th.Thread) (x : KObject) → ContentOk n ts x → CurrentOk (thread_named x) n
named_in n ts (Free m) c = tt
named_in n ts (Thread t) c = c
named_in n ts (Event e) c = tt
named_in n ts (Mutex m) c = tt
named_in n ts (Semaphore s) c = tt
named_in n ts (Timer t) c = tt
named_in n ts (AddressArbiter a) c = tt
named_in n ts Process c = tt
named_in n ts ResourceLimit c = tt

thread-in : (k : Kernel) (h : ℕ) → Sound k → CurrentOk (resolve_thread k h) k.thread_count
thread-in k h s =
    pick-both (λ (o : Option ℕ). CurrentOk o k.thread_count) (eqb h 0xFFFF8000) k.current_thread
    (thread_named (object_at k.objects (table.object_of k.handles h))) s.threads.current
    (named_in k.thread_count k.threads (object_at k.objects (table.object_of k.handles h)) (s.contents (table.object_of k.handles h)))

priority_as : (o : Option ℕ) (k : Kernel) (p : ℕ) → CurrentOk o k.thread_count → Sound k
    → Sound (set_priority_as o k p).kernel
priority_as None k p l s = s
priority_as (Some t) k p l s = set_priority-sound k t p l s

pub set_thread_priority-sound : (k : Kernel) (r : Registers) → Sound k → Sound (set_thread_priority k r).kernel
unfolding set_thread_priority
set_thread_priority-sound k r s = priority_as (resolve_thread k r.r0) k r.r1 (thread-in k r.r0 s) s

priority-accepted : (o : Option ℕ) (k : Kernel) (p : ℕ) → Accepted (set_priority_as o k p).answer
priority-accepted None k p = inr (omega arith, omega arith)
priority-accepted (Some t) k p = inl refl

pub set_thread_priority-answers : (k : Kernel) (r : Registers) → Accepted (set_thread_priority k r).answer
unfolding set_thread_priority
set_thread_priority-answers k r = priority-accepted (resolve_thread k r.r0) k r.r1
