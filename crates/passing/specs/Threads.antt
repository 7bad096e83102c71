-- A thread's place anew: what it must be for the state to stay sound.
use Rattle.std.specs.Prelude.{◌≡◌, refl, Bool, true, false, ℕ, ◌^◌, ◌<◌, length, set, Option}
use Rattle.std.proofs.Common.{sym, subst, ◌∙◌, inl, inr, arith, length-set}
use Rattle.laws.specs.Logic.{lt-cases, false-true}
use Rattle.laws.specs.All.{all_set}
use Rattle.laws.specs.Count.{count}
use Rattle.types.specs.declared.thread.ThreadStatus.{ThreadStatus}
use Rattle.types.specs.declared.thread.ThreadStatus.TheVariants.{Dead, Running, Ready, Sleeping, WaitSync, WaitArbiter, Dormant}
use Rattle.types.specs.declared.thread.Thread.{Thread}
use Rattle.types.specs.declared.object.ObjectStore.{ObjectStore}
use Rattle.types.specs.declared.kernel.Kernel.{Kernel}
use Rattle.types.specs.Thread.{is_dead}
use Rattle.block.proofs.Fits.{ThreadFits}
use Rattle.sound.specs.View.{ids, thread_at}
use Rattle.sound.specs.Threads.{Only, RunOk, ThreadOk}
use Rattle.sound.specs.Objects.{names, Live}
use Rattle.thread.specs.Thread.{with_status}
use Rattle.thread.specs.Threads.{with_threads}
use Rattle.soundness.specs.Waits.{names-set}
use Rattle.soundness.specs.Tls.{tls-same}
use Rattle.soundness.specs.Threads.{threads-set}
use Rattle.soundness.specs.Whole.{Parts}
use Rattle.soundness.specs.Creates.{StoreOk, parts-store, store-more, blank-dead}
use Rattle.soundness.proofs.Ends.{only_none, fits-at, live_same}
use Rattle.pass.specs.Pick.{is_runnable}
use Rattle.pass.specs.Schedule.{with_run}
use Rattle.passing.specs.Signal.{live_in}
use Rattle.passing.specs.Widths.{Widths, widths-of, fits-of}

-- ---- a thread that is not Dead
module _ (k : Kernel) (p : Parts k) (i : ℕ) (live : Live k.threads i) where
  -- has a place, and it is in use
  pub live-place : i < 32
  live-place = omega (arith, live_in k.threads i live, p.nt)

  pub live-used : i < k.thread_count
  live-used =
      elim (lt-cases i k.thread_count) [
        | inl l ↦ l
        | inr l ↦ false-true (sym live ∙ blank-dead (thread_at k.threads i) ((p.threads.each i live-place).unused l))
      ]

  pub live-ok : ThreadOk k.current_thread i (thread_at k.threads i)
  live-ok = (p.threads.each i live-place).used live-used

  pub live-widths : Widths (thread_at k.threads i)
  live-widths = widths-of (thread_at k.threads i) (fits-at k.threads i (live_in k.threads i live) p.threads_fit)

-- ---- a thread v in the place i, where a thread that is not Dead stood
pub record Turned (c : Option ℕ) (i : ℕ) (old v : Thread) : Type 0 where
  pub ok : ThreadOk c i v
  pub live : is_dead v.status ≡ false
  pub tls : v.tls ≡ old.tls
  pub widths : Widths v

module _ (k : Kernel) (p : Parts k) (i : ℕ) (live : Live k.threads i) (v : Thread) (h : Turned k.current_thread i (thread_at k.threads i) v) where
  in_list : i < length k.threads
  in_list = live_in k.threads i live

  dead-same : is_dead v.status ≡ is_dead (thread_at k.threads i).status
  dead-same = h.live ∙ sym live

  -- with a store that suits it
  pub place-parts : (s : ObjectStore) → StoreOk k.thread_count (set k.threads i v) (names k.handles (set k.threads i v)) s → Parts (with_threads k (set k.threads i v) s)
  place-parts s o =
      let n : ℕ = k.thread_count in
      let c : (Option ℕ) = k.current_thread in
      let l : i < n = live-used k p i live in
      record {
        ob = o.ob;
        contents = o.contents;
        chains = o.chains;
        table = p.table;
        threads = threads-set n n c c k.threads i v p.nt (live-place k p i live) p.threads.many p.threads.current
            (record { used = λ q. h.ok; unused = λ q. absurd (omega arith) }) (record { run = λ j e s r. r; used = λ j e q. q; unused = λ j e q. q }) p.threads;
        tls = tls-same k.threads k.next_tls_slot i v in_list dead-same h.tls p.tls;
        store_fits = o.fits;
        table_fits = p.table_fits;
        nt = length-set k.threads i v ∙ p.nt;
        threads_fit = all_set ThreadFits k.threads i (fits-of v h.widths) p.threads_fit;
        status = p.status;
        thread_count = p.thread_count;
        current = p.current;
        next_tls = p.next_tls;
        next_guest = p.next_guest;
        clean = (p.clean.0, p.clean.1, o.full, o.overflow, p.clean.4, p.clean.5);
      }

  pub live-after : (t : ℕ) → Live k.threads t → Live (set k.threads i v) t
  live-after t = live_same k.threads i v in_list dead-same t

  -- with the store as it is: the list names what it named
  pub thread-parts : ((o : ℕ) → 0 < o → count o (ids v.wait_objects) ≡ count o (ids (thread_at k.threads i).wait_objects)) → Parts (with_threads k (set k.threads i v) k.objects)
  thread-parts e =
      place-parts k.objects
      (store-more k.thread_count k.thread_count k.threads (set k.threads i v) (names k.handles k.threads) (names k.handles (set k.threads i v)) k.objects (omega arith) live-after
      (λ o z. omega (arith, names-set k.handles k.threads i v in_list o, e o z)) (parts-store k p))

-- ---- how long it has run
module _ (k : Kernel) (p : Parts k) (i : ℕ) (live : Live k.threads i) where
  pub run-parts : (waited : Bool) (since : ℕ) → since < 256 ^ 8 → Parts (with_threads k (set k.threads i (with_run (thread_at k.threads i) waited since)) k.objects)
  run-parts waited since f =
      let u = live-ok k p i live in
      let w = live-widths k p i live in
      thread-parts k p i live (with_run (thread_at k.threads i) waited since)
      (record {
        ok = record { priority = u.priority; run = u.run; list = u.list; only = u.only };
        live = live;
        tls = refl;
        widths = record { own = w.own; wait = w.wait; index = w.index; since = f };
      }) (λ o z. refl)

-- ---- a runnable thread in another status
pub runs-live : (s : ThreadStatus) → is_runnable s ≡ true → is_dead s ≡ false
runs-live Dead e = sym e
runs-live Running e = refl
runs-live Ready e = refl
runs-live Sleeping e = refl
runs-live WaitSync e = refl
runs-live WaitArbiter e = refl
runs-live Dormant e = refl

-- has no list
pub runs_none : (s : ThreadStatus) (n : ℕ) → is_runnable s ≡ true → Only s n → n ≡ 0
runs_none Dead n e o = o
runs_none Running n e o = o
runs_none Ready n e o = o
runs_none Sleeping n e o = o
runs_none WaitSync n e o = false-true e
runs_none WaitArbiter n e o = o
runs_none Dormant n e o = o

module _ (k : Kernel) (p : Parts k) (i : ℕ) (runs : is_runnable (thread_at k.threads i).status ≡ true) where
  pub status-parts : (x : ThreadStatus) → is_dead x ≡ false → RunOk x k.current_thread i → Parts (with_threads k (set k.threads i (with_status (thread_at k.threads i) x)) k.objects)
  status-parts x a r =
      let live : Live k.threads i = runs-live (thread_at k.threads i).status runs in
      let u = live-ok k p i live in
      let w = live-widths k p i live in
      thread-parts k p i live (with_status (thread_at k.threads i) x)
      (record {
        ok = record {
          priority = u.priority;
          run = r;
          list = u.list;
          only = subst (Only x) (sym (runs_none (thread_at k.threads i).status (thread_at k.threads i).wait_count runs u.only)) (only_none x);
        };
        live = a;
        tls = refl;
        widths = record { own = w.own; wait = w.wait; index = w.index; since = w.since };
      }) (λ o z. refl)
