-- A wait that is over leaves a sound state: the list goes, the thread is Ready with a result.
use Rattle.std.specs.Prelude.{◌≡◌, refl, List, ℕ, set, Option}
use Rattle.std.proofs.Common.{ap, sym, subst, ◌∙◌, set-set}
use Rattle.laws.specs.Count.{count}
use Rattle.types.specs.declared.thread.ThreadStatus.TheVariants.{Ready}
use Rattle.types.specs.declared.thread.WaitResult.{WaitResult}
use Rattle.types.specs.declared.thread.Thread.{Thread}
use Rattle.types.specs.declared.object.ObjectStore.{ObjectStore}
use Rattle.types.specs.declared.kernel.Kernel.{Kernel}
use Rattle.types.specs.Thread.{is_dead, result_index}
use Rattle.sound.specs.View.{ids, thread_at}
use Rattle.sound.specs.Objects.{Live}
use Rattle.thread.specs.Thread.{clear_wait, with_status, with_result}
use Rattle.thread.specs.Threads.{with_threads, release_waits, end_wait}
use Rattle.soundness.specs.Fits.{Word, no-objects}
use Rattle.soundness.specs.Threads.{thread-same}
use Rattle.soundness.specs.Whole.{Parts}
use Rattle.soundness.proofs.Ends.{end_wait-parts}
use Rattle.pass.specs.declared.Waits.{Waits}
use Rattle.pass.specs.Waits.{awake}
use Rattle.passing.specs.Signal.{live_in}
use Rattle.passing.specs.Widths.{Widths}
use Rattle.passing.specs.Threads.{live-used, live-ok, live-widths, Turned, thread-parts}

-- the state whose objects and threads are those of the tries
abbrev pub during : Kernel → Waits → Kernel
during k w = with_threads k w.threads w.objects

-- ---- the wait is over
module _ (k : Kernel) (t : ℕ) (live : Live k.threads t) (r : Option WaitResult) (small : Word (result_index r))
    (p : Parts k) where
  abbrev old : Thread
  old = thread_at k.threads t

  abbrev woken : Thread
  woken = with_status (with_result (clear_wait old) r old.wait_syscall) Ready

  -- first the list goes, then the status and the result change
  ended : Parts (with_threads k (set k.threads t (clear_wait old)) (release_waits k.objects k.threads t))
  unfolding end_wait
  ended = end_wait-parts k t (live-used k p t live) p

  stands : thread_at (set k.threads t (clear_wait old)) t ≡ clear_wait old
  stands = thread-same k.threads t (clear_wait old) (live_in k.threads t live)

  still : Live (set k.threads t (clear_wait old)) t
  still = ap (λ (x : Thread). is_dead x.status) stands ∙ live

  turned : Turned k.current_thread t (thread_at (set k.threads t (clear_wait old)) t) woken
  turned =
      let u = live-ok k p t live in
      let w : Widths (clear_wait old) = subst Widths stands (live-widths (with_threads k (set k.threads t (clear_wait old)) (release_waits k.objects k.threads t)) ended t still) in
      record {
        ok = record { priority = u.priority; run = tt; list = no-objects; only = refl };
        live = refl;
        tls = ap (λ (x : Thread). x.tls) (sym stands);
        widths = record { own = w.own; wait = w.wait; index = small; since = w.since };
      }

  pub woken-parts : Parts (with_threads k (set k.threads t woken) (release_waits k.objects k.threads t))
  woken-parts =
      let s : ObjectStore = release_waits k.objects k.threads t in
      subst (λ (l : List Thread). Parts (with_threads k l s)) (set-set k.threads t (clear_wait old) woken)
      (thread-parts (with_threads k (set k.threads t (clear_wait old)) s) ended t still woken turned (λ o z. ap (λ (x : Thread). count o (ids x.wait_objects)) (sym stands)))

pub awake-parts : (k : Kernel) (w : Waits) (t : ℕ) (r : Option WaitResult) → Live w.threads t → Word (result_index r)
    → Parts (during k w) → Parts (during k (awake w t r))
awake-parts k w t r live small p = woken-parts (during k w) t live r small p
