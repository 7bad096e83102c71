-- Another priority leaves a sound state, of an ended thread too. A place that is not in use must stay all zero, so the place is one in use.
use Rattle.std.proofs.Math.Path.{refl}
use Rattle.std.proofs.Common.{◌∙◌, arith, Option}
use Prim.Native.Nat.{ℕ, ◌<◌}
use Rattle.std.specs.Prelude.{length, set}
use Rattle.std.proofs.Math.ListN.{length-set}
use Rattle.laws.specs.All.{all_set}
use Rattle.types.specs.declared.thread.Thread.{Thread}
use Rattle.types.specs.declared.kernel.Kernel.{Kernel}
use Rattle.block.proofs.Fits.{ThreadFits}
use Rattle.sound.specs.View.{thread_at}
use Rattle.sound.specs.Objects.{names}
use Rattle.sound.specs.Sound.{Sound}
use Rattle.thread.specs.Thread.{with_priority}
use Rattle.thread.specs.Threads.{least, set_priority}
use Rattle.thread.specs.Marks.{least-le}
use Rattle.soundness.specs.Waits.{names-set}
use Rattle.soundness.specs.Tls.{tls-same}
use Rattle.soundness.specs.Threads.{threads-set}
use Rattle.soundness.specs.Whole.{Parts, sound-parts, parts-sound}
use Rattle.soundness.specs.Creates.{StoreOk, parts-store, store-more}
use Rattle.soundness.proofs.Ends.{fits-at, live_same}
use Rattle.passing.specs.Widths.{Widths, widths-of, fits-of}

module _ (k : Kernel) (t : ℕ) (l : t < k.thread_count) (p : ℕ) (h : Parts k) where
  abbrev old : Thread
  old = thread_at k.threads t

  abbrev new : Thread
  new = with_priority old (least p 63)

  in_table : t < 32
  in_table = omega (arith, h.threads.many)

  in_list : t < length k.threads
  in_list = omega (arith, in_table, h.nt)

  fits : ThreadFits new
  fits =
      let w : Widths old = widths-of old (fits-at k.threads t in_list h.threads_fit) in
      let o = w.own in
      fits-of new
      (record {
        own = record { priority = omega (arith, least-le p 63); entry = o.entry; stack = o.stack; tls = o.tls; processor = o.processor; guest = o.guest };
        wait = w.wait;
        index = w.index;
        since = w.since;
      })

  -- no list changes
  store : StoreOk k.thread_count (set k.threads t new) (names k.handles (set k.threads t new)) k.objects
  store =
      store-more k.thread_count k.thread_count k.threads (set k.threads t new) (names k.handles k.threads) (names k.handles (set k.threads t new)) k.objects (omega arith)
      (live_same k.threads t new in_list refl) (λ o z. omega (arith, names-set k.handles k.threads t new in_list o)) (parts-store k h)

  pub set_priority-parts : Parts (set_priority k t p)
  unfolding set_priority
  set_priority-parts =
      let n : ℕ = k.thread_count in
      let c : (Option ℕ) = k.current_thread in
      let u = (h.threads.each t in_table).used l in
      record {
        ob = store.ob;
        contents = store.contents;
        chains = store.chains;
        table = h.table;
        threads = threads-set n n c c k.threads t new h.nt in_table h.threads.many h.threads.current
            (record { used = λ q. record { priority = least-le p 63; run = u.run; list = u.list; only = u.only }; unused = λ q. absurd (omega arith) })
            (record { run = λ j e s r. r; used = λ j e q. q; unused = λ j e q. q }) h.threads;
        tls = tls-same k.threads k.next_tls_slot t new in_list refl refl h.tls;
        store_fits = store.fits;
        table_fits = h.table_fits;
        nt = length-set k.threads t new ∙ h.nt;
        threads_fit = all_set ThreadFits k.threads t fits h.threads_fit;
        status = h.status;
        thread_count = h.thread_count;
        current = h.current;
        next_tls = h.next_tls;
        next_guest = h.next_guest;
        clean = h.clean;
      }

pub set_priority-sound : (k : Kernel) (t p : ℕ) → t < k.thread_count → Sound k → Sound (set_priority k t p)
set_priority-sound k t p l s = parts-sound (set_priority k t p) (set_priority-parts k t l p (sound-parts k s))
