-- A sound state is its parts, widths among them: what a primitive takes and what it gives back.
use Rattle.std.specs.Prelude.{◌≡◌, refl, ℕ, ◌+◌, ◌^◌, ◌≤◌, ◌<◌, ◌*◌, length}
use Rattle.std.proofs.Common.{arith}
use Rattle.laws.specs.All.{All}
use Rattle.laws.specs.Count.{count, count_all}
use Rattle.types.specs.declared.kernel.Kernel.{Kernel}
use Rattle.types.specs.Thread.{option_value}
use Rattle.types.specs.Thread.{wait_list}
use Rattle.codec.proofs.Fit.{flag-fits}
use Rattle.block.proofs.Enums.{option-flag-fits}
use Rattle.block.proofs.Fits.{ThreadFits, Clean, StateFits}
use Rattle.sound.specs.View.{handled, lists}
use Rattle.sound.specs.Threads.{ThreadsOk}
use Rattle.sound.specs.Tls.{TlsOk}
use Rattle.sound.specs.Objects.{names, kept_names, ContentOk, Each}
use Rattle.sound.specs.Sound.{Sound}
use Rattle.soundness.specs.Objects.{ObOk}
use Rattle.soundness.specs.Handles.{TableOk}
use Rattle.soundness.specs.Records.{ChainsOk, records-of}
use Rattle.soundness.specs.Names.{names_bound}
use Rattle.soundness.specs.Fits.{Word, StoreFits, TableFits}

pub record Parts (k : Kernel) : Type 0 where
  -- objects and handles
  pub ob : ObOk k.objects (names k.handles k.threads)
  pub contents : Each (ContentOk k.thread_count k.threads) k.objects
  pub chains : ChainsOk k.thread_count k.objects
  pub table : TableOk k.handles
  -- threads
  pub threads : ThreadsOk k.thread_count k.current_thread k.threads
  pub tls : TlsOk k.threads k.next_tls_slot
  -- widths
  pub store_fits : StoreFits k.objects
  pub table_fits : TableFits k.handles
  pub nt : length k.threads ≡ 32
  pub threads_fit : All ThreadFits k.threads
  pub status : Word k.status_word
  pub thread_count : Word k.thread_count
  pub current : Word (option_value k.current_thread)
  pub next_tls : Word k.next_tls_slot
  pub next_guest : Word k.next_guest_id
  -- nothing was found
  pub clean : Clean k

pub sound-parts : (k : Kernel) → Sound k → Parts k
sound-parts k s =
    let f = s.fits in
    let h = f.head in
    let c = h.1.1.1.1.1.1.1.1 in
    record {
      ob = record { counts = s.counts; kept = s.kept; chained = s.records.chained; blanks = s.records.blanks; ns = f.ns; nw = f.nw; ni = f.ni };
      contents = s.contents;
      chains = s.records.chains;
      table = record { rising = s.handles; ne = f.ne };
      threads = s.threads;
      tls = s.tls;
      store_fits = record { slots = f.slots; free = c.0; waiters = f.waiters; free_waiter = c.1.0; ids = f.thread_objects; process = c.1.1.1.1.0 };
      table_fits = record { entries = f.entries; count = c.1.1.0; next = c.1.1.1.0 };
      nt = f.nt;
      threads_fit = f.threads;
      status = h.0;
      thread_count = h.1.0;
      current = h.1.1.1.0;
      next_tls = h.1.1.1.1.0;
      next_guest = h.1.1.1.1.1.0;
      clean = f.clean;
    }

parts_fit : (k : Kernel) → Parts k → StateFits k
parts_fit k p =
    let z : 0 < 256 ^ 4 = omega arith in
    record {
      head = (
        p.status,
        (
          p.thread_count,
          (
            option-flag-fits k.current_thread,
            (
              p.current,
              (
                p.next_tls,
                (
                  p.next_guest,
                  (
                    flag-fits k.all_blocked,
                    (
                      flag-fits k.relief,
                      (p.store_fits.free, (p.store_fits.free_waiter, (p.table_fits.count, (p.table_fits.next, (p.store_fits.process, (z, (z, (z, tt)))))))),
                    ),
                  ),
                ),
              ),
            ),
          ),
        ),
      );
      nt = p.nt;
      threads = p.threads_fit;
      ns = p.ob.ns;
      slots = p.store_fits.slots;
      ne = p.table.ne;
      entries = p.table_fits.entries;
      nw = p.ob.nw;
      waiters = p.store_fits.waiters;
      ni = p.ob.ni;
      thread_objects = p.store_fits.ids;
      clean = p.clean;
    }

pub parts-sound : (k : Kernel) → Parts k → Sound k
parts-sound k p = record {
  fits = parts_fit k p;
  threads = p.threads;
  tls = p.tls;
  handles = p.table.rising;
  counts = p.ob.counts;
  kept = p.ob.kept;
  contents = p.contents;
  records = records-of k.thread_count k.objects (names k.handles k.threads) p.ob p.chains;
}

-- the names apart: those of handles, those of lists
pub names_of : (k : Kernel) (i : ℕ) → names k.handles k.threads i ≡ count i (handled k.handles.entries) + count_all i (lists k.threads)
unfolding names
names_of k i = refl

-- in a sound state no count comes near the guard of `add_ref`
pub few-names : (k : Kernel) → Parts k → (o : ℕ) → names k.handles k.threads o + kept_names k.objects o ≤ 289 + 32 * wait_list
few-names k p o = names_bound k.handles k.threads k.objects o p.table.ne p.nt p.threads_fit p.ob.ni
