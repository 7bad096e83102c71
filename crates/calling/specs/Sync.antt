-- The calls on mutexes, semaphores and events keep a state sound.
use Rattle.std.specs.Prelude.{◌≡◌, refl, Bool, true, false, not, List, ℕ, ◌-◌, eqb, ltb, Option, Some, None}
use Rattle.std.proofs.Common.{inl, arith}
use Rattle.laws.specs.Logic.{◌or◌}
use Rattle.types.specs.declared.thread.Thread as th
use Rattle.types.specs.declared.sync.Mutex as mu
use Rattle.types.specs.declared.sync.Semaphore as se
use Rattle.types.specs.declared.object.KObject.{KObject}
use Rattle.types.specs.declared.object.KObject.TheVariants.{Free, Thread, Event, Mutex, Semaphore, Timer, AddressArbiter, Process, ResourceLimit}
use Rattle.types.specs.declared.kernel.Kernel.{Kernel}
use Rattle.types.specs.Thread.{option_value}
use Rattle.types.specs.Sync.{reset_from_raw}
use Rattle.block.proofs.Enums.{option-flag-fits, reset_fits}
use Rattle.sound.specs.View.{object_at}
use Rattle.sound.specs.Objects.{OwnerOk}
use Rattle.sound.specs.Sound.{Sound}
use Rattle.object.specs.Slots.{content}
use Rattle.soundness.specs.Slots.{pick-both}
use Rattle.soundness.specs.Fits.{Word, z4, z8}
use Rattle.soundness.specs.Whole.{Parts, sound-parts}
use Rattle.pass.specs.Signal as pass
use Rattle.passing.specs.Alike.{Like}
use Rattle.passing.specs.Signal.{signal_event-parts, clear_event-parts}
use Rattle.passing.specs.Switch.{current-live}
use Rattle.svc.specs.declared.Registers.{Registers}
use Rattle.svc.specs.Call.{done, with_objects, with_over, resolved}
use Rattle.svc.specs.Sync.{new_mutex, create_mutex, unlocked, release_mutex_as, release_mutex, create_semaphore, word_sum, biased, sum_over, released_semaphore, release_semaphore_as, release_semaphore, create_event, signal_event, clear_event}
use Rattle.calling.specs.Call.{RegistersFit, Clear, Accepted, NewOk, create_object-sound, create_object-answers, Keeps, refused, content-parts, resolved-sound}

-- ---- `create_mutex`
module _ (k : Kernel) (p : Parts k) where
  owner-ok : (c : Option ℕ) → k.current_thread ≡ c → OwnerOk k.threads c
  owner-ok None e = tt
  owner-ok (Some t) e = current-live k p t e

  mutex_new : (locked : Bool) → NewOk k (Mutex (new_mutex k.current_thread locked))
  mutex_new true = record {
    kind = omega arith;
    head = refl;
    content = owner-ok k.current_thread refl;
    fits = record {
      kind = omega arith;
      a = option-flag-fits k.current_thread;
      b = p.current;
      c = omega arith;
      x = z8;
      y = z8;
    };
  }
  mutex_new false = record { kind = omega arith; head = refl; content = tt; fits = record { kind = omega arith; a = z4; b = z4; c = z4; x = z8; y = z8 } }

pub create_mutex-sound : (k : Kernel) (r : Registers) → Sound k → Clear (create_mutex k r).kernel → Sound (create_mutex k r).kernel
unfolding create_mutex
create_mutex-sound k r s c = create_object-sound k _ (mutex_new k (sound-parts k s) (not (eqb r.r1 0))) s c

pub create_mutex-answers : (k : Kernel) (r : Registers) → Accepted (create_mutex k r).answer
unfolding create_mutex
create_mutex-answers k r = create_object-answers k (Mutex (new_mutex k.current_thread (not (eqb r.r1 0))))

-- ---- `release_mutex`
module _ (n : ℕ) (ts : List th.Thread) where
  unlocked-like : (m : mu.Mutex) → Like n ts (Mutex m) (Mutex (unlocked m))
  unlocked-like m = record {
    shape = refl;
    content = λ c. pick-both (OwnerOk ts) (eqb (m.lock_count - 1) 0) None m.owner tt c;
    fits = λ f. record {
      kind = f.kind;
      a = option-flag-fits (unlocked m).owner;
      b = pick-both (λ (o : Option ℕ). Word (option_value o)) (eqb (m.lock_count - 1) 0) None m.owner z4 f.b;
      c = omega (arith, f.c);
      x = f.x;
      y = f.y;
    };
  }

releaseMutex-as : (x : KObject) (k : Kernel) (o : ℕ) → object_at k.objects o ≡ x → Keeps k (release_mutex_as x k o)
unfolding content
releaseMutex-as (Free n) k o e = refused k
releaseMutex-as (Thread t) k o e = refused k
releaseMutex-as (Event v) k o e = refused k
releaseMutex-as (Mutex m) k o e = record {
  parts = λ p c. content-parts k p o (Mutex m) (Mutex (unlocked m)) e (unlocked-like k.thread_count k.threads m);
  full = refl;
  overflow = refl;
  accepted = inl refl;
}
releaseMutex-as (Semaphore s) k o e = refused k
releaseMutex-as (Timer t) k o e = refused k
releaseMutex-as (AddressArbiter a) k o e = refused k
releaseMutex-as Process k o e = refused k
releaseMutex-as ResourceLimit k o e = refused k

release_mutex-keeps : (k : Kernel) (r : Registers) → Keeps (with_objects k (resolved k r.r0).store) (release_mutex k r)
unfolding release_mutex
release_mutex-keeps k r = releaseMutex-as _ (with_objects k (resolved k r.r0).store) (resolved k r.r0).object.0 refl

pub release_mutex-sound : (k : Kernel) (r : Registers) → Sound k → Clear (release_mutex k r).kernel → Sound (release_mutex k r).kernel
release_mutex-sound k r s c = resolved-sound k r.r0 (release_mutex k r) (release_mutex-keeps k r) s c

pub release_mutex-answers : (k : Kernel) (r : Registers) → Accepted (release_mutex k r).answer
release_mutex-answers k r = (release_mutex-keeps k r).accepted

-- ---- `create_semaphore`
semaphore_new : (k : Kernel) (count most : ℕ) → Word count → Word most → NewOk k (Semaphore (record { count = count; max_count = most }))
semaphore_new k count most a b = record { kind = omega arith; head = refl; content = tt; fits = record { kind = omega arith; a = a; b = b; c = z4; x = z8; y = z8 } }

pub create_semaphore-sound : (k : Kernel) (r : Registers) → RegistersFit r → Sound k → Clear (create_semaphore k r).kernel → Sound (create_semaphore k r).kernel
unfolding create_semaphore
create_semaphore-sound k r f s c = create_object-sound k _ (semaphore_new k r.r1 r.r2 f.r1 f.r2) s c

pub create_semaphore-answers : (k : Kernel) (r : Registers) → Accepted (create_semaphore k r).answer
unfolding create_semaphore
create_semaphore-answers k r = create_object-answers k (Semaphore (record { count = r.r1; max_count = r.r2 }))

-- ---- `release_semaphore`
-- the sum that does not fit is found
pub over-parts : (k : Kernel) (b : Bool) → b ≡ false → Parts k → Parts (with_over k b)
over-parts k b e p = record {
  ob = p.ob;
  contents = p.contents;
  chains = p.chains;
  table = p.table;
  threads = p.threads;
  tls = p.tls;
  store_fits = p.store_fits;
  table_fits = p.table_fits;
  nt = p.nt;
  threads_fit = p.threads_fit;
  status = p.status;
  thread_count = p.thread_count;
  current = p.current;
  next_tls = p.next_tls;
  next_guest = p.next_guest;
  clean = (p.clean.0, e, p.clean.2, p.clean.3, p.clean.4, p.clean.5);
}

-- a sum cut to a word is one
module _ (n : ℕ) (ts : List th.Thread) where
  released-like : (s : se.Semaphore) (m : ℕ) → Like n ts (Semaphore s) (Semaphore (released_semaphore s m))
  released-like s m = record {
    shape = refl;
    content = λ c. c;
    fits = λ f. record {
      kind = f.kind;
      a = pick-both Word (ltb (biased (word_sum s.count m)) (biased s.max_count)) (word_sum s.count m) s.max_count (omega arith) f.b;
      b = f.b;
      c = f.c;
      x = f.x;
      y = f.y;
    };
  }

releaseSemaphore-as : (x : KObject) (k : Kernel) (o m : ℕ) → object_at k.objects o ≡ x → Keeps k (release_semaphore_as x k o m)
unfolding content
releaseSemaphore-as (Free n) k o m e = refused k
releaseSemaphore-as (Thread t) k o m e = refused k
releaseSemaphore-as (Event v) k o m e = refused k
releaseSemaphore-as (Mutex x) k o m e = refused k
releaseSemaphore-as (Semaphore s) k o m e = record {
  parts = λ p c.
      over-parts (with_objects k (content k.objects o (Semaphore (released_semaphore s m)))) (k.overflow or sum_over s.count m) c.overflow
      (content-parts k p o (Semaphore s) (Semaphore (released_semaphore s m)) e (released-like k.thread_count k.threads s m));
  full = refl;
  overflow = refl;
  accepted = inl refl;
}
releaseSemaphore-as (Timer t) k o m e = refused k
releaseSemaphore-as (AddressArbiter a) k o m e = refused k
releaseSemaphore-as Process k o m e = refused k
releaseSemaphore-as ResourceLimit k o m e = refused k

release_semaphore-keeps : (k : Kernel) (r : Registers) → Keeps (with_objects k (resolved k r.r1).store) (release_semaphore k r)
unfolding release_semaphore
release_semaphore-keeps k r = releaseSemaphore-as _ (with_objects k (resolved k r.r1).store) (resolved k r.r1).object.0 r.r2 refl

pub release_semaphore-sound : (k : Kernel) (r : Registers) → Sound k → Clear (release_semaphore k r).kernel → Sound (release_semaphore k r).kernel
release_semaphore-sound k r s c = resolved-sound k r.r1 (release_semaphore k r) (release_semaphore-keeps k r) s c

pub release_semaphore-answers : (k : Kernel) (r : Registers) → Accepted (release_semaphore k r).answer
release_semaphore-answers k r = (release_semaphore-keeps k r).accepted

-- ---- `create_event`
event-new : (k : Kernel) (raw : ℕ) → NewOk k (Event (record { reset_type = reset_from_raw raw; signaled = false }))
event-new k raw = record { kind = omega arith; head = refl; content = tt; fits = record { kind = omega arith; a = reset_fits (reset_from_raw raw); b = z4; c = z4; x = z8; y = z8 } }

pub create_event-sound : (k : Kernel) (r : Registers) → Sound k → Clear (create_event k r).kernel → Sound (create_event k r).kernel
unfolding create_event
create_event-sound k r s c = create_object-sound k _ (event-new k r.r1) s c

pub create_event-answers : (k : Kernel) (r : Registers) → Accepted (create_event k r).answer
unfolding create_event
create_event-answers k r = create_object-answers k (Event (record { reset_type = reset_from_raw r.r1; signaled = false }))

-- ---- `signal_event` and `clear_event`
signal-keeps : (k : Kernel) (ws : List th.Thread) (o : ℕ) → Keeps k (done (with_objects k (pass.signal_event k.objects ws o)))
unfolding pass.signal_event
signal-keeps k ws o = record { parts = λ p c. signal_event-parts k p ws o; full = refl; overflow = refl; accepted = inl refl }

signal_event-keeps : (k : Kernel) (r : Registers) → Keeps (with_objects k (resolved k r.r0).store) (signal_event k r)
unfolding signal_event
signal_event-keeps k r =
    let j : Kernel = with_objects k (resolved k r.r0).store in
    pick-both (Keeps j) (eqb (resolved k r.r0).object.0 0) _ _ (refused j) (signal-keeps j k.threads (resolved k r.r0).object.0)

pub signal_event-sound : (k : Kernel) (r : Registers) → Sound k → Clear (signal_event k r).kernel → Sound (signal_event k r).kernel
signal_event-sound k r s c = resolved-sound k r.r0 (signal_event k r) (signal_event-keeps k r) s c

pub signal_event-answers : (k : Kernel) (r : Registers) → Accepted (signal_event k r).answer
signal_event-answers k r = (signal_event-keeps k r).accepted

clear-keeps : (k : Kernel) (o : ℕ) → Keeps k (done (with_objects k (pass.clear_event k.objects o)))
unfolding pass.clear_event content
clear-keeps k o = record { parts = λ p c. clear_event-parts k p o; full = refl; overflow = refl; accepted = inl refl }

clear_event-keeps : (k : Kernel) (r : Registers) → Keeps (with_objects k (resolved k r.r0).store) (clear_event k r)
unfolding clear_event
clear_event-keeps k r =
    let j : Kernel = with_objects k (resolved k r.r0).store in
    pick-both (Keeps j) (eqb (resolved k r.r0).object.0 0) _ _ (refused j) (clear-keeps j (resolved k r.r0).object.0)

pub clear_event-sound : (k : Kernel) (r : Registers) → Sound k → Clear (clear_event k r).kernel → Sound (clear_event k r).kernel
clear_event-sound k r s c = resolved-sound k r.r0 (clear_event k r) (clear_event-keeps k r) s c

pub clear_event-answers : (k : Kernel) (r : Registers) → Accepted (clear_event k r).answer
clear_event-answers k r = (clear_event-keeps k r).accepted
