-- Objects that are alike: what a signal, a timer that fires and a wait that takes an object change of it.
use Rattle.units.specs.declared.Ticks.{Ticks}
use Rattle.std.specs.Prelude.{◌≡◌, refl, Bool, true, false, List, ℕ, ◌+◌, ◌^◌, ◌<◌, ltb, Option}
use Rattle.std.proofs.Common.{arith, ltb-true}
use Rattle.laws.specs.Logic.{pick}
use Rattle.types.specs.declared.thread.Thread as th
use Rattle.types.specs.declared.sync.Event as ev
use Rattle.types.specs.declared.sync.Mutex as mu
use Rattle.types.specs.declared.sync.Semaphore as se
use Rattle.types.specs.declared.sync.Timer as ti
use Rattle.types.specs.declared.object.KObject.{KObject}
use Rattle.types.specs.declared.object.KObject.TheVariants.{Free, Thread, Event, Mutex, Semaphore, Timer, AddressArbiter, Process, ResourceLimit}
use Rattle.types.specs.Thread.{tick_value}
use Rattle.codec.proofs.Fit.{flag-fits}
use Rattle.block.proofs.Enums.{option-flag-fits}
use Rattle.sound.specs.Objects.{Live}
use Rattle.soundness.specs.Fits.{Word, KeepsFit}
use Rattle.pass.specs.Signal.{stays_set, acquired, cleared_event, quieted}
use Rattle.pass.specs.Timers.{lost_object}
use Rattle.passing.specs.Alike.{Like, like-same}

module _ (n : ℕ) (ts : List th.Thread) where
  -- ---- signals
  pub event-like : (e : ev.Event) (b : Bool) → Like n ts (Event e) (Event (record { reset_type = e.reset_type; signaled = b }))
  event-like e b = record { shape = refl; content = λ c. c; fits = λ f. record { kind = f.kind; a = f.a; b = flag-fits b; c = f.c; x = f.x; y = f.y } }

  -- with a time that fits its field
  pub timer_like : (t : ti.Timer) (b : Bool) (at : Option Ticks) → (KeepsFit (Timer t) → tick_value at < 256 ^ 8)
      → Like n ts (Timer t) (Timer (record { reset_type = t.reset_type; signaled = b; fire_at = at; interval = t.interval }))
  timer_like t b at h = record {
    shape = refl;
    content = λ c. c;
    fits = λ f. record { kind = f.kind; a = f.a; b = flag-fits b; c = option-flag-fits at; x = h f; y = f.y };
  }

  pub quiet-like : (x : KObject) → Like n ts x (quieted x)
  quiet-like (Free m) = like-same n ts (Free m)
  quiet-like (Thread u) = like-same n ts (Thread u)
  quiet-like (Event e) = event-like e false
  quiet-like (Mutex m) = like-same n ts (Mutex m)
  quiet-like (Semaphore s) = like-same n ts (Semaphore s)
  quiet-like (Timer t) = timer_like t false t.fire_at (λ f. f.x)
  quiet-like (AddressArbiter a) = like-same n ts (AddressArbiter a)
  quiet-like Process = like-same n ts Process
  quiet-like ResourceLimit = like-same n ts ResourceLimit

  pub lost_like : (x : KObject) → Like n ts x (lost_object x)
  lost_like (Free m) = like-same n ts (Free m)
  lost_like (Thread u) = like-same n ts (Thread u)
  lost_like (Event e) = like-same n ts (Event e)
  lost_like (Mutex m) = like-same n ts (Mutex m)
  lost_like (Semaphore s) = like-same n ts (Semaphore s)
  lost_like (Timer t) = timer_like t false t.fire_at (λ f. f.x)
  lost_like (AddressArbiter a) = like-same n ts (AddressArbiter a)
  lost_like Process = like-same n ts Process
  lost_like ResourceLimit = like-same n ts ResourceLimit

  pub cleared-like : (x : KObject) → Like n ts x (cleared_event x)
  cleared-like (Free m) = like-same n ts (Free m)
  cleared-like (Thread u) = like-same n ts (Thread u)
  cleared-like (Event e) = event-like e false
  cleared-like (Mutex m) = like-same n ts (Mutex m)
  cleared-like (Semaphore s) = like-same n ts (Semaphore s)
  cleared-like (Timer t) = like-same n ts (Timer t)
  cleared-like (AddressArbiter a) = like-same n ts (AddressArbiter a)
  cleared-like Process = like-same n ts Process
  cleared-like ResourceLimit = like-same n ts ResourceLimit

  -- ---- what a thread takes: a mutex gets an owner that is not Dead
  module _ (w : ℕ) (live : Live ts w) (small : Word w) where
    more : (m : ℕ) (q : Bool) → ltb m 4294967295 ≡ q → Word m → Word (pick q (m + 1) m)
    more m true e f = omega (arith, ltb-true m 4294967295 e)
    more m false e f = f

    mutex_like : (m : mu.Mutex) → Like n ts (Mutex m) (acquired (Mutex m) w)
    mutex_like m = record {
      shape = refl;
      content = λ c. live;
      fits = λ f. record { kind = f.kind; a = omega arith; b = small; c = more m.lock_count (ltb m.lock_count 4294967295) refl f.c; x = f.x; y = f.y };
    }

    semaphore_like : (s : se.Semaphore) → Like n ts (Semaphore s) (acquired (Semaphore s) w)
    semaphore_like s = record { shape = refl; content = λ c. c; fits = λ f. record { kind = f.kind; a = omega arith; b = f.b; c = f.c; x = f.x; y = f.y } }

    pub acquired-like : (x : KObject) → Like n ts x (acquired x w)
    acquired-like (Free m) = like-same n ts (Free m)
    acquired-like (Thread u) = like-same n ts (Thread u)
    acquired-like (Event e) = event-like e (stays_set e.reset_type e.signaled)
    acquired-like (Mutex m) = mutex_like m
    acquired-like (Semaphore s) = semaphore_like s
    acquired-like (Timer t) = timer_like t (stays_set t.reset_type t.signaled) t.fire_at (λ f. f.x)
    acquired-like (AddressArbiter a) = like-same n ts (AddressArbiter a)
    acquired-like Process = like-same n ts Process
    acquired-like ResourceLimit = like-same n ts ResourceLimit
