-- The calls on timers keep a state sound. Each of the three that name a timer first fires what came due.
use Rattle.std.specs.Prelude.{◌≡◌, refl, false, List, ℕ, ◌^◌, ◌<◌, None}
use Rattle.std.proofs.Common.{sym, ◌∙◌, inl, arith}
use Rattle.units.specs.Ticks.{nanos_to_ticks}
use Rattle.types.specs.declared.thread.Thread as th
use Rattle.types.specs.declared.sync.Timer as ti
use Rattle.types.specs.declared.object.KObject.{KObject}
use Rattle.types.specs.declared.object.KObject.TheVariants.{Free, Thread, Event, Mutex, Semaphore, Timer, AddressArbiter, Process, ResourceLimit}
use Rattle.types.specs.declared.kernel.Kernel.{Kernel}
use Rattle.types.specs.Sync.{reset_from_raw}
use Rattle.block.proofs.Enums.{reset_fits}
use Rattle.sound.specs.View.{object_at}
use Rattle.sound.specs.Sound.{Sound}
use Rattle.object.specs.Slots.{content}
use Rattle.soundness.specs.Slots.{pick-both}
use Rattle.soundness.specs.Fits.{Word, z4, z8}
use Rattle.soundness.specs.Whole.{Parts, sound-parts, parts-sound}
use Rattle.pass.specs.Timers.{lost_object}
use Rattle.passing.specs.Alike.{Like, like-same}
use Rattle.passing.specs.Objects.{timer_like, lost_like}
use Rattle.passing.specs.Timers.{saturating_fits, catch_up_timers-parts}
use Rattle.svc.specs.declared.Registers.{Registers}
use Rattle.svc.specs.declared.Served.{Served}
use Rattle.svc.specs.Call.{done, with_objects, pair, negative, resolved}
use Rattle.svc.specs.Timers.{create_timer, caught_up, not_below, set_to, set_timer_as, set_timer, cancelled, cancel_timer, clear_timer}
use Rattle.calling.specs.Resolves.{resolve-overflow, resolved-parts}
use Rattle.calling.specs.Call.{RegistersFit, Clear, Accepted, NewOk, create_object-sound, create_object-answers, Keeps, refused, content-parts}

-- ---- `create_timer`
timer_new : (k : Kernel) (raw : ℕ)
    → NewOk k (Timer (record {
      reset_type = reset_from_raw raw;
      signaled = false;
      fire_at = None;
      interval = record { 0 = 0 };
    }))
timer_new k raw = record { kind = omega arith; head = refl; content = tt; fits = record { kind = omega arith; a = reset_fits (reset_from_raw raw); b = z4; c = z4; x = z8; y = z8 } }

pub create_timer-sound : (k : Kernel) (r : Registers) → Sound k → Clear (create_timer k r).kernel → Sound (create_timer k r).kernel
unfolding create_timer
create_timer-sound k r s c = create_object-sound k _ (timer_new k r.r1) s c

pub create_timer-answers : (k : Kernel) (r : Registers) → Accepted (create_timer k r).answer
unfolding create_timer
create_timer-answers k r = create_object-answers k
    (Timer (record { reset_type = reset_from_raw r.r1; signaled = false; fire_at = None; interval = record { 0 = 0 } }))

-- ---- after timers fired and the handle h was resolved
pub caught-parts : (k : Kernel) (tick : ℕ) → (caught_up k tick).objects.overflow ≡ false → Parts k → Parts (caught_up k tick)
caught-parts k tick e p = catch_up_timers-parts k p k.threads tick e

pub caught-sound : (k : Kernel) (tick h : ℕ) (v : Served) → Keeps (with_objects (caught_up k tick) (resolved (caught_up k tick) h).store) v → Sound k → Clear v.kernel → Sound v.kernel
caught-sound k tick h v d s c =
    let j : Kernel = caught_up k tick in
    let e : j.objects.overflow ≡ false = sym (resolve-overflow j.current_thread j.handles j.objects h) ∙ (sym d.overflow ∙ c.store_overflow) in
    parts-sound v.kernel (d.parts (resolved-parts j (caught-parts k tick e (sound-parts k s)) h (sym d.full ∙ c.store_full)) c)

-- ---- `set_timer`
pub pair_fits : (low high : ℕ) → Word low → Word high → pair low high < 256 ^ 8
pair_fits low high a b = omega arith

-- a tick is longer than a nanosecond
pub ticks_fit : (n : ℕ) → n < 256 ^ 8 → (nanos_to_ticks (record { 0 = n })).0 < 256 ^ 8
ticks_fit n f = omega arith

not-below-fits : (n : ℕ) → n < 256 ^ 8 → not_below n < 256 ^ 8
not-below-fits n f = pick-both (λ (m : ℕ). m < 256 ^ 8) (negative n) 0 n z8 f

set-like : (n : ℕ) (ts : List th.Thread) (t : ti.Timer) (initial interval tick : ℕ) → interval < 256 ^ 8 → Like n ts (Timer t) (Timer (set_to t initial interval tick))
set-like n ts t initial interval tick w = record {
  shape = refl;
  content = λ c. c;
  fits = λ f. record { kind = f.kind; a = f.a; b = z4; c = omega arith; x = saturating_fits tick (nanos_to_ticks (record { 0 = initial })).0; y = ticks_fit interval w };
}

setTimer-as : (x : KObject) (k : Kernel) (o a b tick : ℕ) → b < 256 ^ 8 → object_at k.objects o ≡ x → Keeps k (set_timer_as x k o a b tick)
unfolding content
setTimer-as (Free n) k o a b tick w e = refused k
setTimer-as (Thread t) k o a b tick w e = refused k
setTimer-as (Event v) k o a b tick w e = refused k
setTimer-as (Mutex m) k o a b tick w e = refused k
setTimer-as (Semaphore s) k o a b tick w e = refused k
setTimer-as (Timer t) k o a b tick w e = record {
  parts = λ p c. content-parts k p o (Timer t) (Timer (set_to t a b tick)) e (set-like k.thread_count k.threads t a b tick w);
  full = refl;
  overflow = refl;
  accepted = inl refl;
}
setTimer-as (AddressArbiter x) k o a b tick w e = refused k
setTimer-as Process k o a b tick w e = refused k
setTimer-as ResourceLimit k o a b tick w e = refused k

set_timer-keeps : (k : Kernel) (r : Registers) (tick : ℕ) → RegistersFit r → Keeps (with_objects (caught_up k tick) (resolved (caught_up k tick) r.r0).store) (set_timer k r tick)
unfolding set_timer
set_timer-keeps k r tick f =
    let j : Kernel = caught_up k tick in
    setTimer-as _ (with_objects j (resolved j r.r0).store) (resolved j r.r0).object.0 (not_below (pair r.r2 r.r3)) (not_below (pair r.r1 r.r4)) tick
    (not-below-fits (pair r.r1 r.r4) (pair_fits r.r1 r.r4 f.r1 f.r4)) refl

pub set_timer-sound : (k : Kernel) (r : Registers) (tick : ℕ) → RegistersFit r → Sound k → Clear (set_timer k r tick).kernel → Sound (set_timer k r tick).kernel
set_timer-sound k r tick f s c = caught-sound k tick r.r0 (set_timer k r tick) (set_timer-keeps k r tick f) s c

-- whatever the registers are
set_timer-accepted : (x : KObject) (k : Kernel) (o a b tick : ℕ) → Accepted (set_timer_as x k o a b tick).answer
set_timer-accepted (Free n) k o a b tick = (refused k).accepted
set_timer-accepted (Thread t) k o a b tick = (refused k).accepted
set_timer-accepted (Event v) k o a b tick = (refused k).accepted
set_timer-accepted (Mutex m) k o a b tick = (refused k).accepted
set_timer-accepted (Semaphore s) k o a b tick = (refused k).accepted
set_timer-accepted (Timer t) k o a b tick = inl refl
set_timer-accepted (AddressArbiter x) k o a b tick = (refused k).accepted
set_timer-accepted Process k o a b tick = (refused k).accepted
set_timer-accepted ResourceLimit k o a b tick = (refused k).accepted

pub set_timer-answers : (k : Kernel) (r : Registers) (tick : ℕ) → Accepted (set_timer k r tick).answer
unfolding set_timer
set_timer-answers k r tick =
    let j : Kernel = caught_up k tick in
    set_timer-accepted (object_at (resolved j r.r0).store (resolved j r.r0).object.0) (with_objects j (resolved j r.r0).store) (resolved j r.r0).object.0 (not_below (pair r.r2 r.r3))
    (not_below (pair r.r1 r.r4)) tick

-- ---- `cancel_timer` and `clear_timer`
cancelled-like : (n : ℕ) (ts : List th.Thread) (x : KObject) → Like n ts x (cancelled x)
cancelled-like n ts (Free m) = like-same n ts (Free m)
cancelled-like n ts (Thread t) = like-same n ts (Thread t)
cancelled-like n ts (Event e) = like-same n ts (Event e)
cancelled-like n ts (Mutex m) = like-same n ts (Mutex m)
cancelled-like n ts (Semaphore s) = like-same n ts (Semaphore s)
cancelled-like n ts (Timer t) = timer_like n ts t t.signaled None (λ f. z8)
cancelled-like n ts (AddressArbiter a) = like-same n ts (AddressArbiter a)
cancelled-like n ts Process = like-same n ts Process
cancelled-like n ts ResourceLimit = like-same n ts ResourceLimit

-- one object anew, alike, and done
like-keeps : (k : Kernel) (o : ℕ) (y : KObject) → Like k.thread_count k.threads (object_at k.objects o) y → Keeps k (done (with_objects k (content k.objects o y)))
unfolding content
like-keeps k o y l = record { parts = λ p c. content-parts k p o (object_at k.objects o) y refl l; full = refl; overflow = refl; accepted = inl refl }

cancel_timer-keeps : (k : Kernel) (r : Registers) (tick : ℕ) → Keeps (with_objects (caught_up k tick) (resolved (caught_up k tick) r.r0).store) (cancel_timer k r tick)
unfolding cancel_timer
cancel_timer-keeps k r tick =
    let j : Kernel = with_objects (caught_up k tick) (resolved (caught_up k tick) r.r0).store in
    let o : ℕ = (resolved (caught_up k tick) r.r0).object.0 in
    like-keeps j o (cancelled (object_at j.objects o)) (cancelled-like k.thread_count k.threads (object_at j.objects o))

pub cancel_timer-sound : (k : Kernel) (r : Registers) (tick : ℕ) → Sound k → Clear (cancel_timer k r tick).kernel → Sound (cancel_timer k r tick).kernel
cancel_timer-sound k r tick s c = caught-sound k tick r.r0 (cancel_timer k r tick) (cancel_timer-keeps k r tick) s c

pub cancel_timer-answers : (k : Kernel) (r : Registers) (tick : ℕ) → Accepted (cancel_timer k r tick).answer
cancel_timer-answers k r tick = (cancel_timer-keeps k r tick).accepted

clear_timer-keeps : (k : Kernel) (r : Registers) (tick : ℕ) → Keeps (with_objects (caught_up k tick) (resolved (caught_up k tick) r.r0).store) (clear_timer k r tick)
unfolding clear_timer
clear_timer-keeps k r tick =
    let j : Kernel = with_objects (caught_up k tick) (resolved (caught_up k tick) r.r0).store in
    let o : ℕ = (resolved (caught_up k tick) r.r0).object.0 in
    like-keeps j o (lost_object (object_at j.objects o)) (lost_like k.thread_count k.threads (object_at j.objects o))

pub clear_timer-sound : (k : Kernel) (r : Registers) (tick : ℕ) → Sound k → Clear (clear_timer k r tick).kernel → Sound (clear_timer k r tick).kernel
clear_timer-sound k r tick s c = caught-sound k tick r.r0 (clear_timer k r tick) (clear_timer-keeps k r tick) s c

pub clear_timer-answers : (k : Kernel) (r : Registers) (tick : ℕ) → Accepted (clear_timer k r tick).answer
clear_timer-answers k r tick = (clear_timer-keeps k r tick).accepted
