-- The calls that name a timer: what they find, and what they leave once the handle is open. Assumes nothing.
use mathlib.Core.Path.{◌≡◌, refl, sym, ap, ◌∙◌}
use mathlib.Core.Bool.{Bool, true, false, true≢false}
use mathlib.Core.List.{List}
use Rattle.std.proofs.lemmas.Grind.{common_steps}
use Prim.Native.Nat.{ℕ}
use Rattle.types.specs.declared.object.KObject.{KObject}
use Rattle.types.specs.declared.object.KObject.TheVariants.{Free, Thread, Event, Mutex, Semaphore, Timer, AddressArbiter, Process, ResourceLimit}
use Rattle.types.specs.declared.sync.Timer as ti
use Rattle.types.specs.declared.object.Slot.{Slot}
use Rattle.types.specs.declared.kernel.Kernel.{Kernel}
use Rattle.types.specs.Tests.{timer?}
use Rattle.block.specs.Block.{dec_block}
use Rattle.sound.specs.View.{slot_at, object_at}
use Rattle.sound.specs.Question.{sound?}
use Rattle.object.specs.Slots.{content, with_object}
use Rattle.pass.specs.Timers.{lost_object}
use Rattle.svc.specs.declared.Registers.{Registers}
use Rattle.svc.specs.Call.{done, answers, with_objects, pair, resolved}
use Rattle.svc.specs.Timers.{caught_up, not_below, set_to, set_timer_as, set_timer, cancelled, cancel_timer, clear_timer}
use Rattle.lent.specs.Operations.{finding}
use Rattle.rows.specs.Rows.{slot_put}
use Rattle.rows.specs.Holds.{Holds, holds}
use Rattle.outcome.specs.Outcome.{answered, accepted}
use Rattle.objects.proofs.Changed.{content-finding, put-content}
use Rattle.timer_calls.specs.Kinds.{timer_of}
use Rattle.timer_calls.specs.Named.{set_opened, changed, change_caught}

-- ---- an object of another kind, and one of the kind
timer_other : (x : KObject) (k : Kernel) (o a b tick : ℕ) → timer? x ≡ false → answers 16 k ≡ set_timer_as x k o a b tick
timer_other (Free n) k o a b tick h = refl
timer_other (Thread t) k o a b tick h = refl
timer_other (Event e) k o a b tick h = refl
timer_other (Mutex m) k o a b tick h = refl
timer_other (Semaphore s) k o a b tick h = refl
timer_other (Timer t) k o a b tick h = absurd (true≢false h)
timer_other (AddressArbiter x) k o a b tick h = refl
timer_other Process k o a b tick h = refl
timer_other ResourceLimit k o a b tick h = refl

timer_one : (x : KObject) (k : Kernel) (o a b tick : ℕ) → timer? x ≡ true → done (with_objects k (content k.objects o (Timer (set_to (timer_of x) a b tick)))) ≡ set_timer_as x k o a b tick
timer_one (Free n) k o a b tick h = absurd (true≢false (sym h))
timer_one (Thread t) k o a b tick h = absurd (true≢false (sym h))
timer_one (Event e) k o a b tick h = absurd (true≢false (sym h))
timer_one (Mutex m) k o a b tick h = absurd (true≢false (sym h))
timer_one (Semaphore s) k o a b tick h = absurd (true≢false (sym h))
timer_one (Timer t) k o a b tick h = refl
timer_one (AddressArbiter x) k o a b tick h = absurd (true≢false (sym h))
timer_one Process k o a b tick h = absurd (true≢false (sym h))
timer_one ResourceLimit k o a b tick h = absurd (true≢false (sym h))

-- ---- what is found is what opening the handle found
set-finding : (x : KObject) (k : Kernel) (o a b tick : ℕ) → finding (set_timer_as x k o a b tick).kernel ≡ finding k
set-finding (Free n) k o a b tick = refl
set-finding (Thread t) k o a b tick = refl
set-finding (Event e) k o a b tick = refl
set-finding (Mutex m) k o a b tick = refl
set-finding (Semaphore s) k o a b tick = refl
set-finding (Timer t) k o a b tick = content-finding k o _
set-finding (AddressArbiter x) k o a b tick = refl
set-finding Process k o a b tick = refl
set-finding ResourceLimit k o a b tick = refl

module _ (k : Kernel) (r : Registers) (tick : ℕ) where
  -- the state after the timers and the handle
  abbrev opened : Kernel
  opened = with_objects (caught_up k tick) (resolved (caught_up k tick) r.r0).store

  abbrev object : ℕ
  object = (resolved (caught_up k tick) r.r0).object.0

  pub set_timer-finding : finding (set_timer k r tick).kernel ≡ finding opened
  unfolding set_timer
  set_timer-finding = set-finding (object_at opened.objects object) opened object (not_below (pair r.r2 r.r3)) (not_below (pair r.r1 r.r4)) tick

  pub change_caught-finding : (f : KObject → KObject) → finding (change_caught f k r tick).kernel ≡ finding opened
  unfolding change_caught
  change_caught-finding f = content-finding opened object _

  pub cancel_is : change_caught cancelled k r tick ≡ cancel_timer k r tick
  unfolding cancel_timer change_caught
  cancel_is = refl

  pub clear_is : change_caught lost_object k r tick ≡ clear_timer k r tick
  unfolding clear_timer change_caught
  clear_is = refl

  -- ---- the call from the opened state q on
  module _ (q : Kernel) (e : q ≡ opened) (o : ℕ) (f : o ≡ object) where
    pub set_is : set_opened q o r tick ≡ set_timer k r tick
    unfolding set_timer
    set_is = λ i. set_opened (e i) (f i) r tick

    pub changed_is : (g : KObject → KObject) → done (changed g q o) ≡ change_caught g k r tick
    unfolding change_caught
    changed_is g = λ i. done (changed g (e i) (f i))

-- ---- in the block; x is the slot of the object o
module _ (b : List ℕ) (s : sound? b ≡ true) (o : ℕ) (x : Slot) (ex : x ≡ slot_at (dec_block b).objects.slots o) where
  abbrev j : Kernel
  j = dec_block b

  same_object : x.object ≡ object_at j.objects o
  same_object = ap (λ (y : Slot). y.object) ex

  pub put-changed : (f : KObject → KObject) (y : KObject) → y ≡ f x.object → Holds (slot_put b o (with_object x y)) (changed f j o)
  put-changed f y e = rw (e ∙ ap f same_object) (put-content (holds b s) o x (f (object_at j.objects o)) ex)

  module _ (n : Bool) (en : n ≡ timer? x.object) (r : Registers) (tick : ℕ) where
    pub set_other : n ≡ false → (answered 16 ≡ accepted (set_opened j o r tick)) × Holds b (set_opened j o r tick).kernel
    set_other z =
        let e : answers 16 j ≡ set_opened j o r tick = timer_other (object_at j.objects o) j o _ _ tick (sym (ap timer? same_object) ∙ sym en ∙ z) in
        (ap accepted e, rw (← e) (holds b s))

    pub set-one : n ≡ true → (t : ti.Timer) → t ≡ set_to (timer_of x.object) (not_below (pair r.r2 r.r3)) (not_below (pair r.r1 r.r4)) tick
        → (answered 0 ≡ accepted (set_opened j o r tick)) × Holds (slot_put b o (with_object x (Timer t))) (set_opened j o r tick).kernel
    set-one z t et =
        let u : t ≡ set_to (timer_of (object_at j.objects o)) (not_below (pair r.r2 r.r3)) (not_below (pair r.r1 r.r4)) tick = et ∙ ap (λ (y : KObject). set_to (timer_of y) (not_below (pair r.r2 r.r3)) (not_below (pair r.r1 r.r4)) tick) same_object in
        let e : done (with_objects j (content j.objects o (Timer t))) ≡ set_opened j o r tick =
        ap (λ (y : ti.Timer). done (with_objects j (content j.objects o (Timer y)))) u ∙ timer_one (object_at j.objects o) j o (not_below (pair r.r2 r.r3)) (not_below (pair r.r1 r.r4)) tick (sym (ap timer? same_object) ∙ sym en ∙ z) in
        (ap accepted e, rw (← e) (put-content (holds b s) o x (Timer t) ex))

pub ruleset sets = (common_steps, set_other, set-one)
