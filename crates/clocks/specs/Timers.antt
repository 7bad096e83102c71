-- The calls on timers: each of the three that name a timer fires first, and only a timer that is set or cancelled has another clock after.
use Rattle.std.specs.Prelude.{◌≡◌, refl, true, false, ◌≢◌, List, eqb, length, None}
use Rattle.std.proofs.Common.{ap, sym, subst, ◌∙◌, inl, inr, arith, eqb-true}
use Prim.Native.Nat.{ℕ, zero, suc, ◌+◌, ◌≤◌, ◌<◌}
use Rattle.laws.specs.Logic.{lt-cases}
use Rattle.units.specs.Ticks.{nanos_to_ticks}
use Rattle.types.specs.declared.object.KObject.{KObject}
use Rattle.types.specs.declared.object.KObject.TheVariants.{Free, Thread, Event, Mutex, Semaphore, Timer, AddressArbiter, Process, ResourceLimit}
use Rattle.types.specs.declared.object.Slot.{Slot}
use Rattle.types.specs.declared.object.ObjectStore.{ObjectStore}
use Rattle.types.specs.declared.kernel.Kernel.{Kernel}
use Rattle.types.specs.Object.{kind_number}
use Rattle.types.specs.Sync.{reset_from_raw}
use Rattle.sound.specs.View.{slot_at, slot_at-out, object_at}
use Rattle.sound.specs.Sound.{Sound}
use Rattle.soundness.specs.Whole.{sound-parts}
use Rattle.pass.specs.Timers.{lost_object}
use Rattle.svc.specs.declared.Registers.{Registers}
use Rattle.svc.specs.Call.{with_objects, pair, resolved}
use Rattle.svc.specs.Timers.{create_timer, caught_up, not_below, set_to, set_timer_as, set_timer, cancelled, cancel_timer, clear_timer}
use Rattle.svc.specs.Dispatch.{runs?, call}
use Rattle.demand.specs.Words.{target, is_timer, cut_off}
use Rattle.timing.specs.Clock.{Clock, clock_at, content-clock, content-other, content-own}
use Rattle.timing.specs.Fires.{fired_clock, lost-object}
use Rattle.timing.specs.Keeps.{FirstFree}
use Rattle.clocks.specs.Resolves.{Used, parts_free, create_object-clock, named-is, named-not, caught-resolved}

-- ---- `set_timer` on another object
set_other : (x : KObject) (k : Kernel) (r a b tick o : ℕ) → o ≢ r → clock_at (set_timer_as x k r a b tick).kernel.objects o ≡ clock_at k.objects o
set_other (Free n) k r a b tick o d = refl
set_other (Thread t) k r a b tick o d = refl
set_other (Event e) k r a b tick o d = refl
set_other (Mutex m) k r a b tick o d = refl
set_other (Semaphore s) k r a b tick o d = refl
set_other (Timer t) k r a b tick o d = content-other k.objects r (Timer (set_to t a b tick)) o d
set_other (AddressArbiter x) k r a b tick o d = refl
set_other Process k r a b tick o d = refl
set_other ResourceLimit k r a b tick o d = refl

module _ (k : Kernel) (f : FirstFree k.objects) (o : ℕ) (u : Used k.objects o) (r : Registers) where
  pub create_timer-clock : clock_at (create_timer k r).kernel.objects o ≡ clock_at k.objects o
  unfolding create_timer
  create_timer-clock = create_object-clock k f o u
      (Timer (record {
        reset_type = reset_from_raw r.r1;
        signaled = false;
        fire_at = None;
        interval = record { 0 = 0 };
      }))

  module _ (tick : ℕ) where
    pub set_timer-clock : eqb (target k r) o ≡ false → clock_at (set_timer k r tick).kernel.objects o ≡ fired_clock tick (clock_at k.objects o)
    unfolding set_timer
    set_timer-clock e =
        let c : Kernel = caught_up k tick in
        let s : ObjectStore = (resolved c r.r0).store in
        let q : ℕ = (resolved c r.r0).object.0 in
        set_other (object_at s q) (with_objects c s) q (not_below (pair r.r2 r.r3)) (not_below (pair r.r1 r.r4)) tick o (named-not k tick r.r0 f o u e) ∙ caught-resolved k f o u tick r.r0

    pub cancel_timer-clock : eqb (target k r) o ≡ false → clock_at (cancel_timer k r tick).kernel.objects o ≡ fired_clock tick (clock_at k.objects o)
    unfolding cancel_timer
    cancel_timer-clock e =
        let c : Kernel = caught_up k tick in
        let s : ObjectStore = (resolved c r.r0).store in
        let q : ℕ = (resolved c r.r0).object.0 in
        content-other s q (cancelled (object_at s q)) o (named-not k tick r.r0 f o u e) ∙ caught-resolved k f o u tick r.r0

    -- whichever object it names
    pub clear_timer-clock : clock_at (clear_timer k r tick).kernel.objects o ≡ fired_clock tick (clock_at k.objects o)
    unfolding clear_timer
    clear_timer-clock =
        let c : Kernel = caught_up k tick in
        let s : ObjectStore = (resolved c r.r0).store in
        let q : ℕ = (resolved c r.r0).object.0 in
        content-clock s q (lost_object (object_at s q)) (lost-object (object_at s q)) o ∙ caught-resolved k f o u tick r.r0

-- ---- `set_timer` on a timer
-- an object in use has a place
place-from : (l : List Slot) (o : ℕ) → 0 < kind_number (slot_at l o).object → 0 < o
unfolding slot_at
place-from l zero u = u
place-from l (suc o) u = omega arith

place-to : (l : List Slot) (o : ℕ) → 0 < kind_number (slot_at l o).object → o ≤ length l
place-to l o u =
    elim (lt-cases (length l) o) [
      | inl h ↦ absurd (let e : kind_number (slot_at l o).object ≡ 0 = ap (λ (x : Slot). kind_number x.object) (slot_at-out l o (λ z. h)) in omega arith)
      | inr h ↦ h
    ]

abbrev set_clock : ℕ → ℕ → ℕ → Clock
set_clock t a b = record { kind = 5; due = cut_off (t + (nanos_to_ticks (record { 0 = a })).0); interval = (nanos_to_ticks (record { 0 = b })).0 }

set_own : (x : KObject) (k : Kernel) (o a b tick : ℕ) → kind_number x ≡ 5 → 0 < o → o ≤ length k.objects.slots → clock_at (set_timer_as x k o a b tick).kernel.objects o ≡ set_clock tick a b
set_own (Free n) k o a b tick e z l = absurd (omega (arith, e))
set_own (Thread t) k o a b tick e z l = absurd (omega (arith, e))
set_own (Event v) k o a b tick e z l = absurd (omega (arith, e))
set_own (Mutex m) k o a b tick e z l = absurd (omega (arith, e))
set_own (Semaphore s) k o a b tick e z l = absurd (omega (arith, e))
set_own (Timer t) k o a b tick e z l = content-own k.objects o (Timer (set_to t a b tick)) z l
set_own (AddressArbiter x) k o a b tick e z l = absurd (omega (arith, e))
set_own Process k o a b tick e z l = absurd (omega (arith, e))
set_own ResourceLimit k o a b tick e z l = absurd (omega (arith, e))

-- it is still a timer after it fired
set_timer-own : (k : Kernel) → FirstFree k.objects → (r : Registers) (t : ℕ) → is_timer (object_at k.objects (resolved (caught_up k t) r.r0).object.0) ≡ true
    → clock_at (set_timer k r t).kernel.objects (resolved (caught_up k t) r.r0).object.0 ≡ set_clock t (not_below (pair r.r2 r.r3)) (not_below (pair r.r1 r.r4))
unfolding set_timer
set_timer-own k f r t e =
    let c : Kernel = caught_up k t in
    let s : ObjectStore = (resolved c r.r0).store in
    let q : ℕ = (resolved c r.r0).object.0 in
    let five : kind_number (object_at k.objects q) ≡ 5 = eqb-true (kind_number (object_at k.objects q)) 5 e in
    let same : kind_number (object_at s q) ≡ 5 = ap (λ (x : Clock). x.kind) (caught-resolved k f q (omega arith) t r.r0) ∙ five in
    set_own (object_at s q) (with_objects c s) q (not_below (pair r.r2 r.r3)) (not_below (pair r.r1 r.r4)) t same (place-from s.slots q (omega arith)) (place-to s.slots q (omega arith))

pub set-clock : (k : Kernel) (r : Registers) (words : List ℕ) (t o : ℕ) → Sound k → runs? k ≡ true → Sound (call 0x1B k r words t).kernel
    → target k r ≡ o → is_timer (object_at k.objects o) ≡ true
    → clock_at (call 0x1B k r words t).kernel.objects o
    ≡ record { kind = 5; due = cut_off (t + (nanos_to_ticks (record { 0 = not_below (pair r.r2 r.r3) })).0); interval = (nanos_to_ticks (record { 0 = not_below (pair r.r1 r.r4) })).0 }
unfolding call
set-clock k r words t o s g q e i =
    let f : FirstFree k.objects = parts_free k (sound-parts k s) in
    let five : kind_number (object_at k.objects o) ≡ 5 = eqb-true (kind_number (object_at k.objects o)) 5 i in
    subst (λ (x : ℕ). is_timer (object_at k.objects x) ≡ true → clock_at (set_timer k r t).kernel.objects x ≡ set_clock t (not_below (pair r.r2 r.r3)) (not_below (pair r.r1 r.r4))) (named-is k t r.r0 f o (omega (arith, five)) e)
    (set_timer-own k f r t) i
