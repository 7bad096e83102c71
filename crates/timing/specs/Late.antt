-- When a pass ends a wait by time: not before its tick, at the latest at its tick, and only if what it waits for is not there.
use Rattle.std.specs.Prelude.{◌≡◌, Bool, ℕ, ◌+◌, ◌≤◌, ◌<◌, eqb, Option, Some, None}
use Rattle.std.proofs.Math.Path.{refl, ap}
use Rattle.std.proofs.Common.{sym, ◌∙◌, le-leb, leb-true}
use Rattle.std.proofs.Math.Bool.{true, false}
use mathlib.Core.List.{List, [], ◌∷◌}
use Rattle.std.proofs.lemmas.Bool.{lt-leb}
use Rattle.laws.specs.Logic.{pick, ◌or◌, false-true}
use Rattle.units.specs.declared.Ticks.{Ticks}
use Rattle.types.specs.declared.thread.ThreadStatus.{ThreadStatus}
use Rattle.types.specs.declared.thread.ThreadStatus.TheVariants.{Dead, Running, Ready, Sleeping, WaitSync, WaitArbiter, Dormant}
use Rattle.types.specs.declared.thread.Thread.{Thread}
use Rattle.types.specs.declared.object.KObject.{KObject}
use Rattle.types.specs.declared.object.KObject.TheVariants as object
use Rattle.types.specs.declared.kernel.Kernel.{Kernel}
use Rattle.types.specs.Thread.{option_flag, is_blocked}
use Rattle.sound.specs.View.{object_at, thread_at}
use Rattle.sound.specs.Threads.{is_current}
use Rattle.pass.specs.declared.Fate.{Fate}
use Rattle.pass.specs.declared.Fate.TheVariants.{Stays, Given, TimedOut, Slept}
use Rattle.pass.specs.declared.Waits.{Waits}
use Rattle.pass.specs.Signal.{free_for, is_signaled}
use Rattle.pass.specs.Timers.{due_by}
use Rattle.pass.specs.Waits.{all_signaled, first_signaled, satisfied_at, waited_objects, fate_of, fate_as, fate}
use Rattle.demand.specs.Words.{passes, satisfies?, one_of, all_of, turn, list_satisfied?, objects_give?, gives?}
use Rattle.timing.specs.Wait.{Blocked}
use Rattle.timing.specs.Turn.{stays?, is_given, fate_at, turn-own}

-- ---- how a wait ends
-- by time
abbrev pub by_time? : Fate → Bool
by_time? Stays = false
by_time? (Given i) = false
by_time? TimedOut = true
by_time? Slept = true

-- one of the three
pub ends-given : (f : Fate) → stays? f ≡ false → by_time? f ≡ false → is_given f ≡ true
ends-given Stays a b = sym a
ends-given (Given i) a b = refl
ends-given TimedOut a b = sym b
ends-given Slept a b = sym b

pub time-ends : (f : Fate) → by_time? f ≡ true → stays? f ≡ false
time-ends Stays e = sym e
time-ends (Given i) e = refl
time-ends TimedOut e = refl
time-ends Slept e = refl

pub stays-given : (f : Fate) → stays? f ≡ true → is_given f ≡ false
stays-given Stays e = refl
stays-given (Given i) e = sym e
stays-given TimedOut e = refl
stays-given Slept e = refl

pub time-given : (f : Fate) → by_time? f ≡ true → is_given f ≡ false
time-given Stays e = refl
time-given (Given i) e = sym e
time-given TimedOut e = refl
time-given Slept e = refl

-- ---- what the fate of a blocked thread tells, of its status, what its wait finds and whether it is late
module _ (found : Option ℕ) where
  late-ends : (s : ThreadStatus) → is_blocked s ≡ true → stays? (fate_as s found true) ≡ false
  late-ends Dead e = sym e
  late-ends Running e = sym e
  late-ends Ready e = sym e
  late-ends Sleeping e = refl
  late-ends WaitSync e = of found
    where
      of : (x : Option ℕ) → stays? (fate_of x true) ≡ false
      of None = refl
      of (Some i) = refl
  late-ends WaitArbiter e = refl
  late-ends Dormant e = sym e

  early-time : (s : ThreadStatus) → by_time? (fate_as s found false) ≡ false
  early-time Dead = refl
  early-time Running = refl
  early-time Ready = refl
  early-time Sleeping = refl
  early-time WaitSync = of found
    where
      of : (x : Option ℕ) → by_time? (fate_of x false) ≡ false
      of None = refl
      of (Some i) = refl
  early-time WaitArbiter = refl
  early-time Dormant = refl

-- ---- only a wait on objects is given something by a pass, and then as the demand says
free-is : (o : Option ℕ) (w : ℕ) → free_for o w ≡ eqb (option_flag o) 0 or is_current o w
unfolding ◌or◌
free-is None w = refl
free-is (Some u) w = refl

signaled-is : (ts : List Thread) (x : KObject) (w : ℕ) → is_signaled ts x w ≡ satisfies? ts x w
signaled-is ts (object.Free n) w = refl
signaled-is ts (object.Thread u) w = refl
signaled-is ts (object.Event e) w = refl
signaled-is ts (object.Mutex m) w = free-is m.owner w
signaled-is ts (object.Semaphore s) w = refl
signaled-is ts (object.Timer t) w = refl
signaled-is ts (object.AddressArbiter a) w = refl
signaled-is ts object.Process w = refl
signaled-is ts object.ResourceLimit w = refl

abbrev found? : Option ℕ → Bool
found? None = false
found? (Some i) = true

module _ (x : Waits) (w : ℕ) where
  abbrev test : ℕ → Bool
  test o = satisfies? x.threads (object_at x.objects o) w

  all-is : (os : List ℕ) → all_signaled x.threads x.objects w os ≡ all_of test os
  unfolding all_signaled all_of
  all-is [] = refl
  all-is (o ∷ os) = rw (signaled-is x.threads (object_at x.objects o) w, all-is os)

  first_then : (q : Bool) (i : ℕ) (y : Option ℕ) (rest : Bool) → found? y ≡ rest
      → found? (pick q (Some i) y) ≡ q or rest
  unfolding ◌or◌
  first_then true i y rest e = refl
  first_then false i y rest e = e

  first-is : (i : ℕ) (os : List ℕ) → found? (first_signaled x.threads x.objects w i os) ≡ one_of test os
  unfolding first_signaled one_of
  first-is i [] = refl
  first-is i (o ∷ os) =
      first_then (is_signaled x.threads (object_at x.objects o) w) i (first_signaled x.threads x.objects w (i + 1) os) (one_of test os) (first-is (i + 1) os)
      ∙ ap (λ (q : Bool). q or one_of test os) (signaled-is x.threads (object_at x.objects o) w)

  list-is : (all : Bool) (os : List ℕ) → found? (satisfied_at x.threads x.objects w all os) ≡ pick all (all_of test os) (one_of test os)
  list-is true os = go (all_signaled x.threads x.objects w os) (all-is os)
    where
      go : (q : Bool) → q ≡ all_of test os → found? (pick q (Some 0) None) ≡ all_of test os
      go true e = e
      go false e = e
  list-is false os = first-is 0 os

given-found : (x : Option ℕ) (late : Bool) → is_given (fate_of x late) ≡ found? x
given-found None true = refl
given-found None false = refl
given-found (Some i) late = refl

given-as : (s : ThreadStatus) (t : Thread) (x : Waits) (w : ℕ) (f : Option ℕ) (late : Bool)
    → found? f ≡ list_satisfied? t x w → is_given (fate_as s f late) ≡ objects_give? s t x w
given-as Dead t x w f late e = refl
given-as Running t x w f late e = refl
given-as Ready t x w f late e = refl
given-as Sleeping t x w f true e = refl
given-as Sleeping t x w f false e = refl
given-as WaitSync t x w f late e = given-found f late ∙ e
given-as WaitArbiter t x w f true e = refl
given-as WaitArbiter t x w f false e = refl
given-as Dormant t x w f late e = refl

-- ---- at the turn of thread w
module _ (k : Kernel) (tick w : ℕ) where
  -- what its wait finds
  abbrev pub found_at : Option ℕ
  found_at = satisfied_at (turn k tick w).threads (turn k tick w).objects w (thread_at k.threads w).wait_all (waited_objects (thread_at k.threads w))

  pub fate-is : fate_at k tick w ≡ fate_as (thread_at k.threads w).status found_at (due_by (thread_at k.threads w).wakeup_at tick)
  unfolding fate
  fate-is =
      ap (λ (t : Thread). fate_as t.status (satisfied_at (turn k tick w).threads (turn k tick w).objects w t.wait_all (waited_objects t)) (due_by t.wakeup_at tick)) (turn-own k tick w)

  -- late: the wait ends
  pub late-not-stays : Blocked k.threads w → (at : Ticks) → (thread_at k.threads w).wakeup_at ≡ Some at → at.0 ≤ tick
      → stays? (fate_at k tick w) ≡ false
  late-not-stays b at e l =
      let d : due_by (thread_at k.threads w).wakeup_at tick ≡ true = ap (λ (o : Option Ticks). due_by o tick) e
      ∙ le-leb at.0 tick l in
      ap stays? (fate-is ∙ ap (λ (q : Bool). fate_as (thread_at k.threads w).status found_at q) d) ∙ late-ends found_at (thread_at k.threads w).status b

  -- an end by time is late
  pub time-late : by_time? (fate_at k tick w) ≡ true → due_by (thread_at k.threads w).wakeup_at tick ≡ true
  time-late e = go (due_by (thread_at k.threads w).wakeup_at tick) (ap by_time? (sym fate-is) ∙ e)
    where
      go : (q : Bool) → by_time? (fate_as (thread_at k.threads w).status found_at q) ≡ true → q ≡ true
      go true h = refl
      go false h = sym (early-time found_at (thread_at k.threads w).status) ∙ h

  pub time-from : by_time? (fate_at k tick w) ≡ true → (at : Ticks) → (thread_at k.threads w).wakeup_at ≡ Some at
      → at.0 ≤ tick
  time-from e at q = leb-true at.0 tick (ap (λ (o : Option Ticks). due_by o tick) (sym q) ∙ time-late e)

  -- early: it stays, or is given something
  pub early-not-time : (at : Ticks) → (thread_at k.threads w).wakeup_at ≡ Some at → tick < at.0
      → by_time? (fate_at k tick w) ≡ false
  early-not-time at e l =
      let d : due_by (thread_at k.threads w).wakeup_at tick ≡ false = ap (λ (o : Option Ticks). due_by o tick) e
      ∙ lt-leb at.0 tick l in
      ap by_time? (fate-is ∙ ap (λ (q : Bool). fate_as (thread_at k.threads w).status found_at q) d) ∙ early-time found_at (thread_at k.threads w).status

  -- a pass gives a thread something exactly if its objects are satisfied at its turn, in the words of the demand
  pub given-words : is_given (fate_at k tick w) ≡ gives? w (passes tick) k
  given-words =
      let t : Thread = thread_at k.threads w in
      ap is_given fate-is ∙ given-as t.status t (turn k tick w) w found_at (due_by t.wakeup_at tick) (list-is (turn k tick w) w t.wait_all (waited_objects t))
