-- A timer that is still there after a change has the clock that it had, fired once if the change is a pass.
use Rattle.std.specs.Prelude.{◌≡◌, refl, Bool, true, false, List, [], ◌∷◌, ℕ, zero, suc, ◌<◌, eqb, leb, ltb}
use Rattle.std.proofs.Math.Path.{ap}
use Rattle.std.proofs.Common.{subst, ◌∙◌, inl, inr, arith}
use Rattle.laws.specs.Logic.{lt-cases}
use Rattle.laws.specs.Count.{count}
use Rattle.types.specs.declared.object.KObject.{KObject}
use Rattle.types.specs.declared.object.KObject.TheVariants.{Free}
use Rattle.types.specs.declared.object.Slot.{Slot}
use Rattle.types.specs.declared.object.ObjectStore.{ObjectStore}
use Rattle.types.specs.declared.kernel.Kernel.{Kernel}
use Rattle.types.specs.Object.{kind_number}
use Rattle.sound.specs.View.{handled, slot_at, object_at, thread_at}
use Rattle.sound.specs.Objects.{names, kept_at}
use Rattle.object.specs.Store.{is_free, insert, release_if, release, releases}
use Rattle.object.specs.Waiters.{drop_thread}
use Rattle.thread.specs.Threads.{let_go, forget_thread, ended_thread, create_thread, end_wait, disown, end_thread}
use Rattle.soundness.specs.Slots.{pick-both, slot_cases, slot-f}
use Rattle.soundness.specs.Objects.{ObOk, named-kind, free-kind}
use Rattle.soundness.specs.Whole.{Parts, names_of}
use Rattle.pass.specs.declared.Fate.{Fate}
use Rattle.pass.specs.declared.Fate.TheVariants.{Stays, Given, TimedOut, Slept}
use Rattle.pass.specs.declared.Waits.{Waits}
use Rattle.pass.specs.Signal.{acquires}
use Rattle.pass.specs.Timers.{fire_timers}
use Rattle.pass.specs.Waits.{waited_objects, fate, taken, try_as, try_wait, try_waits}
use Rattle.pass.specs.Schedule.{tried, schedule}
use Rattle.passing.specs.Pass.{choose-objects}
use Rattle.timing.specs.Clock.{Clock, clock_at, clock_in, acquires-clock, clear-clock, disown-clock, drop-clock}
use Rattle.timing.specs.Fires.{fired_clock, fire-clock}

-- ---- the object o, if its slot is in use after a change, has the clock that it had
abbrev pub KeepsClock : ObjectStore → ObjectStore → ℕ → Type 0
KeepsClock s s' o = 0 < (clock_at s' o).kind → clock_at s' o ≡ clock_at s o

pub keeps_then : (s s' s'' : ObjectStore) (o : ℕ) → KeepsClock s s' o → KeepsClock s' s'' o → KeepsClock s s'' o
keeps_then s s' s'' o f g h = g h ∙ f (subst (λ (c : Clock). 0 < c.kind) (g h) h)

-- ---- a holder less
release-as : (b : Bool) (s : ObjectStore) (r o : ℕ) → KeepsClock s (release_if b s r) o
unfolding release_if
release-as true s r o h = slot-f clock_in s.slots r _ o refl
release-as false s r o h =
    elim (slot_cases s.slots r (record { object = Free s.free; refcount = 0; pulsed = (slot_at s.slots r).pulsed }) o) [
      | inl e ↦ absurd (let z : (clock_at (release_if false s r) o).kind ≡ 0 = ap (λ (x : Slot). (clock_in x).kind) e.1 in omega arith)
      | inr e ↦ ap clock_in e
    ]

pub release-keeps : (s : ObjectStore) (r o : ℕ) → KeepsClock s (release s r) o
unfolding release
release-keeps s r o = pick-both (λ (y : ObjectStore). KeepsClock s y o) (is_free (object_at s r)) s _ (λ h. refl) (release-as (leb 2 (slot_at s.slots r).refcount) s r o)

pub releases-keeps : (rs : List ℕ) (s : ObjectStore) (o : ℕ) → KeepsClock s (releases s rs) o
unfolding releases
releases-keeps [] s o = λ h. refl
releases-keeps (r ∷ rs) s o = keeps_then s (release s r) (releases (release s r) rs) o (release-keeps s r o) (releases-keeps rs (release s r) o)

-- ---- the tries of a pass
try_keeps : (f : Fate) (x : Waits) (t o : ℕ) → KeepsClock x.objects (try_as f x t).objects o
try_keeps Stays x t o = λ h. refl
try_keeps (Given i) x t o =
    let a : ObjectStore = acquires x.objects (taken (thread_at x.threads t) i) t in
    let r : List ℕ = waited_objects (thread_at x.threads t) in
    keeps_then x.objects a (releases a r) o (λ h. acquires-clock (taken (thread_at x.threads t) i) x.objects t o) (releases-keeps r a o)
try_keeps TimedOut x t o = releases-keeps (waited_objects (thread_at x.threads t)) x.objects o
try_keeps Slept x t o = releases-keeps (waited_objects (thread_at x.threads t)) x.objects o

pub tries_keeps : (tick n t : ℕ) (x : Waits) (o : ℕ) → KeepsClock x.objects (try_waits tick n t x).objects o
unfolding try_waits try_wait
tries_keeps tick zero t x o = λ h. refl
tries_keeps tick (suc n) t x o =
    let y : Waits = try_wait tick x t in
    keeps_then x.objects y.objects (try_waits tick n (suc t) y).objects o (try_keeps (fate x.threads x.objects tick t) x t o) (tries_keeps tick n (suc t) y o)

-- ---- the pass fires every timer once
module _ (k : Kernel) (tick o : ℕ) where
  pub tried-clock : 0 < (clock_at (tried k tick).objects o).kind → clock_at (tried k tick).objects o ≡ fired_clock tick (clock_at k.objects o)
  tried-clock h =
      let x : Waits = record { objects = fire_timers k.objects tick; threads = k.threads } in
      let y : ObjectStore = (try_waits tick 32 0 x).objects in
      let e = clear-clock y o in
      e ∙ tries_keeps tick 32 0 x o (subst (λ (c : Clock). 0 < c.kind) e h) ∙ fire-clock tick k.objects o

  pub pass-clock : 0 < (clock_at (schedule k tick).kernel.objects o).kind → clock_at (schedule k tick).kernel.objects o ≡ fired_clock tick (clock_at k.objects o)
  unfolding schedule
  pass-clock h =
      let e = ap (λ (s : ObjectStore). clock_at s o) (choose-objects k (tried k tick) tick) in
      e ∙ tried-clock (subst (λ (c : Clock). 0 < c.kind) e h)

-- ---- a thread ends, or its place is used again
pub forget_keeps : (s : ObjectStore) (t o : ℕ) → KeepsClock s (forget_thread s t) o
unfolding forget_thread
forget_keeps s t o =
    keeps_then s (let_go s t) (drop_thread 128 1 t (let_go s t)) o
    (pick-both (λ (y : ObjectStore). KeepsClock s y o) (eqb (kept_at s t) 0) s _ (λ h. refl) (release-keeps _ (kept_at s t) o)) (λ h. drop-clock 128 1 t (let_go s t) o)

pub create-keeps : (k : Kernel) (entry stack priority processor o : ℕ) → KeepsClock k.objects (create_thread k entry stack priority processor).objects o
unfolding create_thread
create-keeps k entry stack priority processor o =
    pick-both (λ (y : ObjectStore). KeepsClock k.objects y o) (ltb (ended_thread k) k.thread_count) (forget_thread k.objects (ended_thread k)) k.objects (forget_keeps k.objects (ended_thread k) o) (λ h. refl)

pub end-keeps : (k : Kernel) (t o : ℕ) → KeepsClock k.objects (end_thread k t).objects o
unfolding end_thread end_wait
end-keeps k t o =
    let r : List ℕ = waited_objects (thread_at k.threads t) in
    keeps_then k.objects (releases k.objects r) (disown (releases k.objects r) t) o (releases-keeps r k.objects o) (λ h. disown-clock (releases k.objects r) t o)

-- ---- the first free slot is free, and there is no object 0
abbrev pub FirstFree : ObjectStore → Type 0
FirstFree s = kind_number (object_at s s.free) ≡ 0

pub first-free : (s : ObjectStore) (f : ℕ → ℕ) → ObOk s f → FirstFree s
unfolding slot_at
first-free s f h = elim (lt-cases 0 s.free) [ inl l ↦ free-kind s f h l | inr l ↦ let e : s.free ≡ 0 = omega arith in ap (λ (r : ℕ). kind_number (object_at s r)) e ]

-- ---- a new object takes a free slot: what is in use before it has the clock that it had
pub insert-clock : (s : ObjectStore) (v : KObject) → FirstFree s → (o : ℕ) → 0 < (clock_at s o).kind → clock_at (insert s v) o ≡ clock_at s o
unfolding insert
insert-clock s v f o p =
    elim (slot_cases s.slots s.free (record { object = v; refcount = 1; pulsed = (slot_at s.slots s.free).pulsed }) o) [
      | inl e ↦ absurd (let z : (clock_at s o).kind ≡ 0 = ap (λ (r : ℕ). (clock_at s r).kind) e.0 ∙ f in omega arith)
      | inr e ↦ ap clock_in e
    ]

-- ---- an object that an open handle names is in use
pub handle_kind : (k : Kernel) → Parts k → (o : ℕ) → 0 < o → 0 < count o (handled k.handles.entries) → 0 < (clock_at k.objects o).kind
handle_kind k p o z h = named-kind k.objects (names k.handles k.threads) p.ob o z (omega (arith, names_of k o))
