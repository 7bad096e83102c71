-- `wait_synchronization1` and `wait_synchronization_n` keep a state sound.
use Rattle.std.specs.Prelude.{◌≡◌, refl, Bool, true, false, not, List, [], ◌∷◌, ℕ, ◌+◌, ◌≤◌, ◌<◌, eqb, length, get_or}
use Rattle.std.specs.Prelude.{Option, Some, None}
use Rattle.std.proofs.Common.{sym, ◌∙◌, inl, inr, arith}
use Rattle.std.proofs.lemmas.Bool.{eqb-false}
use Rattle.laws.specs.Logic.{pick}
use Rattle.types.specs.declared.thread.WaitSyscall.{WaitSyscall}
use Rattle.types.specs.declared.thread.WaitSyscall.TheVariants.{WaitSynchronization1, WaitSynchronizationN}
use Rattle.types.specs.declared.object.ObjectStore.{ObjectStore}
use Rattle.types.specs.declared.kernel.Kernel.{Kernel}
use Rattle.types.specs.Thread.{wait_list}
use Rattle.sound.specs.View.{object_at}
use Rattle.sound.specs.Objects.{names, kept_names}
use Rattle.sound.specs.Sound.{Sound}
use Rattle.kernel.specs.NextEvent.{contains}
use Rattle.soundness.specs.Slots.{pick-both}
use Rattle.soundness.specs.Objects.{Known}
use Rattle.soundness.specs.Whole.{Parts, sound-parts, parts-sound}
use Rattle.pass.specs.Signal.{is_signaled, acquire, acquires}
use Rattle.pass.specs.Waits.{satisfied_at}
use Rattle.passing.specs.Signal.{acquire-sticks, acquires-sticks, acquire-parts, acquires-parts}
use Rattle.passing.specs.Switch.{current-live}
use Rattle.passing.specs.Sleeps.{Unlisted, runs_unlisted}
use Rattle.svc.specs.declared.Registers.{Registers}
use Rattle.svc.specs.declared.Served.{Served}
use Rattle.svc.specs.Call.{done, answers, invalid_handle, timeout, with_objects, pair, resolved}
use Rattle.svc.specs.Timers.{caught_up}
use Rattle.svc.specs.Waits.{wait_on, wait_unless, wait1_as, wait_synchronization1, resolve_all, resolve_store, take_at, wait_nas, wait_synchronization_n}
use Rattle.svc.specs.Dispatch.{runs?}
use Rattle.calling.specs.Resolves.{resolve-overflow, resolved-parts, resolved-named}
use Rattle.calling.specs.Call.{Clear, Accepted}
use Rattle.calling.specs.Timers.{caught-parts}
use Rattle.calling.specs.Threads.{runs-current}
use Rattle.parking.specs.Lists.{all-length, store-overflow, AllFound, all_found}
use Rattle.parking.specs.Begins.{Sticks, sticks-same, acquire-full, acquires-full, unless-sticks, unless-parts}

unless-answers : (k : Kernel) (c : ℕ) (os : List ℕ) (all : Bool) (nanos tick : ℕ) (call : Option WaitSyscall)
    → Accepted (wait_unless k c os all nanos tick call).answer
unless-answers k c os all nanos tick call = pick-both (λ (v : Served). Accepted v.answer) (eqb nanos 0) (answers timeout k) (wait_on k c os all nanos tick call) (inr (omega arith, omega arith)) (inl refl)

-- ---- what one object's acquisition leaves
acquire-down : (s : ObjectStore) (o c : ℕ) → Sticks s (acquire s o c)
acquire-down s o c = record { full = λ e. sym (acquire-full s o c) ∙ e; overflow = acquire-sticks s o c }

acquires-down : (s : ObjectStore) (os : List ℕ) (c : ℕ) → Sticks s (acquires s os c)
acquires-down s os c = record { full = λ e. sym (acquires-full os s c) ∙ e; overflow = acquires-sticks os s c }

-- ---- one object
module _ (k : Kernel) (o nanos tick : ℕ) where
  one-sticks : (c : Option ℕ) → Sticks k.objects (wait1_as c k o nanos tick).kernel.objects
  one-sticks None = sticks-same k.objects
  one-sticks (Some c) =
      pick-both (λ (v : Served). Sticks k.objects v.kernel.objects) (is_signaled k.threads (object_at k.objects o) c) (done (with_objects k (acquire k.objects o c)))
      (wait_unless k c (o ∷ []) false nanos tick (Some WaitSynchronization1)) (acquire-down k.objects o c)
      (unless-sticks k c (o ∷ []) false nanos tick (Some WaitSynchronization1))

  one-answers : (c : Option ℕ) → Accepted (wait1_as c k o nanos tick).answer
  one-answers None = inl refl
  one-answers (Some c) =
      pick-both (λ (v : Served). Accepted v.answer) (is_signaled k.threads (object_at k.objects o) c) (done (with_objects k (acquire k.objects o c)))
      (wait_unless k c (o ∷ []) false nanos tick (Some WaitSynchronization1)) (inl refl)
      (unless-answers k c (o ∷ []) false nanos tick (Some WaitSynchronization1))

  module _ (p : Parts k) (u : Unlisted k.threads k.current_thread) (z : 0 < o) (named : 0 < names k.handles k.threads o + kept_names k.objects o) where
    one_if : (c : ℕ) → k.current_thread ≡ Some c → (b : Bool)
        → (pick b (done (with_objects k (acquire k.objects o c)))
        (wait_unless k c (o ∷ []) false nanos tick (Some WaitSynchronization1))).kernel.objects.overflow ≡ false
        → Parts (pick b (done (with_objects k (acquire k.objects o c)))
        (wait_unless k c (o ∷ []) false nanos tick (Some WaitSynchronization1))).kernel
    one_if c q true e = acquire-parts k p o c (current-live k p c q) e
    one_if c q false e = unless-parts k c (o ∷ []) false nanos tick (Some WaitSynchronization1) p q u (omega arith)
        (z, (named, tt))

    one-parts : (c : Option ℕ) → k.current_thread ≡ c → (wait1_as c k o nanos tick).kernel.objects.overflow ≡ false
        → Parts (wait1_as c k o nanos tick).kernel
    one-parts None q e = p
    one-parts (Some c) q e = one_if c q (is_signaled k.threads (object_at k.objects o) c) e

-- the handle is resolved; an unknown one is refused
module _ (k : Kernel) (h nanos tick : ℕ) where
  abbrev served1 : Bool → Served
  served1 b =
      pick b
      (answers invalid_handle (with_objects k (resolved k h).store))
      (wait1_as k.current_thread (with_objects k (resolved k h).store) (resolved k h).object.0 nanos tick)

  served1-sticks : (b : Bool) → Sticks (resolved k h).store (served1 b).kernel.objects
  served1-sticks true = sticks-same (resolved k h).store
  served1-sticks false = one-sticks (with_objects k (resolved k h).store) (resolved k h).object.0 nanos tick k.current_thread

  served1-answers : (b : Bool) → Accepted (served1 b).answer
  served1-answers true = inr (omega arith, omega arith)
  served1-answers false = one-answers (with_objects k (resolved k h).store) (resolved k h).object.0 nanos tick k.current_thread

  served1-parts : (b : Bool) → eqb (resolved k h).object.0 0 ≡ b → Parts k → Unlisted k.threads k.current_thread → Clear (served1 b).kernel → Parts (served1 b).kernel
  served1-parts true q p u c = resolved-parts k p h c.store_full
  served1-parts false q p u c =
      let e : (resolved k h).store.full ≡ false = (served1-sticks false).full c.store_full in
      let n = eqb-false (resolved k h).object.0 0 q in
      let z : 0 < (resolved k h).object.0 = omega arith in
      one-parts (with_objects k (resolved k h).store) (resolved k h).object.0 nanos tick (resolved-parts k p h e) u z (resolved-named k p h e z) k.current_thread refl c.store_overflow

  -- the finding before
  served1-before : (b : Bool) → Clear (served1 b).kernel → k.objects.overflow ≡ false
  served1-before b c = sym (resolve-overflow k.current_thread k.handles k.objects h) ∙ (served1-sticks b).overflow c.store_overflow

pub wait_synchronization1-sound : (k : Kernel) (r : Registers) (tick : ℕ) → runs? k ≡ true → Sound k → Clear (wait_synchronization1 k r tick).kernel → Sound (wait_synchronization1 k r tick).kernel
unfolding wait_synchronization1
wait_synchronization1-sound k r tick run s c =
    let p : Parts k = sound-parts k s in
    let k' : Kernel = caught_up k tick in
    let h : ℕ = r.r0 in
    let nanos : ℕ = pair r.r2 r.r3 in
    let b : Bool = eqb (resolved k' h).object.0 0 in
    parts-sound (served1 k' h nanos tick b).kernel
    (served1-parts k' h nanos tick b refl (caught-parts k tick (served1-before k' h nanos tick b c) p) (runs_unlisted k p k.current_thread (runs-current k run)) c)

pub wait_synchronization1-answers : (k : Kernel) (r : Registers) (tick : ℕ) → Accepted (wait_synchronization1 k r tick).answer
unfolding wait_synchronization1
wait_synchronization1-answers k r tick =
    let k' : Kernel = caught_up k tick in
    served1-answers k' r.r0 (pair r.r2 r.r3) tick (eqb (resolved k' r.r0).object.0 0)

-- ---- a list of objects
module _ (k : Kernel) (os : List ℕ) (all : Bool) (nanos tick : ℕ) where
  take-sticks : (found : Option ℕ) (c : ℕ) → Sticks k.objects (take_at found k c os all nanos tick).kernel.objects
  take-sticks None c = unless-sticks k c os all nanos tick (Some WaitSynchronizationN)
  take-sticks (Some i) c =
      pick-both (Sticks k.objects) all (acquires k.objects os c) (acquire k.objects (get_or os i 0) c) (acquires-down k.objects os c) (acquire-down k.objects (get_or os i 0) c)

  take-answers : (found : Option ℕ) (c : ℕ) → Accepted (take_at found k c os all nanos tick).answer
  take-answers None c = unless-answers k c os all nanos tick (Some WaitSynchronizationN)
  take-answers (Some i) c = inl refl

  many-sticks : (c : Option ℕ) → Sticks k.objects (wait_nas c k os all nanos tick).kernel.objects
  many-sticks None = sticks-same k.objects
  many-sticks (Some c) = take-sticks (satisfied_at k.threads k.objects c all os) c

  many-answers : (c : Option ℕ) → Accepted (wait_nas c k os all nanos tick).answer
  many-answers None = inl refl
  many-answers (Some c) = take-answers (satisfied_at k.threads k.objects c all os) c

  module _ (p : Parts k) (u : Unlisted k.threads k.current_thread) (few : length os ≤ wait_list) (known : Known k.objects (names k.handles k.threads) os) where
    taken-parts : (c i : ℕ) → k.current_thread ≡ Some c → (b : Bool)
        → (pick b (acquires k.objects os c) (acquire k.objects (get_or os i 0) c)).overflow ≡ false
        → Parts (with_objects k (pick b (acquires k.objects os c) (acquire k.objects (get_or os i 0) c)))
    taken-parts c i q true e = acquires-parts k p os c (current-live k p c q) e
    taken-parts c i q false e = acquire-parts k p (get_or os i 0) c (current-live k p c q) e

    take-parts : (found : Option ℕ) (c : ℕ) → k.current_thread ≡ Some c
        → (take_at found k c os all nanos tick).kernel.objects.overflow ≡ false
        → Parts (take_at found k c os all nanos tick).kernel
    take-parts None c q e = unless-parts k c os all nanos tick (Some WaitSynchronizationN) p q u few known
    take-parts (Some i) c q e = taken-parts c i q all e

    many-parts : (c : Option ℕ) → k.current_thread ≡ c
        → (wait_nas c k os all nanos tick).kernel.objects.overflow ≡ false
        → Parts (wait_nas c k os all nanos tick).kernel
    many-parts None q e = p
    many-parts (Some c) q e = take-parts (satisfied_at k.threads k.objects c all os) c q e

-- the handles are resolved; if one is unknown the call is refused
module _ (k : Kernel) (hs : List ℕ) (all : Bool) (nanos tick : ℕ) where
  abbrev found : List ℕ
  found = resolve_all k.current_thread k.handles k.objects hs

  abbrev left : ObjectStore
  left = resolve_store k.current_thread k.handles k.objects hs

  abbrev served_n : Bool → Served
  served_n b = pick b (answers invalid_handle (with_objects k left)) (wait_nas k.current_thread (with_objects k left) found all nanos tick)

  served_n-sticks : (b : Bool) → Sticks left (served_n b).kernel.objects
  served_n-sticks true = sticks-same left
  served_n-sticks false = many-sticks (with_objects k left) found all nanos tick k.current_thread

  served_n-answers : (b : Bool) → Accepted (served_n b).answer
  served_n-answers true = inr (omega arith, omega arith)
  served_n-answers false = many-answers (with_objects k left) found all nanos tick k.current_thread

  served_n-parts : (b : Bool) → contains found 0 ≡ b → length hs ≤ wait_list → Parts k → Unlisted k.threads k.current_thread → Clear (served_n b).kernel → Parts (served_n b).kernel
  served_n-parts true q few p u c = (all_found hs k p c.store_full).parts
  served_n-parts false q few p u c =
      let a : AllFound k left found = all_found hs k p ((served_n-sticks false).full c.store_full) in
      many-parts (with_objects k left) found all nanos tick a.parts u (omega (arith, all-length k.current_thread k.handles hs k.objects)) (a.known q) k.current_thread refl c.store_overflow

  -- the finding before
  served_n-before : (b : Bool) → Clear (served_n b).kernel → k.objects.overflow ≡ false
  served_n-before b c = sym (store-overflow k.current_thread k.handles hs k.objects) ∙ (served_n-sticks b).overflow c.store_overflow

pub wait_synchronization_n-sound : (k : Kernel) (r : Registers) (hs : List ℕ) (tick : ℕ) → length hs ≤ wait_list → runs? k ≡ true → Sound k → Clear (wait_synchronization_n k r hs tick).kernel
    → Sound (wait_synchronization_n k r hs tick).kernel
unfolding wait_synchronization_n
wait_synchronization_n-sound k r hs tick few run s c =
    let p : Parts k = sound-parts k s in
    let k' : Kernel = caught_up k tick in
    let all : Bool = not (eqb r.r3 0) in
    let nanos : ℕ = pair r.r0 r.r4 in
    let b : Bool = contains (found k' hs all nanos tick) 0 in
    parts-sound (served_n k' hs all nanos tick b).kernel
    (served_n-parts k' hs all nanos tick b refl few (caught-parts k tick (served_n-before k' hs all nanos tick b c) p) (runs_unlisted k p k.current_thread (runs-current k run)) c)

pub wait_synchronization_n-answers : (k : Kernel) (r : Registers) (hs : List ℕ) (tick : ℕ) → Accepted (wait_synchronization_n k r hs tick).answer
unfolding wait_synchronization_n
wait_synchronization_n-answers k r hs tick =
    let k' : Kernel = caught_up k tick in
    let all : Bool = not (eqb r.r3 0) in
    let nanos : ℕ = pair r.r0 r.r4 in
    served_n-answers k' hs all nanos tick (contains (found k' hs all nanos tick) 0)
