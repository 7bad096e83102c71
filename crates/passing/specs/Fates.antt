-- What becomes of a thread in a pass: only one that is not Dead changes, and the index that it is given fits a word.
use Rattle.std.specs.Prelude.{◌≡◌, refl, Bool, true, false, List, [], ◌∷◌, ℕ, zero, suc, ◌+◌, ◌≤◌, length, take, Option}
use Rattle.std.specs.Prelude.{Some, None}
use Rattle.std.proofs.Common.{arith}
use Rattle.std.proofs.lemmas.List.{length-map}
use Rattle.laws.specs.All.{All, all_get, all_as}
use Rattle.units.specs.declared.ObjectId.{ObjectId}
use Rattle.types.specs.declared.thread.ThreadStatus.{ThreadStatus}
use Rattle.types.specs.declared.thread.ThreadStatus.TheVariants.{Dead, Running, Ready, Sleeping, WaitSync, WaitArbiter, Dormant}
use Rattle.types.specs.declared.thread.Thread.{Thread}
use Rattle.types.specs.declared.object.ObjectStore.{ObjectStore}
use Rattle.types.specs.Thread.{wait_list, is_dead}
use Rattle.block.proofs.Fits.{ThreadFits}
use Rattle.sound.specs.View.{ids, no_thread, object_at, thread_at}
use Rattle.sound.specs.Objects.{Live}
use Rattle.soundness.specs.Slots.{pick-both}
use Rattle.soundness.specs.Fits.{Word}
use Rattle.pass.specs.declared.Fate.{Fate}
use Rattle.pass.specs.declared.Fate.TheVariants.{Stays, Given, TimedOut, Slept}
use Rattle.pass.specs.Signal.{is_signaled}
use Rattle.pass.specs.Timers.{due_by}
use Rattle.pass.specs.Waits.{all_signaled, first_signaled, satisfied_at, waited_objects, fate_of, fate_as, fate}

-- ---- the index of a wait is within its list
abbrev pub IndexOk : ℕ → Option ℕ → Type 0
IndexOk n None = Unit {0}
IndexOk n (Some i) = i ≤ n

first_in : (ts : List Thread) (s : ObjectStore) (w n : ℕ) (os : List ℕ) (i : ℕ) → i + length os ≤ n → IndexOk n (first_signaled ts s w i os)
unfolding first_signaled
first_in ts s w n [] i h = tt
first_in ts s w n (o ∷ os) i h =
    pick-both (IndexOk n) (is_signaled ts (object_at s o) w) (Some i) (first_signaled ts s w (i + 1) os) (omega arith)
    (first_in ts s w n os (i + 1) (omega arith))

pub satisfied-in : (ts : List Thread) (s : ObjectStore) (w : ℕ) (all : Bool) (os : List ℕ) → IndexOk (length os) (satisfied_at ts s w all os)
satisfied-in ts s w true os = pick-both (IndexOk (length os)) (all_signaled ts s w os) (Some 0) None (omega arith) tt
satisfied-in ts s w false os = first_in ts s w (length os) os 0 (omega arith)

pub take-length : (n : ℕ) (l : List ℕ) → length (take n l) ≤ length l
take-length zero l = omega arith
take-length (suc n) [] = omega arith
take-length (suc n) (x ∷ l) = omega (arith, take-length n l)

-- ---- a thread that does not stay was not Dead, and its index fits
abbrev pub FateOk : List Thread → ℕ → Fate → Type 0
FateOk ts t Stays = Unit {0}
FateOk ts t (Given i) = Live ts t × Word i
FateOk ts t TimedOut = Live ts t
FateOk ts t Slept = Live ts t

module _ (ts : List Thread) (t : ℕ) where
  given-ok : (n : ℕ) → Word n → (found : Option ℕ) → IndexOk n found → Live ts t → (late : Bool)
      → FateOk ts t (fate_of found late)
  given-ok n w (Some i) h l late = (l, omega arith)
  given-ok n w None h l late = pick-both (FateOk ts t) late TimedOut Stays l tt

  fate-as : (n : ℕ) → Word n → (x : ThreadStatus) (found : Option ℕ) → IndexOk n found → (late : Bool)
      → is_dead (thread_at ts t).status ≡ is_dead x → FateOk ts t (fate_as x found late)
  fate-as n w Dead found h late e = tt
  fate-as n w Running found h late e = tt
  fate-as n w Ready found h late e = tt
  fate-as n w Sleeping found h late e = pick-both (FateOk ts t) late Slept Stays e tt
  fate-as n w WaitSync found h late e = given-ok n w found h e late
  fate-as n w WaitArbiter found h late e = pick-both (FateOk ts t) late TimedOut Stays e tt
  fate-as n w Dormant found h late e = tt

-- a list of a thread has at most 12 objects; past the table there is none
pub fate-ok : (ts : List Thread) (s : ObjectStore) (tick t : ℕ) → length (thread_at ts t).wait_objects ≤ wait_list → FateOk ts t (fate ts s tick t)
unfolding fate
fate-ok ts s tick t h =
    let x : Thread = thread_at ts t in
    fate-as ts t (length (waited_objects x)) (omega (arith, take-length x.wait_count (ids x.wait_objects), length-map x.wait_objects (λ (o : ObjectId). o.0))) x.status
    (satisfied_at ts s t x.wait_all (waited_objects x)) (satisfied-in ts s t x.wait_all (waited_objects x)) (due_by x.wakeup_at tick) refl

pub list-short : (ts : List Thread) (t : ℕ) → All ThreadFits ts → length (thread_at ts t).wait_objects ≤ wait_list
list-short ts t a =
    all_get (λ (x : Thread). length x.wait_objects ≤ wait_list) ts t no_thread (omega arith)
    (all_as ThreadFits (λ (x : Thread). length x.wait_objects ≤ wait_list) (λ x f. omega (arith, f.2)) ts a)
