-- The calls on mutexes, semaphores and events leave a timer's clock.
use Rattle.std.specs.Prelude.{◌≡◌, not, eqb}
use Rattle.std.proofs.Math.Path.{refl}
use Rattle.std.proofs.Common.{ap, sym, ◌∙◌}
use Rattle.std.proofs.Math.Bool.{false}
use Prim.Native.Nat.{ℕ}
use Rattle.types.specs.declared.object.KObject.{KObject}
use Rattle.types.specs.declared.object.KObject.TheVariants.{Free, Thread, Event, Mutex, Semaphore, Timer, AddressArbiter, Process, ResourceLimit}
use Rattle.types.specs.declared.object.ObjectStore.{ObjectStore}
use Rattle.types.specs.declared.kernel.Kernel.{Kernel}
use Rattle.types.specs.Sync.{reset_from_raw}
use Rattle.sound.specs.View.{object_at}
use Rattle.soundness.specs.Slots.{pick-both}
use Rattle.svc.specs.declared.Registers.{Registers}
use Rattle.svc.specs.declared.Served.{Served}
use Rattle.svc.specs.Call.{with_objects, resolved}
use Rattle.svc.specs.Sync.{new_mutex, create_mutex, unlocked, release_mutex_as, release_mutex, create_semaphore, released_semaphore, release_semaphore_as, release_semaphore, create_event, signal_event, clear_event}
use Rattle.timing.specs.Clock as timing
use Rattle.timing.specs.Clock.{clock_of, clock_at, content-clock, signal-clock}
use Rattle.timing.specs.Keeps.{FirstFree}
use Rattle.clocks.specs.Resolves.{Used, create_object-clock, resolved-clock}

-- the object r of the state k is the mutex or the semaphore, or another
mutex_as : (x : KObject) (k : Kernel) (r o : ℕ) → object_at k.objects r ≡ x → clock_at (release_mutex_as x k r).kernel.objects o ≡ clock_at k.objects o
mutex_as (Free n) k r o e = refl
mutex_as (Thread t) k r o e = refl
mutex_as (Event v) k r o e = refl
mutex_as (Mutex m) k r o e = content-clock k.objects r (Mutex (unlocked m)) (sym (ap clock_of e)) o
mutex_as (Semaphore s) k r o e = refl
mutex_as (Timer t) k r o e = refl
mutex_as (AddressArbiter a) k r o e = refl
mutex_as Process k r o e = refl
mutex_as ResourceLimit k r o e = refl

semaphore_as : (x : KObject) (k : Kernel) (r n o : ℕ) → object_at k.objects r ≡ x → clock_at (release_semaphore_as x k r n).kernel.objects o ≡ clock_at k.objects o
semaphore_as (Free m) k r n o e = refl
semaphore_as (Thread t) k r n o e = refl
semaphore_as (Event v) k r n o e = refl
semaphore_as (Mutex m) k r n o e = refl
semaphore_as (Semaphore s) k r n o e = content-clock k.objects r (Semaphore (released_semaphore s n)) (sym (ap clock_of e)) o
semaphore_as (Timer t) k r n o e = refl
semaphore_as (AddressArbiter a) k r n o e = refl
semaphore_as Process k r n o e = refl
semaphore_as ResourceLimit k r n o e = refl

module _ (k : Kernel) (f : FirstFree k.objects) (o : ℕ) (u : Used k.objects o) (r : Registers) where
  pub create_mutex-clock : clock_at (create_mutex k r).kernel.objects o ≡ clock_at k.objects o
  unfolding create_mutex
  create_mutex-clock = create_object-clock k f o u (Mutex (new_mutex k.current_thread (not (eqb r.r1 0))))

  pub create_semaphore-clock : clock_at (create_semaphore k r).kernel.objects o ≡ clock_at k.objects o
  unfolding create_semaphore
  create_semaphore-clock = create_object-clock k f o u (Semaphore (record { count = r.r1; max_count = r.r2 }))

  pub create_event-clock : clock_at (create_event k r).kernel.objects o ≡ clock_at k.objects o
  unfolding create_event
  create_event-clock = create_object-clock k f o u (Event (record { reset_type = reset_from_raw r.r1; signaled = false }))

  pub release_mutex-clock : clock_at (release_mutex k r).kernel.objects o ≡ clock_at k.objects o
  unfolding release_mutex
  release_mutex-clock =
      let s : ObjectStore = (resolved k r.r0).store in
      let q : ℕ = (resolved k r.r0).object.0 in
      mutex_as (object_at s q) (with_objects k s) q o refl ∙ resolved-clock k f o u r.r0

  pub release_semaphore-clock : clock_at (release_semaphore k r).kernel.objects o ≡ clock_at k.objects o
  unfolding release_semaphore
  release_semaphore-clock =
      let s : ObjectStore = (resolved k r.r1).store in
      let q : ℕ = (resolved k r.r1).object.0 in
      semaphore_as (object_at s q) (with_objects k s) q r.r2 o refl ∙ resolved-clock k f o u r.r1

  pub signal_event-clock : clock_at (signal_event k r).kernel.objects o ≡ clock_at k.objects o
  unfolding signal_event
  signal_event-clock =
      let s : ObjectStore = (resolved k r.r0).store in
      let q : ℕ = (resolved k r.r0).object.0 in
      pick-both (λ (v : Served). clock_at v.kernel.objects o ≡ clock_at s o) (eqb q 0) _ _ refl (signal-clock s k.threads q o) ∙ resolved-clock k f o u r.r0

  pub clear_event-clock : clock_at (clear_event k r).kernel.objects o ≡ clock_at k.objects o
  unfolding clear_event
  clear_event-clock =
      let s : ObjectStore = (resolved k r.r0).store in
      let q : ℕ = (resolved k r.r0).object.0 in
      pick-both (λ (v : Served). clock_at v.kernel.objects o ≡ clock_at s o) (eqb q 0) _ _ refl (timing.clear_event-clock s q o) ∙ resolved-clock k f o u r.r0
