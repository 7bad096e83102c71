-- A turn of the loop over calm threads, and the cases of a quiet release. Assumes nothing.
use Rattle.std.specs.Prelude.{Option, Some, None}
use Rattle.std.specs.Option.{is_some}
use mathlib.Core.Path.{◌≡◌, refl, ap, sym, ◌∙◌}
use mathlib.Core.Bool.{Bool, true, false, not}
use mathlib.Core.List.{List}
use Prim.Native.Nat.{ℕ, ◌+◌, ◌≤◌, ◌<◌}
use native.Mathlib.Numerals.{add-one}
use Rattle.std.proofs.lemmas.Grind.{common_steps}
use lib.Dec.{eqb}
use lib.ListN.{length, drop, drop_of_length-le}
use lib.Seq.{drop-cons}
use Rattle.laws.specs.Logic.{◌and◌, and_no, and_yes, and_assoc}
use Rattle.types.specs.declared.thread.Thread as th
use Rattle.types.specs.declared.thread.WaitResult.{WaitResult}
use Rattle.types.specs.declared.thread.WaitResult.TheVariants.{Signaled, TimedOut}
use Rattle.types.specs.declared.thread.WaitSyscall.{WaitSyscall}
use Rattle.types.specs.declared.thread.WaitSyscall.TheVariants.{WaitSynchronization1, WaitSynchronizationN, ArbitrateAddress, SleepThread}
use Rattle.types.specs.declared.sync.Mutex as mu
use Rattle.types.specs.declared.object.KObject.{KObject}
use Rattle.types.specs.declared.object.KObject.TheVariants.{Free, Thread, Event, Mutex, Semaphore, Timer, AddressArbiter, Process, ResourceLimit}
use Rattle.types.specs.declared.object.Slot.{Slot}
use Rattle.types.specs.declared.kernel.Kernel.{Kernel}
use Rattle.types.specs.Thread.{result_number, syscall_number}
use Rattle.sound.specs.View.{slot_at, object_at, thread_at, no_thread, thread_at-out}
use Rattle.rows.specs.Sizes.{size-threads}
use Rattle.due.proofs.Looked.{thread-is}
use Rattle.pass.specs.declared.Release.TheVariants.{Frees}
use Rattle.pass.specs.Signal.{any_pulsed}
use Rattle.pass.specs.Timers.{timer_due}
use Rattle.pass.specs.Pick.{is_running}
use Rattle.pass.specs.Schedule.{starves}
use Rattle.pass.specs.Asks.{open_object, calm, calm_from, frees_quietly, release_as, quiet_release}
use Rattle.quiet_release.specs.Alone.{alone}

-- ---- the threads from number i on
module _ (o c p : ℕ) (ts : List th.Thread) (i : ℕ) where
  calm-step : i < length ts → calm_from o c p i (drop i ts) ≡ calm o c p i (thread_at ts i) (thread_at ts i).status and calm_from o c p (i + 1) (drop (i + 1) ts)
  unfolding calm_from
  calm-step h = rw (drop-cons ts i no_thread h, add-one)

  pub calm-no : i < length ts → calm o c p i (thread_at ts i) (thread_at ts i).status ≡ false → false ≡ calm_from o c p i (drop i ts)
  calm-no h e = sym (calm-step h ∙ and_no (calm o c p i (thread_at ts i) (thread_at ts i).status) (calm_from o c p (i + 1) (drop (i + 1) ts)) e)

  pub calm-yes : i < length ts → calm o c p i (thread_at ts i) (thread_at ts i).status ≡ true
      → calm_from o c p (i + 1) (drop (i + 1) ts) ≡ calm_from o c p i (drop i ts)
  calm-yes h e = sym (calm-step h ∙ and_yes (calm o c p i (thread_at ts i) (thread_at ts i).status) (calm_from o c p (i + 1) (drop (i + 1) ts)) e)

  pub calm-end : length ts ≤ i → true ≡ calm_from o c p i (drop i ts)
  unfolding calm_from
  calm-end h = rw (drop_of_length-le ts h)

-- ---- a thread that runs alone, as the code asks one part after the other; `is_none` tells that no value is there
told-none : (a b : Bool) → a ≡ not b → b ≡ not a
told-none a true e = rw e
told-none a false e = rw e

pub no_result : (r : Option WaitResult) (b : Bool) → is_some r ≡ not b → b ≡ eqb (result_number r) 0
no_result None b e = told-none false b e
no_result (Some (Signaled i)) b e = told-none true b e
no_result (Some TimedOut) b e = told-none true b e

pub no_syscall : (s : Option WaitSyscall) (b : Bool) → is_some s ≡ not b → b ≡ eqb (syscall_number s) 0
no_syscall None b e = told-none false b e
no_syscall (Some WaitSynchronization1) b e = told-none true b e
no_syscall (Some WaitSynchronizationN) b e = told-none true b e
no_syscall (Some ArbitrateAddress) b e = told-none true b e
no_syscall (Some SleepThread) b e = told-none true b e

pub alone-is : (t : th.Thread) (tick : ℕ) (u v w : Bool) → u ≡ (is_running t.status and not t.waited) → v ≡ (u and not (starves t tick))
    → w ≡ (v and eqb (result_number t.wait_result) 0) → w and eqb (syscall_number t.wait_syscall) 0 ≡ alone t tick
alone-is t tick u v w e f g =
    let r : Bool = eqb (result_number t.wait_result) 0 in
    let s : Bool = eqb (syscall_number t.wait_syscall) 0 in
    rw (g, f, e)
    (ap (λ x. (x and r) and s) (sym (and_assoc (is_running t.status) (not t.waited) (not (starves t tick))))
    ∙ sym (and_assoc (is_running t.status and (not t.waited and not (starves t tick))) r s))

-- ---- the cases of a release by the thread c, as the code tests them
module _ (k : Kernel) (c o tick : ℕ) where
  abbrev t : th.Thread
  t = thread_at k.threads c

  abbrev on : Bool
  on = is_running t.status and (not t.waited and not (starves t tick))

  abbrev free : Bool
  free = eqb (result_number t.wait_result) 0 and eqb (syscall_number t.wait_syscall) 0

  -- nothing is due
  abbrev still : Bool
  still = not (any_pulsed k.objects.slots) and not (timer_due tick k.objects.slots)

  abbrev others : Bool
  others = calm_from o c t.priority 0 k.threads

  pub not-alone : alone t tick ≡ false → None ≡ frees_quietly (Some c) k o tick
  unfolding ◌and◌
  not-alone e = rw (and_assoc on free still, e)

  pub no-thread : length k.threads ≤ c → None ≡ frees_quietly (Some c) k o tick
  unfolding ◌and◌
  no-thread h = not-alone (rw (thread_at-out k.threads c h))

  pub some-due : alone t tick ≡ true → still ≡ false → None ≡ frees_quietly (Some c) k o tick
  unfolding ◌and◌
  some-due e f = rw (and_assoc on free still, e, f)

  pub not_calm : alone t tick ≡ true → still ≡ true → others ≡ false → None ≡ frees_quietly (Some c) k o tick
  unfolding ◌and◌
  not_calm e f g = rw (and_assoc on free still, e, f, g)

  pub quiet : alone t tick ≡ true → still ≡ true → others ≡ true → Some (Frees (record { 0 = o })) ≡ frees_quietly (Some c) k o tick
  unfolding ◌and◌
  quiet e f g = rw (and_assoc on free still, e, f, g)

-- ---- the object that the handle names
pub release-is : (k : Kernel) (h tick n : ℕ) (x : Slot) → n ≡ open_object k h → x ≡ slot_at k.objects.slots n → release_as x.object k n tick ≡ quiet_release k h tick
unfolding quiet_release
release-is k h tick n x e f = ap (λ (y : Slot). release_as y.object k n tick) f ∙ ap (λ (m : ℕ). release_as (object_at k.objects m) k m tick) e

-- what is no mutex is not let go of
pub not_mutex : (x : KObject) (k : Kernel) (o tick : ℕ) → ((m : mu.Mutex) → x ≡ Mutex m → ⊥) → None ≡ release_as x k o tick
not_mutex (Free n) k o tick z = refl
not_mutex (Thread u) k o tick z = refl
not_mutex (Event e) k o tick z = refl
not_mutex (Mutex m) k o tick z = absurd (z m refl)
not_mutex (Semaphore s) k o tick z = refl
not_mutex (Timer t) k o tick z = refl
not_mutex (AddressArbiter a) k o tick z = refl
not_mutex Process k o tick z = refl
not_mutex ResourceLimit k o tick z = refl

pub ruleset turns = (common_steps, size-threads, thread-is, calm-no, calm-yes, calm-end)
