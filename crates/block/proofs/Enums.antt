-- The numbers of the enums: each fits a word, and comes back as what it stands for. Assumes nothing.
use Rattle.std.specs.Prelude.{Option, Some, None}
use Rattle.units.specs.declared.Ticks.{Ticks}
use mathlib.Core.Path.{◌≡◌, refl}
use mathlib.Core.Bool.{Bool, true, false, cond}
use Prim.Native.Nat.{ℕ, ◌^◌, ◌<◌}
use native.Mathlib.Omega.{arith}
use lib.Dec.{eqb}
use Rattle.codec.proofs.Fit.{flag-back, flag-fits}
use Rattle.types.specs.declared.thread.ThreadStatus.{ThreadStatus}
use Rattle.types.specs.declared.thread.ThreadStatus.TheVariants.{Dead, Running, Ready, Sleeping, WaitSync, WaitArbiter, Dormant}
use Rattle.types.specs.declared.thread.WaitResult.{WaitResult}
use Rattle.types.specs.declared.thread.WaitResult.TheVariants.{Signaled, TimedOut}
use Rattle.types.specs.declared.thread.WaitSyscall.{WaitSyscall}
use Rattle.types.specs.declared.thread.WaitSyscall.TheVariants.{WaitSynchronization1, WaitSynchronizationN, ArbitrateAddress, SleepThread}
use Rattle.types.specs.declared.sync.ResetType.{ResetType}
use Rattle.types.specs.declared.sync.ResetType.TheVariants.{OneShot, Sticky, Pulse}
use Rattle.types.specs.declared.object.KObject.{KObject}
use Rattle.types.specs.declared.object.KObject.TheVariants.{Free, Thread, Event, Mutex, Semaphore, Timer, AddressArbiter, Process, ResourceLimit}
use Rattle.types.specs.Thread.{option_flag, option_value, option_of, tick_value, tick_option, status_number, status_of, result_number, result_index, result_of, syscall_number, syscall_of}
use Rattle.types.specs.Sync.{reset_number, reset_from_raw}
use Rattle.block.specs.declared.slot.ObjectWords.{ObjectWords}
use Rattle.block.specs.Slot.{object_words, object_of}

-- ---- options
pub option-back : (o : Option ℕ) → option_of (option_flag o) (option_value o) ≡ o
option-back None = refl
option-back (Some t) = refl

pub option-flag-fits : {A : Type 0} (o : Option A) → option_flag o < 256 ^ 4
option-flag-fits None = omega arith
option-flag-fits (Some x) = omega arith

pub tick-option-back : (o : Option Ticks) → tick_option (option_flag o) (tick_value o) ≡ o
tick-option-back None = refl
tick-option-back (Some t) = refl

-- ---- statuses, results, syscalls, reset types
pub status-back : (s : ThreadStatus) → status_of (status_number s) ≡ s
status-back Dead = refl
status-back Running = refl
status-back Ready = refl
status-back Sleeping = refl
status-back WaitSync = refl
status-back WaitArbiter = refl
status-back Dormant = refl

pub status-fits : (s : ThreadStatus) → status_number s < 256 ^ 4
status-fits Dead = omega arith
status-fits Running = omega arith
status-fits Ready = omega arith
status-fits Sleeping = omega arith
status-fits WaitSync = omega arith
status-fits WaitArbiter = omega arith
status-fits Dormant = omega arith

pub result-back : (r : Option WaitResult) → result_of (result_number r) (result_index r) ≡ r
result-back None = refl
result-back (Some (Signaled i)) = refl
result-back (Some TimedOut) = refl

pub result_fits : (r : Option WaitResult) → result_number r < 256 ^ 4
result_fits None = omega arith
result_fits (Some (Signaled i)) = omega arith
result_fits (Some TimedOut) = omega arith

pub syscall_back : (s : Option WaitSyscall) → syscall_of (syscall_number s) ≡ s
syscall_back None = refl
syscall_back (Some WaitSynchronization1) = refl
syscall_back (Some WaitSynchronizationN) = refl
syscall_back (Some ArbitrateAddress) = refl
syscall_back (Some SleepThread) = refl

pub syscall_fits : (s : Option WaitSyscall) → syscall_number s < 256 ^ 4
syscall_fits None = omega arith
syscall_fits (Some WaitSynchronization1) = omega arith
syscall_fits (Some WaitSynchronizationN) = omega arith
syscall_fits (Some ArbitrateAddress) = omega arith
syscall_fits (Some SleepThread) = omega arith

pub reset_back : (r : ResetType) → reset_from_raw (reset_number r) ≡ r
reset_back OneShot = refl
reset_back Sticky = refl
reset_back Pulse = refl

pub reset_fits : (r : ResetType) → reset_number r < 256 ^ 4
reset_fits OneShot = omega arith
reset_fits Sticky = omega arith
reset_fits Pulse = omega arith

-- ---- what a choice picks
pick : {A : Type 0} (P : A → Type 0) (b : Bool) {x y : A} → P x → P y → P (cond b x y)
pick P true p q = p
pick P false p q = q

pub option_value_fits : (f v : ℕ) → v < 256 ^ 4 → option_value (option_of f v) < 256 ^ 4
option_value_fits f v h = pick (λ o. option_value o < 256 ^ 4) (eqb f 1) h (omega arith)

pub tick_value_fits : (f v : ℕ) → v < 256 ^ 8 → tick_value (tick_option f v) < 256 ^ 8
tick_value_fits f v h = pick (λ o. tick_value o < 256 ^ 8) (eqb f 1) h (omega arith)

pub result-index-fits : (n i : ℕ) → i < 256 ^ 4 → result_index (result_of n i) < 256 ^ 4
result-index-fits n i h =
    pick (λ r. result_index r < 256 ^ 4) (eqb n 1) h
    (pick (λ r. result_index r < 256 ^ 4) (eqb n 2) (omega arith) (omega arith))

-- ---- objects
pub object-back : (o : KObject) → object_of (object_words o) ≡ o
object-back (Free n) = refl
object-back (Thread t) = refl
object-back (Event e) = λ i. Event (record { reset_type = reset_back e.reset_type i; signaled = flag-back e.signaled i })
object-back (Mutex m) = λ i. Mutex (record { owner = option-back m.owner i; lock_count = m.lock_count })
object-back (Semaphore s) = refl
object-back (Timer t) = λ i. Timer (record { reset_type = reset_back t.reset_type i; signaled = flag-back t.signaled i; fire_at = tick-option-back t.fire_at i; interval = t.interval })
object-back (AddressArbiter a) = refl
object-back Process = refl
object-back ResourceLimit = refl

-- each number of an object fits its field
pub record ObjectFits (w : ObjectWords) : Type 0 where
  pub kind : w.kind < 256 ^ 4
  pub a : w.a < 256 ^ 4
  pub b : w.b < 256 ^ 4
  pub c : w.c < 256 ^ 4
  pub x : w.x < 256 ^ 8
  pub y : w.y < 256 ^ 8

-- whatever numbers an object is read from
pub object-fits : (w : ObjectWords) → ObjectFits w → ObjectFits (object_words (object_of w))
object-fits w f =
    let n = w.kind in
    let P : KObject → Type 0 = λ o. ObjectFits (object_words o) in
    let z : 0 < 256 ^ 4 = omega arith in
    let z' : 0 < 256 ^ 8 = omega arith in
    pick P (eqb n 1) (record { kind = omega arith; a = f.a; b = z; c = z; x = z'; y = z' })
    (pick P (eqb n 2) (record { kind = omega arith; a = reset_fits (reset_from_raw w.a); b = flag-fits (eqb w.b 1); c = z; x = z'; y = z' })
    (pick P (eqb n 3) (record { kind = omega arith; a = option-flag-fits (option_of w.a w.b); b = option_value_fits w.a w.b f.b; c = f.c; x = z'; y = z' })
    (pick P (eqb n 4) (record { kind = omega arith; a = f.a; b = f.b; c = z; x = z'; y = z' })
    (pick P (eqb n 5) (record { kind = omega arith; a = reset_fits (reset_from_raw w.a); b = flag-fits (eqb w.b 1); c = option-flag-fits (tick_option w.c w.x); x = tick_value_fits w.c w.x f.x; y = f.y })
    (pick P (eqb n 6) (record { kind = omega arith; a = f.a; b = z; c = z; x = z'; y = z' })
    (pick P (eqb n 7) (record { kind = omega arith; a = z; b = z; c = z; x = z'; y = z' })
    (pick P (eqb n 8) (record { kind = omega arith; a = z; b = z; c = z; x = z'; y = z' })
    (record { kind = omega arith; a = f.a; b = z; c = z; x = z'; y = z' }))))))))
