-- Tests of an enum by its variant, and the number that each one tells.
use Rattle.std.specs.Prelude.{Bool, true, false, ◌≡◌, refl, eqb}
use Rattle.types.specs.declared.object.KObject.{KObject}
use Rattle.types.specs.declared.object.KObject.TheVariants.{Free, Thread, Event, Mutex, Semaphore, Timer, AddressArbiter, Process, ResourceLimit}
use Rattle.types.specs.Object.{kind_number}

-- a dead slot
abbrev pub free? : KObject → Bool
free? (Free n) = true
free? (Thread t) = false
free? (Event e) = false
free? (Mutex m) = false
free? (Semaphore s) = false
free? (Timer t) = false
free? (AddressArbiter a) = false
free? Process = false
free? ResourceLimit = false

pub free-number : (o : KObject) → free? o ≡ eqb (kind_number o) 0
free-number (Free n) = refl
free-number (Thread t) = refl
free-number (Event e) = refl
free-number (Mutex m) = refl
free-number (Semaphore s) = refl
free-number (Timer t) = refl
free-number (AddressArbiter a) = refl
free-number Process = refl
free-number ResourceLimit = refl

-- a mutex
abbrev pub mutex? : KObject → Bool
mutex? (Free n) = false
mutex? (Thread t) = false
mutex? (Event e) = false
mutex? (Mutex m) = true
mutex? (Semaphore s) = false
mutex? (Timer t) = false
mutex? (AddressArbiter a) = false
mutex? Process = false
mutex? ResourceLimit = false

pub mutex_number : (o : KObject) → mutex? o ≡ eqb (kind_number o) 3
mutex_number (Free n) = refl
mutex_number (Thread t) = refl
mutex_number (Event e) = refl
mutex_number (Mutex m) = refl
mutex_number (Semaphore s) = refl
mutex_number (Timer t) = refl
mutex_number (AddressArbiter a) = refl
mutex_number Process = refl
mutex_number ResourceLimit = refl

-- a timer
abbrev pub timer? : KObject → Bool
timer? (Free n) = false
timer? (Thread t) = false
timer? (Event e) = false
timer? (Mutex m) = false
timer? (Semaphore s) = false
timer? (Timer t) = true
timer? (AddressArbiter a) = false
timer? Process = false
timer? ResourceLimit = false

pub timer_number : (o : KObject) → timer? o ≡ eqb (kind_number o) 5
timer_number (Free n) = refl
timer_number (Thread t) = refl
timer_number (Event e) = refl
timer_number (Mutex m) = refl
timer_number (Semaphore s) = refl
timer_number (Timer t) = refl
timer_number (AddressArbiter a) = refl
timer_number Process = refl
timer_number ResourceLimit = refl
