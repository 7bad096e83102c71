-- Numbers of the kinds of object.rs, and what an object says of chains.
use Rattle.std.specs.Prelude.{ℕ}
use Rattle.types.specs.declared.object.KObject.{KObject}
use Rattle.types.specs.declared.object.KObject.TheVariants.{Free, Thread, Event, Mutex, Semaphore, Timer, AddressArbiter, Process, ResourceLimit}

-- 0 is a dead slot
abbrev pub kind_number : KObject → ℕ
kind_number (Free n) = 0
kind_number (Thread t) = 1
kind_number (Event e) = 2
kind_number (Mutex m) = 3
kind_number (Semaphore s) = 4
kind_number (Timer t) = 5
kind_number (AddressArbiter a) = 6
kind_number Process = 7
kind_number ResourceLimit = 8

-- the next of the free chain, of a dead slot
abbrev pub next_of : KObject → ℕ
next_of (Free n) = n
next_of (Thread t) = 0
next_of (Event e) = 0
next_of (Mutex m) = 0
next_of (Semaphore s) = 0
next_of (Timer t) = 0
next_of (AddressArbiter a) = 0
next_of Process = 0
next_of ResourceLimit = 0

-- the first record of an arbiter
abbrev pub head_of : KObject → ℕ
head_of (Free n) = 0
head_of (Thread t) = 0
head_of (Event e) = 0
head_of (Mutex m) = 0
head_of (Semaphore s) = 0
head_of (Timer t) = 0
head_of (AddressArbiter a) = a.waiters
head_of Process = 0
head_of ResourceLimit = 0
