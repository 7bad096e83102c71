-- The premises of demand 3 can be met, and each outcome that it speaks of occurs: operations one after the other from a fresh start, computed by the definitions.
use Rattle.units.specs.declared.Ticks.{Ticks}
use Rattle.std.specs.Prelude.{◌≡◌, Bool, true, false, not, ◌⊎◌, List, [], ◌∷◌, ℕ, zero, suc, ◌+◌, ◌*◌, ◌<◌, eqb, ltb}
use Rattle.std.specs.Prelude.{Option, None}
use Rattle.laws.specs.Logic.{◌and◌, ◌or◌}
use Rattle.types.specs.declared.thread.Thread.{Thread}
use Rattle.types.specs.declared.kernel.Kernel.{Kernel}
use Rattle.sound.specs.View.{object_at, thread_at}
use Rattle.kernel.specs.Fresh.{fresh}
use Rattle.thread.specs.Threads.{create_thread, end_thread}
use Rattle.pass.specs.Schedule.{schedule}
use Rattle.svc.specs.declared.Registers.{Registers}
use Rattle.svc.specs.Collect.{collect}
use Rattle.svc.specs.Dispatch.{given, call}
use Rattle.demand.specs.Words.{in_ticks, runnable?, starts, creates, passes, looks, ends, calls, collects, Event, Begins, Spared, given?, pass?, TimesOut, FirstPass, NotGiven, LowestAt, RunsAt, IfElse, due_at, Sets, Open, Left, cut_off, OnGrid, Runs, KeepsGrid}

-- ---- accepted operations, by the definitions
abbrev pub passed : Kernel → ℕ → Event
passed k tick = record { accepted = true; before = k; does = passes tick; after = (schedule k tick).kernel }

-- with the words that it reads
abbrev pub reads : Kernel → ℕ → Registers → List ℕ → ℕ → Event
reads k number r words tick = record { accepted = true; before = k; does = calls number r words tick; after = (call number k (given number r) words tick).kernel }

abbrev pub called : Kernel → ℕ → Registers → ℕ → Event
called k number r tick = reads k number r [] tick

-- a fresh start that is refused
abbrev pub refused : Kernel → Event
refused k = record { accepted = false; before = k; does = starts 0; after = k }

abbrev pub looked : Kernel → Event
looked k = record { accepted = true; before = k; does = looks; after = k }

abbrev pub created : Kernel → ℕ → ℕ → ℕ → Event
created k entry stack priority = record { accepted = true; before = k; does = creates entry stack priority 0; after = create_thread k entry stack priority 0 }

abbrev pub ended : Kernel → ℕ → Event
ended k t = record { accepted = true; before = k; does = ends t; after = end_thread k t }

abbrev pub collected : Kernel → Event
collected k = record { accepted = true; before = k; does = collects; after = collect k }

abbrev pub regs : ℕ → ℕ → ℕ → Registers
regs a b c = record { r0 = a; r1 = b; r2 = c; r3 = 0; r4 = 0; r5 = 0 }

-- ---- what is shown of an operation e with those after it
-- a wait that ends by time-out at the operation i
pub record Late (e : Event) (es : List Event) : Type 0 where
  pub τ : ℕ
  pub n : ℕ
  pub t : ℕ
  pub i : ℕ
  pub begins : Begins e τ n t
  pub spared : Spared τ es
  pub first : FirstPass (t + in_ticks n) es i
  pub lacks : NotGiven τ es i
  pub ends : TimesOut τ es i

-- given at the operation i
abbrev pub GivenAt : ℕ → List Event → ℕ → Type 0
GivenAt τ [] i = ⊥
GivenAt τ (e ∷ es) zero = given? τ e ≡ true
GivenAt τ (e ∷ es) (suc i) = GivenAt τ es i

-- a wait that is given what it waits for at the operation i, before the pass j at which its time would be out
pub record Given (e : Event) (es : List Event) : Type 0 where
  pub τ : ℕ
  pub n : ℕ
  pub t : ℕ
  pub i : ℕ
  pub j : ℕ
  pub begins : Begins e τ n t
  pub spared : Spared τ es
  pub gives : GivenAt τ es i
  pub first : FirstPass (t + in_ticks n) es j
  pub before : i < j
  pub never : (h : ℕ) → TimesOut τ es h → ⊥

-- P holds of an accepted pass that is the next one
abbrev pub NextPass : (Event → Type 0) → List Event → Type 0
NextPass P [] = ⊥
NextPass P (e ∷ es) = IfElse (pass? e) (P e) (NextPass P es)

-- P holds of an accepted pass that is the first to find the thread awake, and of what comes after it
abbrev pub Awake : ℕ → (Event → List Event → Type 0) → List Event → Type 0
Awake τ P [] = ⊥
Awake τ P (e ∷ es) = IfElse (pass? e and runnable? (thread_at e.after.threads τ).status) (P e es) (Awake τ P es)

-- a thread that wakes the most urgent at two passes, of which Q holds
pub record Urgent (Q : ℕ → Event → Event → Type 0) (e : Event) (es : List Event) : Type 0 where
  pub τ : ℕ
  pub n : ℕ
  pub t : ℕ
  pub begins : Begins e τ n t
  pub spared : Spared τ es
  pub two : Awake τ (λ f fs. LowestAt τ f × NextPass (λ g. LowestAt τ g × Q τ f g) fs) es

abbrev pub AtFirst : ℕ → Event → Event → Type 0
AtFirst τ f g = RunsAt τ f

abbrev pub AtSecond : ℕ → Event → Event → Type 0
AtSecond τ f g = (RunsAt τ f → ⊥) × RunsAt τ g

-- a timer left alone by each operation, which is due at the next of some ticks after each
abbrev pub Dues : ℕ → List Event → List (Option Ticks) → Type 0
Dues o [] [] = Unit {0}
Dues o [] (d ∷ ds) = ⊥
Dues o (e ∷ es) [] = ⊥
Dues o (e ∷ es) (d ∷ ds) = Left o e × (due_at (object_at e.after.objects o) ≡ d) × Dues o es ds

pub record Armed (o t a b : ℕ) (dues : List (Option Ticks)) (e : Event) (es : List Event) : Type 0 where
  pub sets : Sets e o t a b
  pub held : Open o e.after
  pub due : due_at (object_at e.after.objects o) ≡ cut_off (t + in_ticks a)
  pub after : Dues o es dues

-- ---- the thread τ is the most urgent: a test of the places from j on, which a law turns into the fact
unfoldable pub below? : ℕ → ℕ → ℕ → List Thread → List Thread → Bool
below? p τ j bs [] = true
below? p τ j [] (a ∷ cs) = not (runnable? a.status) and below? p τ (suc j) [] cs
below? p τ j (b ∷ bs) (a ∷ cs) = (not (runnable? a.status) or (eqb j τ or ltb p b.priority)) and below? p τ (suc j) bs cs

-- ---- one thread, which runs, sleeps for 1,000 nanoseconds, 268 ticks, from tick 5 on
abbrev pub one : Kernel
one = (schedule (create_thread (fresh 0) 0x100 0x1000 10 0) 1).kernel

abbrev pub sleep : Event
sleep = called one 0x0A (regs 1000 0 0) 5

abbrev pub sleep272 : Event
sleep272 = passed sleep.after 272

abbrev pub sleep273 : Event
sleep273 = passed sleep272.after 273

-- for 1 nanosecond, 0 ticks; for 2^63 − 1, 2,472,895,395,379,634,344 ticks, to the last tick
abbrev pub short : Event
short = called one 0x0A (regs 1 0 0) 5

abbrev pub short4 : Event
short4 = passed short.after 4

abbrev pub short5 : Event
short5 = passed short4.after 5

abbrev pub long : Event
long = called one 0x0A (regs 0xFFFFFFFF 0x7FFFFFFF 0) 15973848678329917271

abbrev pub long_before : Event
long_before = passed long.after 18446744073709551614

abbrev pub long_at : Event
long_at = passed long_before.after 18446744073709551615

-- ---- two threads: the more urgent one makes an event and waits on it for as long, and at the pass after it the other runs
abbrev pub two : Kernel
two = (schedule (create_thread (create_thread (fresh 0) 0x100 0x1000 10 0) 0x200 0x2000 20 0) 1).kernel

abbrev pub make_event : Event
make_event = called two 0x17 (regs 0 0 0) 2

abbrev pub wait : Event
wait = called make_event.after 0x24 (regs 0x10000 0 1000) 5

abbrev pub wait6 : Event
wait6 = passed wait.after 6

-- which does not signal it
abbrev pub wait272 : Event
wait272 = passed wait6.after 272

abbrev pub wait273 : Event
wait273 = passed wait272.after 273

-- which signals it
abbrev pub signal : Event
signal = called wait6.after 0x18 (regs 0x10000 0 0) 7

abbrev pub given8 : Event
given8 = passed signal.after 8

abbrev pub given300 : Event
given300 = passed given8.after 300

-- it waits on the event as the only one of a list
abbrev pub wait_n : Event
wait_n = reads make_event.after 0x25 (regs 1000 0x4000 1) (0x10000 ∷ []) 5

abbrev pub wait_n272 : Event
wait_n272 = passed wait_n.after 272

abbrev pub wait_n273 : Event
wait_n273 = passed wait_n272.after 273

-- ---- it makes an arbiter and waits at an address whose word is below 5, by kind 3 and by kind 4; the other wakes it by kind 0
abbrev pub make_arbiter : Event
make_arbiter = called two 0x21 (regs 0 0 0) 2

abbrev pub below5 : ℕ → Registers
below5 kind = record { r0 = 0x10000; r1 = 0x4000; r2 = kind; r3 = 5; r4 = 1000; r5 = 0 }

abbrev pub park : ℕ → Event
park kind = reads make_arbiter.after 0x22 (below5 kind) (0 ∷ []) 5

abbrev pub park272 : ℕ → Event
park272 kind = passed (park kind).after 272

abbrev pub park273 : ℕ → Event
park273 kind = passed (park272 kind).after 273

abbrev pub wake1 : Registers
wake1 = record { r0 = 0x10000; r1 = 0x4000; r2 = 0; r3 = 1; r4 = 0; r5 = 0 }

abbrev pub wake : Event
wake = called (park272 3).after 0x22 wake1 272

abbrev pub woken273 : Event
woken273 = passed wake.after 273

-- ---- the more urgent one runs for more than 17,924,544 ticks and sleeps for one: the pass that wakes it lets the other run, the next lets it run
abbrev pub nap : Event
nap = called two 0x0A (regs 4 0 0) 20000000

abbrev pub nap1 : Event
nap1 = passed nap.after 20000001

abbrev pub nap2 : Event
nap2 = passed nap1.after 20000002

-- ---- a timer set at tick 10 with 1,000 and 2,000 nanoseconds, so for 268 ticks and every 536; and one with no interval
abbrev pub make_timer : Event
make_timer = called one 0x1A (regs 0 0 0) 2

abbrev pub arm : Event
arm = called make_timer.after 0x1B (regs 0x10000 2000 1000) 10

abbrev pub arm277 : Event
arm277 = passed arm.after 277

abbrev pub arm278 : Event
arm278 = passed arm277.after 278

abbrev pub arm1000 : Event
arm1000 = passed arm278.after 1000

abbrev pub arm1350 : Event
arm1350 = passed arm1000.after 1350

abbrev pub once : Event
once = called make_timer.after 0x1B (regs 0x10000 0 1000) 10

abbrev pub once277 : Event
once277 = passed once.after 277

abbrev pub once278 : Event
once278 = passed once277.after 278

-- ---- a thread arms a timer and sleeps, and until its time is out operations of every other kind are accepted
abbrev pub arm_too : Event
arm_too = called (called two 0x1A (regs 0 0 0) 2).after 0x1B (regs 0x10000 2000 1000) 10

abbrev pub sleep_too : Event
sleep_too = called arm_too.after 0x0A (regs 1000 0 0) 10

abbrev pub busy11 : Event
busy11 = passed sleep_too.after 11

abbrev pub busy_looks : Event
busy_looks = looked busy11.after

abbrev pub busy_creates : Event
busy_creates = created busy_looks.after 0x300 0x3000 30

abbrev pub busy_collects : Event
busy_collects = collected busy_creates.after

abbrev pub busy_ends : Event
busy_ends = ended busy_collects.after 2

abbrev pub busy_calls : Event
busy_calls = called busy_ends.after 0x17 (regs 0 0 0) 12

-- the other thread ends itself
abbrev pub busy_exits : Event
busy_exits = called busy_calls.after 0x09 (regs 0 0 0) 13

abbrev pub busy277 : Event
busy277 = passed busy_exits.after 277

abbrev pub busy278 : Event
busy278 = passed busy277.after 278

abbrev pub busy : List Event
busy = busy11 ∷ busy_looks ∷ busy_creates ∷ busy_collects ∷ busy_ends ∷ busy_calls ∷ busy_exits ∷ busy277 ∷ busy278 ∷ []

abbrev pub busy_dues : List (Option Ticks)
busy_dues = cut_off 278 ∷ cut_off 278 ∷ cut_off 278 ∷ cut_off 278 ∷ cut_off 278 ∷ cut_off 278 ∷ cut_off 278 ∷ cut_off 278 ∷ cut_off 278 ∷ cut_off (278 + 536) ∷ []

-- ---- all of it, computed
pub record Shown : Type 0 where
  -- "that wait ends by time-out": of a sleep, and of a wait on an object
  pub slept : Late sleep (sleep272 ∷ sleep273 ∷ [])
  pub shortest : Late short (short4 ∷ short5 ∷ [])
  pub longest : Late long (long_before ∷ long_at ∷ [])
  pub waited : Late wait (wait6 ∷ wait272 ∷ wait273 ∷ [])
  pub waited_n : Late wait_n (wait_n272 ∷ wait_n273 ∷ [])
  pub parked3 : Late (park 3) (park272 3 ∷ park273 3 ∷ [])
  pub parked4 : Late (park 4) (park272 4 ∷ park273 4 ∷ [])
  pub slept_too : Late sleep_too busy
  pub slept_still : Late sleep (refused sleep.after ∷ sleep272 ∷ sleep273 ∷ [])
  -- it is given what it waits for, and does not end by time-out at any operation
  pub gave : Given wait (wait6 ∷ signal ∷ given8 ∷ given300 ∷ [])
  pub woke : Given (park 3) (park272 3 ∷ wake ∷ woken273 ∷ [])
  -- "it runs at one of the two": at the first, or only at the second
  pub prompt : Urgent AtFirst wait (wait6 ∷ signal ∷ given8 ∷ given300 ∷ [])
  pub prompt_says : Runs wait (wait6 ∷ signal ∷ given8 ∷ given300 ∷ []) → RunsAt 0 given8 ⊎ RunsAt 0 given300
  pub relieved : Urgent AtSecond nap (nap1 ∷ nap2 ∷ [])
  pub relieved_says : Runs nap (nap1 ∷ nap2 ∷ []) → RunsAt 0 nap1 ⊎ RunsAt 0 nap2
  -- "a repeating timer never drifts": due after three periods
  pub repeats : Armed 1 10 1000 2000 (cut_off 278 ∷ cut_off (278 + 1 * 536) ∷ cut_off (278 + 2 * 536) ∷ cut_off (278 + 3 * 536) ∷ []) arm (arm277 ∷ arm278 ∷ arm1000 ∷ arm1350 ∷ [])
  pub repeats_says : KeepsGrid arm (arm277 ∷ arm278 ∷ arm1000 ∷ arm1350 ∷ []) → (k : ℕ) × (cut_off (278 + 3 * 536) ≡ cut_off (278 + k * 536))
  pub repeats_too : Armed 1 10 1000 2000 busy_dues arm_too (sleep_too ∷ busy)
  pub repeats_still : Armed 1 10 1000 2000 (cut_off 278 ∷ []) arm (refused arm.after ∷ [])
  -- "B = 0 disarms after one firing"
  pub single : Armed 1 10 1000 0 (cut_off 278 ∷ None ∷ []) once (once277 ∷ once278 ∷ [])
  pub single_says : KeepsGrid once (once277 ∷ once278 ∷ []) → OnGrid 10 1000 0 (277 ∷ 278 ∷ []) None
