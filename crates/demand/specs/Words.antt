-- Demand 3 of document 00, in the words of document 01, about operations one after the other.
use Rattle.units.specs.declared.Ticks.{Ticks}
use Rattle.std.specs.Prelude.{◌≡◌, Bool, true, false, not, ◌≢◌, ◌⊎◌, List, [], ◌∷◌, ◌++◌, map, ℕ, zero, suc, ◌+◌, ◌-◌}
use Rattle.std.specs.Prelude.{◌*◌, ◌/◌, ◌≤◌, ◌<◌, eqb, leb, ltb, take, get_or, Option, Some, None}
use Rattle.laws.specs.Logic.{pick, ◌and◌, ◌or◌}
use Rattle.laws.specs.All.{All}
use Rattle.laws.specs.Count.{count}
use Rattle.units.specs.declared.ObjectId.{ObjectId}
use Rattle.types.specs.declared.thread.ThreadStatus.{ThreadStatus}
use Rattle.types.specs.declared.thread.ThreadStatus.TheVariants.{Dead, Running, Ready, Sleeping, WaitSync, WaitArbiter, Dormant}
use Rattle.types.specs.declared.thread.Thread.{Thread}
use Rattle.types.specs.declared.object.KObject.{KObject}
use Rattle.types.specs.declared.object.KObject.TheVariants as object
use Rattle.types.specs.declared.object.HandleEntry.{HandleEntry}
use Rattle.types.specs.declared.object.HandleTable.{HandleTable}
use Rattle.types.specs.declared.object.ObjectStore.{ObjectStore}
use Rattle.types.specs.declared.kernel.Kernel.{Kernel}
use Rattle.types.specs.Thread.{option_flag, is_blocked, is_dead}
use Rattle.types.specs.Object.{kind_number}
use Rattle.sound.specs.View.{handled, ids, object_at, thread_at}
use Rattle.sound.specs.Threads.{is_current}
use Rattle.pass.specs.declared.Waits.{Waits}
use Rattle.pass.specs.Timers.{fire_timers}
use Rattle.pass.specs.Waits.{try_waits}
use Rattle.svc.specs.declared.Registers.{Registers}

-- ---- numbers
-- "d being the whole part of n × 268,111,856 / 1,000,000,000"
abbrev pub in_ticks : ℕ → ℕ
in_ticks n = n * 268111856 / 1000000000

-- two registers as a number of 64 bits
abbrev pub wide : ℕ → ℕ → ℕ
wide low high = low + high * 4294967296

-- "negative counts as 0", as a signed number of 64 bits
abbrev pub or_zero : ℕ → ℕ
or_zero n = pick (ltb 9223372036854775807 n) 0 n

-- "while this fits 64 bits (beyond: 2^64 − 1)"
abbrev pub cut : ℕ → ℕ
cut n = pick (ltb n 18446744073709551615) n 18446744073709551615

-- ---- "runnable"
abbrev pub runnable? : ThreadStatus → Bool
runnable? Dead = false
runnable? Running = true
runnable? Ready = true
runnable? Sleeping = false
runnable? WaitSync = false
runnable? WaitArbiter = false
runnable? Dormant = false

-- ---- operations
-- what an operation does to the state
pub data Doing : Type 0 where
  -- a fresh start with a default status word
  starts : (word : ℕ) → Doing
  -- the host makes a thread
  creates : (entry stack priority processor : ℕ) → Doing
  -- a pass at a tick
  passes : (tick : ℕ) → Doing
  -- next_event, satisfied_now and quiet_release change nothing
  looks : Doing
  -- the host ends a thread
  ends : (thread : ℕ) → Doing
  -- a guest call with the registers of the lent processor and the words that it reads, at a tick
  calls : (number : ℕ) → Registers → (words : List ℕ) → (tick : ℕ) → Doing
  -- collect
  collects : Doing

-- an operation of the list; "an operation that returns 0 or a kernel answer is accepted"
pub record Event : Type 0 where
  pub accepted : Bool
  pub before : Kernel
  pub does : Doing
  pub after : Kernel

-- ---- the object that a handle names, 0 if none
-- 0xFFFF8000 is the current thread's and 0xFFFF8001 the process's, if there is one; any other is in the table
unfoldable pub entry_of : List HandleEntry → ℕ → ℕ
entry_of [] h = 0
entry_of (e ∷ es) h = pick (eqb e.handle.0 h) e.object.0 (entry_of es h)

abbrev pub own_object : Option ℕ → List ObjectId → ℕ
own_object None kept = 0
own_object (Some t) kept = get_or (ids kept) t 0

abbrev pub named : Option ℕ → HandleTable → ObjectStore → ℕ → ℕ
named c t s h = pick (eqb h 0xFFFF8000) (own_object c s.thread_objects) (pick (eqb h 0xFFFF8001) s.process_object.0 (entry_of t.entries h))

-- ---- "what it waited for"
pub data Awaited : Type 0 where
  -- its time only
  time : Awaited
  -- all or one of a list of objects
  objects : (all : Bool) → (list : List ℕ) → Awaited
  -- a signal at an address
  signal : (address : Option ℕ) → Awaited
  -- it does not wait
  nothing : Awaited

-- by the thread's record: its status, and then its list or its address
abbrev pub awaits : ThreadStatus → Bool → List ℕ → Option ℕ → Awaited
awaits Dead all list place = nothing
awaits Running all list place = nothing
awaits Ready all list place = nothing
awaits Sleeping all list place = time
awaits WaitSync all list place = objects all list
awaits WaitArbiter all list place = signal place
awaits Dormant all list place = nothing

abbrev pub awaited_by : Thread → Awaited
awaited_by t = awaits t.status t.wait_all (take t.wait_count (ids t.wait_objects)) t.wait_address

-- by the call, with the object that each handle names: 0x0A its time; 0x22 a signal at the address in r1; 0x24 the object of the handle in r0;
-- 0x25 those of the handles that it reads, in their order, all of them unless r3 is 0
abbrev pub asks_for : ℕ → Registers → List ℕ → (ℕ → ℕ) → Awaited
asks_for number r words name =
    pick (eqb number 0x0A) time
    (pick (eqb number 0x22) (signal (Some r.r1))
    (pick (eqb number 0x24) (objects false (name r.r0 ∷ []))
    (pick (eqb number 0x25) (objects (not (eqb r.r3 0)) (map name words)) nothing)))

-- ---- "a wait of n nanoseconds is a call 0x0A, 0x24, 0x25 or 0x22 of kind 3 or 4 that parks with that time"
unfoldable pub wait_nanos : ℕ → Registers → ℕ
wait_nanos number r =
    pick (eqb number 0x0A) (wide r.r0 r.r1)
    (pick (eqb number 0x22) (wide r.r4 r.r5)
    (pick (eqb number 0x24) (wide r.r2 r.r3)
    (pick (eqb number 0x25) (wide r.r0 r.r4) 0)))

unfoldable pub timed_wait? : ℕ → Registers → Bool
timed_wait? number r = eqb number 0x0A or (eqb number 0x24 or (eqb number 0x25 or (eqb number 0x22 and (eqb r.r2 3 or eqb r.r2 4))))

-- "a call in the list begins a thread's wait of n nanoseconds, n from 1 to 2^63 − 1, at tick t; t + d fits 64 bits"
pub record Begins (e : Event) (τ n t : ℕ) : Type 0 where
  pub accept : e.accepted ≡ true
  pub number : ℕ
  pub registers : Registers
  pub words : List ℕ
  pub doing : e.does ≡ calls number registers words t
  pub wait : timed_wait? number registers ≡ true
  pub nanos : wait_nanos number registers ≡ n
  -- it is the current thread that calls, and it parks
  pub who : e.before.current_thread ≡ Some τ
  pub parks : is_blocked (thread_at e.after.threads τ).status ≡ true
  pub from : 1 ≤ n
  pub to : n < 9223372036854775808
  pub fits : t + in_ticks n < 18446744073709551616

-- what that call asks for: its handles by the table that it found; the object of a pseudo-handle may be made by the call, so it is looked up after it
abbrev pub asked_for : (e : Event) (τ n t : ℕ) → Begins e τ n t → Awaited
asked_for e τ n t b = asks_for b.number b.registers b.words (named (Some τ) e.before.handles e.after.objects)

-- ---- "nobody ends the thread or starts afresh"
abbrev pub strikes? : ℕ → Doing → Kernel → Bool
strikes? τ (starts word) k = true
strikes? τ (creates entry stack priority processor) k = false
strikes? τ (passes tick) k = false
strikes? τ looks k = false
strikes? τ (ends t) k = eqb t τ
-- 0x09 ends the current thread
strikes? τ (calls number r words tick) k = eqb number 0x09 and is_current k.current_thread τ
strikes? τ collects k = false

abbrev pub Spared : ℕ → List Event → Type 0
Spared τ [] = Unit {0}
Spared τ (e ∷ es) = (e.accepted and strikes? τ e.does e.before ≡ false) × Spared τ es

-- ---- "a thread is given what it waited for when its wait ends because ..": told from the thread's wait before the operation, the operation,
-- the objects as it finds them and whether the thread is runnable after it, not from a recorded result or a decision of the kernel
-- "satisfied", for a thread: an event or a timer is signalled, a mutex is nobody's or its own, a count is above 0 as a signed word, a thread has ended;
-- anything else, and what is not there, holds no signal and is so
abbrev pub satisfies? : List Thread → KObject → ℕ → Bool
satisfies? ts (object.Free n) τ = true
satisfies? ts (object.Thread u) τ = is_dead (thread_at ts u).status
satisfies? ts (object.Event e) τ = e.signaled
satisfies? ts (object.Mutex m) τ = eqb (option_flag m.owner) 0 or is_current m.owner τ
satisfies? ts (object.Semaphore s) τ = ltb 0 s.count and ltb s.count 2147483648
satisfies? ts (object.Timer t) τ = t.signaled
satisfies? ts (object.AddressArbiter a) τ = true
satisfies? ts object.Process τ = true
satisfies? ts object.ResourceLimit τ = true

-- "one or all of its list"
unfoldable pub one_of : (ℕ → Bool) → List ℕ → Bool
one_of test [] = false
one_of test (o ∷ os) = test o or one_of test os

unfoldable pub all_of : (ℕ → Bool) → List ℕ → Bool
all_of test [] = true
all_of test (o ∷ os) = test o and all_of test os

-- the objects and threads at the thread's turn in a pass: timers fired, the threads below it tried
abbrev pub turn : Kernel → ℕ → ℕ → Waits
turn k tick w = try_waits tick w 0 (record { objects = fire_timers k.objects tick; threads = k.threads })

-- "as it asked": for all or for one of the first wait_count places of its list
abbrev pub list_satisfied? : Thread → Waits → ℕ → Bool
list_satisfied? t x τ =
    let test : ℕ → Bool = λ o. satisfies? x.threads (object_at x.objects o) τ in
    let os : List ℕ = take t.wait_count (ids t.wait_objects) in
    pick t.wait_all (all_of test os) (one_of test os)

-- "its object, or one or all of its list as it asked, is satisfied": only a thread that waits on objects has some; "a sleep is given nothing"
abbrev pub objects_give? : ThreadStatus → Thread → Waits → ℕ → Bool
objects_give? Dead t x τ = false
objects_give? Running t x τ = false
objects_give? Ready t x τ = false
objects_give? Sleeping t x τ = false
objects_give? WaitSync t x τ = list_satisfied? t x τ
objects_give? WaitArbiter t x τ = false
objects_give? Dormant t x τ = false

-- "for its address": the thread is parked at an address, and it is that one
abbrev pub is_for : Option ℕ → ℕ → Bool
is_for None a = false
is_for (Some b) a = eqb b a

abbrev pub address_gives? : ThreadStatus → Thread → ℕ → Bool
address_gives? Dead t a = false
address_gives? Running t a = false
address_gives? Ready t a = false
address_gives? Sleeping t a = false
address_gives? WaitSync t a = false
address_gives? WaitArbiter t a = is_for t.wait_address a
address_gives? Dormant t a = false

-- a pass at whose turn its objects are satisfied, or "a 0x22 of kind 0 for its address", through whichever arbiter: r1 is the address, r2 the kind
abbrev pub gives? : ℕ → Doing → Kernel → Bool
gives? τ (starts word) k = false
gives? τ (creates entry stack priority processor) k = false
gives? τ (passes tick) k = objects_give? (thread_at k.threads τ).status (thread_at k.threads τ) (turn k tick τ) τ
gives? τ looks k = false
gives? τ (ends t) k = false
gives? τ (calls number r words tick) k = eqb number 0x22 and (eqb r.r2 0 and address_gives? (thread_at k.threads τ).status (thread_at k.threads τ) r.r1)
gives? τ collects k = false

-- "its wait ends because": and the thread is runnable after it
abbrev pub given? : ℕ → Event → Bool
given? τ e = e.accepted and (gives? τ e.does e.before and runnable? (thread_at e.after.threads τ).status)

-- ---- accepted passes, and those whose tick is w or more
abbrev pub is_pass : Doing → Bool
is_pass (starts word) = false
is_pass (creates entry stack priority processor) = false
is_pass (passes tick) = true
is_pass looks = false
is_pass (ends t) = false
is_pass (calls number r words tick) = false
is_pass collects = false

abbrev pub is_pass_from : ℕ → Doing → Bool
is_pass_from w (starts word) = false
is_pass_from w (creates entry stack priority processor) = false
is_pass_from w (passes tick) = leb w tick
is_pass_from w looks = false
is_pass_from w (ends t) = false
is_pass_from w (calls number r words tick) = false
is_pass_from w collects = false

abbrev pub pass? : Event → Bool
pass? e = e.accepted and is_pass e.does

abbrev pub pass_from? : ℕ → Event → Bool
pass_from? w e = e.accepted and is_pass_from w e.does

-- ---- "a wait ends at the operation that makes its blocked thread runnable or ends that thread, by time-out if that is a pass and nothing was given"
-- at the operation i of those after the call that began it; until then each leaves the thread blocked
abbrev pub TimesOut : ℕ → List Event → ℕ → Type 0
TimesOut τ [] i = ⊥
TimesOut τ (e ∷ es) zero = (runnable? (thread_at e.after.threads τ).status ≡ true) × (pass? e ≡ true) × (given? τ e ≡ false)
TimesOut τ (e ∷ es) (suc i) = (is_blocked (thread_at e.after.threads τ).status ≡ true) × TimesOut τ es i

-- "the first later accepted pass whose tick is t + d or more": the operation i, with w for t + d
abbrev pub FirstPass : ℕ → List Event → ℕ → Type 0
FirstPass w [] i = ⊥
FirstPass w (e ∷ es) zero = pass_from? w e ≡ true
FirstPass w (e ∷ es) (suc i) = (pass_from? w e ≡ false) × FirstPass w es i

-- "the thread was not given what it waited for by then": at none of the operations up to i
abbrev pub NotGiven : ℕ → List Event → ℕ → Type 0
NotGiven τ [] i = Unit {0}
NotGiven τ (e ∷ es) zero = given? τ e ≡ false
NotGiven τ (e ∷ es) (suc i) = (given? τ e ≡ false) × NotGiven τ es i

-- a pass that finds the thread's objects satisfied gives them to it, as long as its wait goes on: none is left waiting for what is there
abbrev pub Handed : ℕ → List Event → Type 0
Handed τ [] = Unit {0}
Handed τ (e ∷ es) =
    (pass? e ≡ true → gives? τ e.does e.before ≡ true → runnable? (thread_at e.after.threads τ).status ≡ true)
    × (is_blocked (thread_at e.after.threads τ).status ≡ true → Handed τ es)

-- as long as its wait goes on the thread waits for that
abbrev pub Awaits : ℕ → Awaited → List Event → Type 0
Awaits τ a [] = Unit {0}
Awaits τ a (e ∷ es) = is_blocked (thread_at e.after.threads τ).status ≡ true → (awaited_by (thread_at e.after.threads τ) ≡ a) × Awaits τ a es

-- "that wait ends by time-out at an operation exactly when"
pub record OnTime (τ w : ℕ) (a : Awaited) (es : List Event) : Type 0 where
  pub only : (i : ℕ) → TimesOut τ es i → FirstPass w es i × NotGiven τ es i
  pub must : (i : ℕ) → FirstPass w es i → NotGiven τ es i → TimesOut τ es i
  pub handed : Handed τ es
  pub waits : Awaits τ a es

-- ---- "the runnable threads at a pass are those it chooses among; the one of them that it leaves current runs at it"
-- of the threads before and after a pass: it is runnable after it, and "has a lower priority number than every other runnable thread";
-- a choice changes neither who is runnable nor a priority
pub record Lowest (before after : List Thread) (τ : ℕ) : Type 0 where
  pub can : runnable? (thread_at after τ).status ≡ true
  pub below : (i : ℕ) → runnable? (thread_at after i).status ≡ true → i ≢ τ → (thread_at before τ).priority < (thread_at before i).priority

abbrev pub LowestAt : ℕ → Event → Type 0
LowestAt τ e = Lowest e.before.threads e.after.threads τ

abbrev pub RunsAt : ℕ → Event → Type 0
RunsAt τ e = e.after.current_thread ≡ Some τ

abbrev pub IfElse : Bool → Type 0 → Type 0 → Type 0
IfElse true P Q = P
IfElse false P Q = Q

-- P holds of the next accepted pass, if there is one
abbrev pub AtNextPass : (Event → Type 0) → List Event → Type 0
AtNextPass P [] = Unit {0}
AtNextPass P (e ∷ es) = IfElse (pass? e) (P e) (AtNextPass P es)

-- P holds of the first accepted pass that finds the thread awake and of what comes after it, if there is one;
-- "the pass that ends it already finds the thread awake"
abbrev pub AtAwake : ℕ → (Event → List Event → Type 0) → List Event → Type 0
AtAwake τ P [] = Unit {0}
AtAwake τ P (e ∷ es) = IfElse (pass? e and runnable? (thread_at e.after.threads τ).status) (P e es) (AtAwake τ P es)

-- "if at the first accepted pass since that wait began that finds it awake, and at the next, it has a lower priority number than
-- every other runnable thread, it runs at one of the two"
abbrev pub InTwo : ℕ → List Event → Type 0
InTwo τ es = AtAwake τ (λ f fs. LowestAt τ f → AtNextPass (λ g. LowestAt τ g → RunsAt τ f ⊎ RunsAt τ g) fs) es

-- ---- the timer grid
-- the object that a timer call names
abbrev pub target : Kernel → Registers → ℕ
target k r = named k.current_thread k.handles k.objects r.r0

abbrev pub is_timer : KObject → Bool
is_timer x = eqb (kind_number x) 5

-- the "next due" of a timer
abbrev pub due_at : KObject → Option Ticks
due_at (object.Free n) = None
due_at (object.Thread u) = None
due_at (object.Event e) = None
due_at (object.Mutex m) = None
due_at (object.Semaphore s) = None
due_at (object.Timer t) = t.fire_at
due_at (object.AddressArbiter a) = None
due_at object.Process = None
due_at object.ResourceLimit = None

-- "a timer set at t with a, b nanoseconds (negative counts as 0)": an accepted 0x1B on the timer o
pub record Sets (e : Event) (o t a b : ℕ) : Type 0 where
  pub accept : e.accepted ≡ true
  pub registers : Registers
  pub words : List ℕ
  pub doing : e.does ≡ calls 0x1B registers words t
  pub names : target e.before registers ≡ o
  pub kind : is_timer (object_at e.before.objects o) ≡ true
  pub initial : or_zero (wide registers.r2 registers.r3) ≡ a
  pub interval : or_zero (wide registers.r1 registers.r4) ≡ b

-- "neither set nor cancelled": 0x1B and 0x1C through any handle to it; a fresh start begins anew
abbrev pub resets? : ℕ → Doing → Kernel → Bool
resets? o (starts word) k = true
resets? o (creates entry stack priority processor) k = false
resets? o (passes tick) k = false
resets? o looks k = false
resets? o (ends t) k = false
resets? o (calls number r words tick) k = (eqb number 0x1B or eqb number 0x1C) and eqb (target k r) o
resets? o collects k = false

-- "every tick at which timers were fired": every accepted pass, and 0x1B, 0x1C, 0x1D, 0x24, 0x25
abbrev pub fires? : ℕ → Bool
fires? number = eqb number 0x1B or (eqb number 0x1C or (eqb number 0x1D or (eqb number 0x24 or eqb number 0x25)))

abbrev pub fires_at : Doing → List ℕ
fires_at (starts word) = []
fires_at (creates entry stack priority processor) = []
fires_at (passes tick) = tick ∷ []
fires_at looks = []
fires_at (ends t) = []
fires_at (calls number r words tick) = pick (fires? number) (tick ∷ []) []
fires_at collects = []

abbrev pub fired_by : Event → List ℕ
fired_by e = pick e.accepted (fires_at e.does) []

-- "kept open: a handle to it is open throughout"
abbrev pub Open : ℕ → Kernel → Type 0
Open o k = 0 < count o (handled k.handles.entries)

pub record Left (o : ℕ) (e : Event) : Type 0 where
  pub calm : e.accepted and resets? o e.does e.before ≡ false
  pub held : Open o e.after

-- due at x while it fits 64 bits; "beyond: 2^64 − 1"
abbrev pub cut_off : ℕ → Option Ticks
cut_off x = Some (record { 0 = cut x })

-- the point k of the grid from x in steps of B passes every tick of a list
abbrev pub Passes : ℕ → ℕ → List ℕ → ℕ → Type 0
Passes x B ticks k = All (λ tick. tick < x + k * B) ticks

-- "k the least from 0 that"
pub record Least (P : ℕ → Type 0) (k : ℕ) : Type 0 where
  pub holds : P k
  pub least : (j : ℕ) → P j → k ≤ j

-- "0 ≤ (a + k × b) × 268,111,856 − 10^9 × span < (k + 1) × 10^9", with the difference taken to the other side
pub record InStep (a b k span : ℕ) : Type 0 where
  pub behind : 1000000000 * span ≤ (a + k * b) * 268111856
  pub less : (a + k * b) * 268111856 < 1000000000 * span + (k + 1) * 1000000000

-- whether a list has a tick at or after one
unfoldable pub reached : ℕ → List ℕ → Bool
reached at [] = false
reached at (tick ∷ ticks) = leb at tick or reached at ticks

-- the due of a timer set at t with a, b nanoseconds (A, B ticks), after timers were fired at the ticks of a list
pub record OnGrid (t a b : ℕ) (ticks : List ℕ) (due : Option Ticks) : Type 0 where
  -- "has next due t + A + k × B, k the least from 0 that passes every tick"; while it fits it is in step with the exact time
  pub repeats : (A B : ℕ) → in_ticks a ≡ A → in_ticks b ≡ B → 0 < B
      → (k : ℕ) × Least (Passes (t + A) B ticks) k × (due ≡ cut_off (t + A + k * B)) × (t + A + k * B ≤ 18446744073709551615 → InStep a b k (t + A + k * B - t))
  -- "B = 0 disarms after one firing"
  pub single : (A : ℕ) → in_ticks a ≡ A → in_ticks b ≡ 0
      → due ≡ pick (reached (cut (t + A)) ticks) None (cut_off (t + A))

-- after each operation, as long as the timer is left alone; ticks are those fired at since it was set
abbrev pub Grid : ℕ → ℕ → ℕ → ℕ → List ℕ → List Event → Type 0
Grid o t a b ticks [] = Unit {0}
Grid o t a b ticks (e ∷ es) =
    Left o e → OnGrid t a b (ticks ++ fired_by e) (due_at (object_at e.after.objects o)) × Grid o t a b (ticks ++ fired_by e) es

-- ---- what the demand says of an operation e with those after it
-- "that wait ends by time-out at an operation exactly when ..", and it is for what the call asked for
abbrev pub Ends : Event → List Event → Type 0
Ends e es = (τ n t : ℕ) → (b : Begins e τ n t) → Spared τ es → (awaited_by (thread_at e.after.threads τ) ≡ asked_for e τ n t b) × OnTime τ (t + in_ticks n) (asked_for e τ n t b) es

abbrev pub Runs : Event → List Event → Type 0
Runs e es = (τ n t : ℕ) → Begins e τ n t → Spared τ es → InTwo τ es

-- "a repeating timer set in the list never drifts: after each operation its next due is, to the tick, the one that 01's grid gives"
abbrev pub KeepsGrid : Event → List Event → Type 0
KeepsGrid e es = (o t a b : ℕ) → Sets e o t a b → Open o e.after
    → OnGrid t a b [] (due_at (object_at e.after.objects o)) × Grid o t a b [] es
