-- The premises of demand 3 can be met by lists of operations on bytes: after a fresh start on any 16,384 bytes, the entries that demand/specs/Witness.antt speaks of.
use Rattle.std.specs.Prelude.{◌≡◌, true, List, [], ◌∷◌, ◌++◌, ℕ, ◌+◌, ◌*◌, ◌<◌, replicate, None}
use Rattle.std.proofs.Common.{arith}
use Rattle.codec.specs.Bytes.{bytes}
use Rattle.codec.proofs.Back.{Bytes}
use Rattle.codec.proofs.Fit.{bytes_append, bytes-bytes, bytes_zeros}
use Rattle.kernel.specs.Fresh.{fresh}
use Rattle.svc.specs.declared.Registers.{Registers}
use Rattle.demand.specs.Words.{Event, cut_off}
use Rattle.demand.specs.Witness as shown
use Rattle.history.specs.Step.{Op, op_next_event, op_create_thread, op_schedule, op_end_thread, op_dispatch, op_collect}
use Rattle.history.specs.Plays.{play, takes_all?, Somewhere}

-- ---- operations: what is lent besides the block is zeros, but for the first registers of a call
abbrev pub make_thread : (entry : ℕ) → entry < 4294967296 → (stack : ℕ) → stack < 4294967296 → (priority : ℕ) → priority < 4294967296 → Op
make_thread entry e stack s priority p =
    op_create_thread (replicate 6656 0) (bytes_zeros 6656) (replicate 4 0) (bytes_zeros 4) entry e stack s 0 (omega arith) priority p 0 (omega arith)

abbrev pub pass_at : (tick : ℕ) → tick < 18446744073709551616 → Op
pass_at tick h = op_schedule (replicate 6656 0) (bytes_zeros 6656) (replicate 208 0) (bytes_zeros 208) (replicate 4 0) (bytes_zeros 4) tick h

-- the first six registers
abbrev pub processor : Registers → List ℕ
processor r = bytes 4 r.r0 ++ (bytes 4 r.r1 ++ (bytes 4 r.r2 ++ (bytes 4 r.r3 ++ (bytes 4 r.r4 ++ (bytes 4 r.r5 ++ replicate 184 0)))))

pub processor-bytes : (r : Registers) → Bytes (processor r)
processor-bytes r =
    let p5 : List ℕ = bytes 4 r.r5 ++ replicate 184 0 in
    let p4 : List ℕ = bytes 4 r.r4 ++ p5 in
    let p3 : List ℕ = bytes 4 r.r3 ++ p4 in
    let p2 : List ℕ = bytes 4 r.r2 ++ p3 in
    let p1 : List ℕ = bytes 4 r.r1 ++ p2 in
    word r.r0 p1 (word r.r1 p2 (word r.r2 p3 (word r.r3 p4 (word r.r4 p5 (word r.r5 (replicate 184 0) (bytes_zeros 184))))))
  where
    word : (v : ℕ) (p : List ℕ) → Bytes p → Bytes (bytes 4 v ++ p)
    word v p h = bytes_append (bytes 4 v) p (bytes-bytes 4 v) h

abbrev pub guest : (number : ℕ) → number < 4294967296 → Registers → (tick : ℕ) → tick < 18446744073709551616 → Op
guest number n r tick t = op_dispatch (replicate 6656 0) (bytes_zeros 6656) (processor r) (processor-bytes r) [] (bytes_zeros 0) 0 (omega arith) number n tick t

-- with a window of one word at 0x4000
abbrev pub guest_at : (number : ℕ) → number < 4294967296 → Registers → (word : ℕ) → (tick : ℕ) → tick < 18446744073709551616 → Op
guest_at number n r word tick t = op_dispatch (replicate 6656 0) (bytes_zeros 6656) (processor r) (processor-bytes r) (bytes 4 word) (bytes-bytes 4 word) 0x4000 (omega arith) number n tick t

-- ---- the lists
-- one thread, which runs from tick 1 on; two
abbrev pub one : List Op
one = make_thread 0x100 (omega arith) 0x1000 (omega arith) 10 (omega arith) ∷ pass_at 1 (omega arith) ∷ []

abbrev pub two : List Op
two = make_thread 0x100 (omega arith) 0x1000 (omega arith) 10 (omega arith) ∷ make_thread 0x200 (omega arith) 0x2000 (omega arith) 20 (omega arith) ∷ pass_at 1 (omega arith) ∷ []

abbrev pub sleeps : List Op
sleeps = one ++ (guest 0x0A (omega arith) (shown.regs 1000 0 0) 5 (omega arith) ∷ pass_at 272 (omega arith) ∷ pass_at 273 (omega arith) ∷ [])

abbrev pub shortest : List Op
shortest = one ++ (guest 0x0A (omega arith) (shown.regs 1 0 0) 5 (omega arith) ∷ pass_at 4 (omega arith) ∷ pass_at 5 (omega arith) ∷ [])

abbrev pub longest : List Op
longest =
    one
    ++ (guest 0x0A (omega arith) (shown.regs 0xFFFFFFFF 0x7FFFFFFF 0) 15973848678329917271 (omega arith)
    ∷ pass_at 18446744073709551614 (omega arith)
    ∷ pass_at 18446744073709551615 (omega arith)
    ∷ [])

-- an event is made and waited on; it is not signalled, or it is
abbrev pub waits : List Op
waits = two ++ (guest 0x17 (omega arith) (shown.regs 0 0 0) 2 (omega arith) ∷ guest 0x24 (omega arith) (shown.regs 0x10000 0 1000) 5 (omega arith) ∷ pass_at 6 (omega arith) ∷ [])

abbrev pub waits_in_vain : List Op
waits_in_vain = waits ++ (pass_at 272 (omega arith) ∷ pass_at 273 (omega arith) ∷ [])

abbrev pub gets : List Op
gets = waits ++ (guest 0x18 (omega arith) (shown.regs 0x10000 0 0) 7 (omega arith) ∷ pass_at 8 (omega arith) ∷ pass_at 300 (omega arith) ∷ [])

-- it is waited on as the only one of a list
abbrev pub waits_n : List Op
waits_n =
    two
    ++ (guest 0x17 (omega arith) (shown.regs 0 0 0) 2 (omega arith)
    ∷ guest_at 0x25 (omega arith) (shown.regs 1000 0x4000 1) 0x10000 5 (omega arith)
    ∷ pass_at 272 (omega arith)
    ∷ pass_at 273 (omega arith)
    ∷ [])

-- an arbiter is made, and a thread waits at an address until its time is out, or until it is woken
abbrev pub parks : ℕ → List Op
parks kind = two ++ (guest 0x21 (omega arith) (shown.regs 0 0 0) 2 (omega arith) ∷ guest_at 0x22 (omega arith) (shown.below5 kind) 0 5 (omega arith) ∷ pass_at 272 (omega arith) ∷ [])

abbrev pub parks_in_vain : ℕ → List Op
parks_in_vain kind = parks kind ++ (pass_at 273 (omega arith) ∷ [])

abbrev pub wakes : List Op
wakes = parks 3 ++ (guest 0x22 (omega arith) shown.wake1 272 (omega arith) ∷ pass_at 273 (omega arith) ∷ [])

abbrev pub naps : List Op
naps = two ++ (guest 0x0A (omega arith) (shown.regs 4 0 0) 20000000 (omega arith) ∷ pass_at 20000001 (omega arith) ∷ pass_at 20000002 (omega arith) ∷ [])

-- a timer is made and set, with an interval or with none
abbrev pub repeats : List Op
repeats =
    one
    ++ (guest 0x1A (omega arith) (shown.regs 0 0 0) 2 (omega arith)
    ∷ guest 0x1B (omega arith) (shown.regs 0x10000 2000 1000) 10 (omega arith)
    ∷ pass_at 277 (omega arith)
    ∷ pass_at 278 (omega arith)
    ∷ pass_at 1000 (omega arith)
    ∷ pass_at 1350 (omega arith)
    ∷ [])

abbrev pub fires_once : List Op
fires_once = one ++ (guest 0x1A (omega arith) (shown.regs 0 0 0) 2 (omega arith) ∷ guest 0x1B (omega arith) (shown.regs 0x10000 0 1000) 10 (omega arith) ∷ pass_at 277 (omega arith) ∷ pass_at 278 (omega arith) ∷ [])

-- operations of every other kind before the sleep is over
abbrev pub busy : List Op
busy =
    two
    ++ (guest 0x1A (omega arith) (shown.regs 0 0 0) 2 (omega arith)
    ∷ guest 0x1B (omega arith) (shown.regs 0x10000 2000 1000) 10 (omega arith)
    ∷ guest 0x0A (omega arith) (shown.regs 1000 0 0) 10 (omega arith)
    ∷ pass_at 11 (omega arith)
    ∷ op_next_event (replicate 16 0) (bytes_zeros 16)
    ∷ make_thread 0x300 (omega arith) 0x3000 (omega arith) 30 (omega arith)
    ∷ op_collect (replicate 12 0) (bytes_zeros 12)
    ∷ op_end_thread 2 (omega arith)
    ∷ guest 0x17 (omega arith) (shown.regs 0 0 0) 12 (omega arith)
    ∷ guest 0x09 (omega arith) (shown.regs 0 0 0) 13 (omega arith)
    ∷ pass_at 277 (omega arith)
    ∷ pass_at 278 (omega arith)
    ∷ [])

abbrev pub Repeats : Event → List Event → Type 0
Repeats = shown.Armed 1 10 1000 2000 (cut_off 278 ∷ cut_off (278 + 1 * 536) ∷ cut_off (278 + 2 * 536) ∷ cut_off (278 + 3 * 536) ∷ [])

abbrev pub FiresOnce : Event → List Event → Type 0
FiresOnce = shown.Armed 1 10 1000 0 (cut_off 278 ∷ None ∷ [])

-- ---- computed on states: every operation is accepted, and its entries are those of demand/specs/Witness.antt
pub record Found (P : Event → List Event → Type 0) (ops : List Op) : Type 0 where
  pub accepted : takes_all? ops (fresh 0) ≡ true
  pub met : Somewhere P (play ops (fresh 0))

pub record All : Type 0 where
  pub slept : Found shown.Late sleeps
  pub shortest : Found shown.Late shortest
  pub longest : Found shown.Late longest
  pub waited : Found shown.Late waits_in_vain
  pub waited_n : Found shown.Late waits_n
  pub parked3 : Found shown.Late (parks_in_vain 3)
  pub parked4 : Found shown.Late (parks_in_vain 4)
  pub slept_too : Found shown.Late busy
  pub gave : Found shown.Given gets
  pub woke : Found shown.Given wakes
  pub prompt : Found (shown.Urgent shown.AtFirst) gets
  pub relieved : Found (shown.Urgent shown.AtSecond) naps
  pub repeats : Found Repeats repeats
  pub repeats_too : Found (shown.Armed 1 10 1000 2000 shown.busy_dues) busy
  pub single : Found FiresOnce fires_once
