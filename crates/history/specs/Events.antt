-- The operations of a list as demand 3 speaks of them.
use Rattle.std.specs.Prelude.{◌≡◌, List, ℕ, ◌-◌, eqb, leb}
use Rattle.laws.specs.Logic.{pick, ◌and◌}
use Rattle.codec.specs.Bytes.{num, le}
use Rattle.codec.specs.Layout.{dec_all}
use Rattle.block.specs.Block.{dec_block}
use Rattle.svc.specs.declared.Registers.{Registers}
use Rattle.demand.specs.Words.{Doing, starts, creates, passes, looks, ends, calls, collects, Event}
use Rattle.lent.specs.Lent.{Lent, Back, accepted?}
use Rattle.history.specs.Step.{Op, op_fresh_start, op_next_event, op_create_thread, op_schedule, op_satisfied_now, op_quiet_release, op_end_thread, op_dispatch, op_collect, step, Entry}
use Rattle.history.specs.Keeps.{Kept}

-- "r0 to r5 are the first six words of the lent processor"
abbrev pub registers_lent : List ℕ → Registers
registers_lent p = record { r0 = le 4 p 0; r1 = le 4 p 4; r2 = le 4 p 8; r3 = le 4 p 12; r4 = le 4 p 16; r5 = le 4 p 20 }

-- the words that a call reads at r1, as they are lent: 0x25 as many as r2 says, 0x22 of kinds 1 to 4 one
abbrev word_count : ℕ → Registers → ℕ
word_count number r = pick (eqb number 0x25) r.r2 (pick (eqb number 0x22 and (leb 1 r.r2 and leb r.r2 4)) 1 0)

abbrev pub words_lent : ℕ → List ℕ → ℕ → Registers → List ℕ
words_lent base window number r = dec_all num 4 (word_count number r) window (r.r1 - base)

-- what an operation does to the state
abbrev pub doing : Op → Doing
doing (op_fresh_start bank u word h) = starts word
doing (op_next_event answer u) = looks
doing (op_create_thread bank u answer v entry e stack s arg a priority p processor q) = creates entry stack priority processor
doing (op_schedule bank u processor p answer v tick h) = passes tick
doing (op_satisfied_now handles w answer u all h tick t) = looks
doing (op_quiet_release answer u handle h tick t) = looks
doing (op_end_thread thread h) = ends thread
-- with the registers and words as they are lent
doing (op_dispatch bank u processor p window w base x number n tick t) =
    calls number (registers_lent processor) (words_lent base window number (registers_lent processor)) tick
doing (op_collect answer u) = collects

-- an entry by the states that its blocks say
abbrev pub event_of : Entry → Event
event_of e = record { accepted = accepted? e.after.number; before = dec_block e.before; does = doing e.op; after = dec_block e.after.after.block }

abbrev pub entry : Op → List ℕ → Entry
entry op b = record { before = b; op = op; after = step op b }

-- ---- what holds of every operation
pub record Done (d : Doing) (b : List ℕ) (r : Back) : Type 0 where
  -- what was lent, the block b among it
  pub with : Lent
  pub block : with.block ≡ b
  pub kept : Kept d with r
