-- The exported operations: question 1, question 2, their own questions, the work, questions 7 and 8.
use Rattle.units.specs.declared.Ticks.{Ticks}
use Rattle.std.specs.Prelude.{Bool, not, List, ◌++◌, ℕ, ◌*◌, ◌/◌, ◌%◌, eqb, ltb, length, replicate, take, drop, Option}
use Rattle.std.specs.Prelude.{Some, None}
use Rattle.laws.specs.Logic.{pick, ◌and◌, ◌or◌}
use Rattle.codec.specs.Bytes.{num, bytes, over}
use Rattle.codec.specs.Layout.{enc_all, dec_all}
use Rattle.types.specs.declared.kernel.Kernel.{Kernel}
use Rattle.types.specs.Thread.{is_dead, option_flag, option_value, tick_value}
use Rattle.block.specs.Table.{enc_id}
use Rattle.block.specs.Context.{enc_context}
use Rattle.block.specs.Block.{enc_block, dec_block}
use Rattle.sound.specs.View.{thread_at}
use Rattle.sound.specs.Question.{sound?}
use Rattle.kernel.specs.Fresh.{fresh}
use Rattle.kernel.specs.NextEvent as kernel
use Rattle.thread.specs.Thread.{new_context}
use Rattle.thread.specs.Threads as thread
use Rattle.pass.specs.declared.Satisfied.{Satisfied}
use Rattle.pass.specs.declared.Release.{Release}
use Rattle.pass.specs.declared.Release.TheVariants.{CountsDown, Frees}
use Rattle.pass.specs.declared.Passed.{Passed}
use Rattle.pass.specs.Asks as asks
use Rattle.pass.specs.Schedule as pass
use Rattle.lent.specs.Lent.{Lent, lent, with_answer, with_block, Back, back}

-- question 8 of an operation that changes nothing: the next handle is at most 0xFFFF8000
unfoldable pub out_of_handles? : Kernel → Bool
out_of_handles? k = ltb 0xFFFF8000 k.handles.next.0

-- an operation that only looks: the answer slice gets what it finds, and all else stays
unfoldable pub inspect : Bool → (Kernel → List ℕ) → Lent → Back
inspect lengths look l =
    pick lengths
    (pick (sound? l.block)
    (pick (out_of_handles? (dec_block l.block)) (back 8 l) (back 0 (with_answer l (look (dec_block l.block)))))
    (back 2 l))
    (back 1 l)

-- a fresh start needs only question 1; it zeroes the bank and leaves the processor and the window
unfoldable pub fresh_start : ℕ → Lent → Back
fresh_start w l =
    pick (eqb (length l.block) 16384 and eqb (length l.bank) 6656)
    (back 0 (lent (enc_block (fresh w)) (replicate 6656 0) l.processor l.window l.answer))
    (back 1 l)

-- 1 and the tick, or 0 and 0
unfoldable pub tick_bytes : Option Ticks → List ℕ
tick_bytes at = (bytes 4 (option_flag at) ++ bytes 4 0) ++ bytes 8 (tick_value at)

unfoldable pub next_event : Lent → Back
next_event l = inspect (eqb (length l.block) 16384 and eqb (length l.answer) 16) (λ k. tick_bytes (kernel.next_event k)) l

-- ---- operations that change the block
-- question 7 before question 8: a holding did not fit; a sum did not fit, or the handles are used up
unfoldable pub finding : Kernel → ℕ
finding k =
    pick (k.full or (k.objects.full or k.handles.full)) 7
    (pick (k.overflow or (k.objects.overflow or (k.handles.overflow or out_of_handles? k))) 8 0)

-- the operation's own refusal is 0 for none; it is looked for before the work is done. The result is what an accepted one gives
unfoldable pub change : Bool → (Kernel → ℕ) → (Kernel → Kernel) → (Kernel → Back) → Lent → Back
change lengths refusal work result l =
    pick lengths
    (pick (sound? l.block)
    (pick (eqb (refusal (dec_block l.block)) 0)
    (pick (eqb (finding (work (dec_block l.block))) 0) (result (dec_block l.block)) (back (finding (work (dec_block l.block))) l))
    (back (refusal (dec_block l.block)) l))
    (back 2 l))
    (back 1 l)

-- question 4 of the host's end: the thread exists and is not Dead
unfoldable pub end_refusal : ℕ → Kernel → ℕ
end_refusal t k = pick (ltb t k.thread_count) (pick (is_dead (thread_at k.threads t).status) 4 0) 4

unfoldable pub end_thread : ℕ → Lent → Back
end_thread t l =
    change (eqb (length l.block) 16384) (end_refusal t) (λ k. thread.end_thread k t) (λ k. back 0 (with_block l (enc_block (thread.end_thread k t)))) l

-- the new thread's row of the bank; its words are the state's default status word and the thread's TLS slot
abbrev pub row_made : List ℕ → Kernel → ℕ → ℕ → ℕ → List ℕ
row_made bank k entry stack arg = over bank (thread.ended_thread k * 208) (enc_context (new_context k.status_word entry stack arg (thread.tls_slot k)))

-- a new thread; the answer is its number
unfoldable pub create_thread : ℕ → ℕ → ℕ → ℕ → ℕ → Lent → Back
create_thread entry stack arg priority processor l =
    change (eqb (length l.block) 16384 and (eqb (length l.bank) 6656 and eqb (length l.answer) 4)) (λ k. 0)
    (λ k. thread.create_thread k entry stack priority processor)
    (λ k. back 0 (lent (enc_block (thread.create_thread k entry stack priority processor)) (row_made l.bank k entry stack arg) l.processor l.window (bytes 4 (thread.ended_thread k)))) l

-- ---- a pass
-- a context into a thread's row of the bank; a number past the rows has none
abbrev pub save_row : List ℕ → Option ℕ → List ℕ → List ℕ
save_row bank None context = bank
save_row bank (Some t) context = pick (ltb t 32) (over bank (t * 208) context) bank

-- the context in a thread's row, or what is there if there is none
abbrev pub restore_row : List ℕ → Option ℕ → List ℕ → List ℕ
restore_row context None bank = context
restore_row context (Some t) bank = pick (ltb t 32) (take 208 (drop (t * 208) bank)) context

-- the processor goes to the row of the thread that leaves the core, and comes from that of the one that gets it
abbrev pub pass_written : Lent → Passed → Lent
pass_written l p =
    let bank : List ℕ = save_row l.bank p.saved l.processor in
    lent (enc_block p.kernel) bank (restore_row l.processor p.restored bank) l.window (bytes 4 (pick p.switched 1 0))

-- the answer is whether the pass switched
unfoldable pub schedule : ℕ → Lent → Back
schedule tick l =
    change (eqb (length l.block) 16384 and (eqb (length l.bank) 6656 and (eqb (length l.processor) 208 and eqb (length l.answer) 4))) (λ k. 0)
    (λ k. (pass.schedule k tick).kernel) (λ k. back 0 (pass_written l (pass.schedule k tick))) l

-- ---- what a wait would find
-- the handles of a list, four bytes each
abbrev pub words : List ℕ → List ℕ
words s = dec_all num 4 (length s / 4) s 0

-- the flag, the index, and the eight object numbers
abbrev pub satisfied_bytes : Satisfied → List ℕ
satisfied_bytes r = (bytes 4 (option_flag r.index) ++ bytes 4 (option_value r.index)) ++ enc_all enc_id r.objects

-- a list of handles is whole words; a wait for all is any number but 0
unfoldable pub satisfied_now : List ℕ → ℕ → ℕ → Lent → Back
satisfied_now handles all tick l =
    inspect (eqb (length l.block) 16384 and (eqb (length handles % 4) 0 and eqb (length l.answer) 40))
    (λ k. satisfied_bytes (asks.satisfied_now k (words handles) (not (eqb all 0)) tick)) l

-- ---- what letting go of a mutex would do
-- found or not
abbrev pub release_flag : Option Release → ℕ
release_flag None = 0
release_flag (Some (CountsDown o)) = 1
release_flag (Some (Frees o)) = 1

abbrev pub release_object : Option Release → ℕ
release_object None = 0
release_object (Some (CountsDown o)) = o.0
release_object (Some (Frees o)) = o.0

-- whether the mutex becomes free
abbrev pub release_frees : Option Release → ℕ
release_frees None = 0
release_frees (Some (CountsDown o)) = 0
release_frees (Some (Frees o)) = 1

abbrev pub release_bytes : Option Release → List ℕ
release_bytes r = (bytes 4 (release_flag r) ++ bytes 4 (release_object r)) ++ bytes 4 (release_frees r)

unfoldable pub quiet_release : ℕ → ℕ → Lent → Back
quiet_release handle tick l =
    inspect (eqb (length l.block) 16384 and eqb (length l.answer) 12) (λ k. release_bytes (asks.quiet_release k handle tick)) l
