-- What each test asks, and the laws by which one test after another is one comparison. Assumes nothing.
use mathlib.Core.Path.{◌≡◌, refl, sym}
use mathlib.Core.Bool.{Bool, true, false, not}
use mathlib.Core.List.{List, [], ◌∷◌}
use Prim.Native.Nat.{ℕ, ◌-◌, ◌+◌, ◌*◌, ◌<◌}
use lib.Dec.{eqb, leb, ltb}
use lib.ListN.{length, get_or, set, take, drop}
use Rattle.std.specs.Prelude.{Option, ◌≢◌}
use Rattle.std.proofs.lemmas.Grind.{common_steps}
use Rattle.laws.specs.Logic.{◌and◌, ◌or◌, pick, pick_yes, pick_no, and_no, and_yes, or_no, or_yes, and-end}
use Rattle.laws.specs.Walk.{walk, ends?, walk-nil, walk-out}
use Rattle.laws.specs.Tally.{tally, tally-more, tally-none, tally_all-more, tally_all-none}
use Rattle.codec.proofs.Fit.{length-dec_all}
use Rattle.types.specs.declared.thread.Thread.{Thread}
use Rattle.types.specs.declared.object.HandleEntry.{HandleEntry}
use Rattle.types.specs.declared.object.Waiter.{Waiter}
use Rattle.types.specs.Thread.{is_dead}
use Rattle.block.specs.Thread.{thread_words, words_list}
use Rattle.block.specs.Table.{dec_id}
use Rattle.block.specs.Thread.{dec_thread}
use Rattle.block.specs.Tables.{threads_in, kept_in, row_at}
use Rattle.sound.specs.View.{no_thread, ids, waiter_nexts, waiter_threads, waiter_addresses}
use Rattle.sound.specs.Threads.{zeros?, places?, run?, only?, thread?, blank?, place?, current?, threads?}
use Rattle.sound.specs.Objects.{up_to128}
use Rattle.sound.specs.Tls.{held_if, held, held-end, below?, tls?}
use Rattle.sound.specs.Records.{blanks?, chain?}
use Rattle.tally.specs.Lists.{slot_of}
use Rattle.tally.proofs.Held.{tally-held}
use Rattle.question.specs.Apart.{fresh?, marked}
use Rattle.question.specs.Linear.{one_place?, places32?, entry?, slot?, slots?}
use Rattle.question.specs.LinearObjects.{kept_thread?, kept_process?, kept_threads?, kept_by?, objects_by?, records_by?}
use Rattle.question.specs.LinearObjects.{fine_pool?, indexed, marks_of, live?}
use Rattle.question.specs.ObjectSteps.{mark_nil, mark_out, mark_far, mark_go, blanks-step, chain-step, slots-start}
use Rattle.question.specs.ObjectSteps.{slots-next, up_to_step, up_to_end, kept-start, kept-next, kept-fails}
use Rattle.question.specs.ObjectSteps.{chains-start, chains-next, chains-fails, lone_more, lone_none, once-start}
use Rattle.question.specs.ObjectSteps.{once-next, once-fails}
use Rattle.question.proofs.Steps.{runs-is, fault-more, fault-turn, fault-small, places-step, places-end, below-held}

pub one_used : (x : ℕ) → one_place? true x ≡ ltb 0 x and leb x 128
unfolding one_place?
one_used x = refl

pub one_unused : (x : ℕ) → one_place? false x ≡ eqb x 0
unfolding one_place?
one_unused x = refl

pub places_none : (l : List ℕ) → places? 0 l ≡ zeros? l
unfolding places?
places_none l = refl

pub thread-asks : (c : Option ℕ) (i : ℕ) (t : Thread)
    → thread? c i t
    ≡ leb t.priority 63 and (run? t.status c i and (places? t.wait_count (ids t.wait_objects)
    and only? t.status t.wait_count))
unfolding thread?
thread-asks c i t = refl

pub blank-asks : (t : Thread) → blank? t ≡ zeros? (words_list (thread_words t)) and zeros? (ids t.wait_objects)
unfolding blank?
blank-asks t = refl

pub place-asks : (n : ℕ) (c : Option ℕ) (i : ℕ) (t : Thread)
    → place? n c i t ≡ pick (ltb i n) (thread? c i t) (blank? t)
unfolding place?
place-asks n c i t = refl

pub threads-ask : (n : ℕ) (c : Option ℕ) (ts : List Thread)
    → threads? n c ts ≡ leb n 32 and (current? c n and places32? n c ts)
unfolding threads? places32?
threads-ask n c ts = refl

pub entry-asks : (low : ℕ) (e : HandleEntry)
    → entry? low e ≡ leb low e.handle.0 and (ltb 0 e.object.0 and leb e.object.0 128)
unfolding entry?
entry-asks low e = refl

pub slot-asks : (k r n f : ℕ) → slot? k r n f ≡ eqb r n and (eqb (1 - k) (1 - r) and eqb f (1 - k))
unfolding slot?
slot-asks k r n f = refl

pub kept_thread-asks : (x k u t : ℕ) → kept_thread? x k u t ≡ eqb x 0 or (leb x 128 and (eqb k 1 and eqb u t))
unfolding kept_thread?
kept_thread-asks x k u t = refl

pub kept_process-asks : (x k : ℕ) → kept_process? x k ≡ eqb x 0 or (leb x 128 and eqb k 7)
unfolding kept_process?
kept_process-asks x k = refl

pub kept-ask : (ks us k : List ℕ) (p : ℕ)
    → kept_by? ks us k p ≡ kept_threads? ks us k 32 and kept_process? p (indexed ks p)
unfolding kept_by?
kept-ask ks us k p = refl

pub objects-ask : (ks rs ns us : List ℕ) (free : ℕ) (c k : List ℕ) (p : ℕ)
    → objects_by? ks rs ns us free c k p
    ≡ (up_to128 k and leb p 128) and ((ends? ns 128 free and slots? ks rs c (marks_of ns free) 128)
    and kept_by? ks us k p)
unfolding objects_by?
objects-ask ks rs ns us free c k p = refl

pub records-ask : (n : ℕ) (hs : List ℕ) (w : List Waiter) (free : ℕ)
    → records_by? n hs w free
    ≡ fine_pool? (waiter_nexts w) (waiter_threads w) (waiter_addresses w) n hs free
    and blanks? (waiter_threads w) (waiter_addresses w) (walk (waiter_nexts w) 64 free)
unfolding records_by?
records-ask n hs w free = refl

pub zeros_none : zeros? [] ≡ true
unfolding zeros?
zeros_none = refl

pub zeros_more : (x : ℕ) (xs : List ℕ) → zeros? (x ∷ xs) ≡ eqb x 0 and zeros? xs
unfolding zeros?
zeros_more x xs = refl

pub blanks_none : (ts ad : List ℕ) → blanks? ts ad [] ≡ true
unfolding blanks?
blanks_none ts ad = refl

pub chain_none : (ts ad : List ℕ) (n : ℕ) → chain? ts ad n [] ≡ true
unfolding chain?
chain_none ts ad n = refl

pub ends_nil : (nx : List ℕ) (left h : ℕ) → h ≡ 0 → ends? nx left h ≡ true
ends_nil nx left h e = sym (mark_nil nx [] left h e).0

pub ends_out : (nx : List ℕ) (left h : ℕ) → left ≡ 0 → h ≢ 0 → ends? nx left h ≡ false
ends_out nx left h e p = sym (mark_out nx [] left h e p).0

pub ends_far : (nx : List ℕ) (left h : ℕ) → left ≢ 0 → h ≢ 0 → length nx < h → ends? nx left h ≡ false
ends_far nx left h p q f = sym (mark_far nx [] left h p q f).0

pub fresh-asks : (s : List ℕ) (t k : ℕ) → fresh? s t k ≡ ltb t 32 and not (eqb (get_or s t 0) k)
unfolding fresh?
fresh-asks s t k = refl

pub marked-is : (s : List ℕ) (t k : ℕ) → marked s t k ≡ pick (fresh? s t k) (set s t k) s
unfolding marked
marked-is s t k = refl

pub live-asks : (d : List ℕ) (t : ℕ) → live? d t ≡ eqb (get_or d t 1) 0
unfolding live?
live-asks d t = refl

pub below_none : (n : ℕ) → below? n [] ≡ true
unfolding below?
below_none n = refl

pub tally_nil : (n : ℕ) (c : List ℕ) → tally n c [] ≡ c
unfolding tally
tally_nil n c = refl

slot_if : (n s : ℕ) (b : Bool) → below? n (held_if b s []) ≡ b or ltb s n
unfolding below? ◌or◌
slot_if n s true = refl
slot_if n s false = and-end _

pub slot-below : (n : ℕ) (t : Thread) → below? n (slot_of t) ≡ is_dead t.status or ltb t.tls n
slot-below n t = slot_if n t.tls (is_dead t.status)

-- the rows of a block
pub thread-row : (b : List ℕ) (i : ℕ) → i < 32
    → get_or (threads_in b) i no_thread ≡ dec_thread (take 160 (drop (128 + i * 160) b))
thread-row b i h = sym (row_at dec_thread 160 no_thread 32 b 128 i h)

pub kept-row : (b : List ℕ) (i : ℕ) → i < 32
    → get_or (kept_in b) i (record { 0 = 0 }) ≡ dec_id (take 4 (drop (13184 + i * 4) b))
kept-row b i h = sym (row_at dec_id 4 (record { 0 = 0 }) 32 b 13184 i h)

pub ruleset tests = (
  common_steps,
  and_no,
  and_yes,
  or_no,
  or_yes,
  and-end,
  pick_yes,
  pick_no,
  runs-is,
  one_used,
  one_unused,
  places_none,
  thread-asks,
  blank-asks,
  place-asks,
  threads-ask,
  entry-asks,
  slot-asks,
  kept_thread-asks,
  kept_process-asks,
  kept-ask,
  objects-ask,
  records-ask,
)

pub ruleset zeros = (tests, zeros_none, zeros_more)

pub ruleset walks = (
  tests,
  walk-nil,
  walk-out,
  blanks_none,
  blanks-step,
  chain_none,
  chain-step,
  ends_nil,
  ends_out,
  ends_far,
  mark_nil,
  mark_out,
  mark_far,
  mark_go,
)

pub ruleset marks = (tests, fresh-asks, marked-is, live-asks, slot-below)

pub ruleset faults = (tests, fault-more, fault-turn, fault-small, slots-start, slots-next, places-step, places-end)

pub ruleset turns = (
  tests,
  chains-start,
  chains-next,
  chains-fails,
  once-start,
  once-next,
  once-fails,
  kept-start,
  kept-next,
  kept-fails,
  kept-row,
)

pub ruleset tables = (
  tests,
  length-dec_all,
  thread-row,
  kept-row,
  below-held,
  below_none,
  held-end,
  up_to_step,
  up_to_end,
  tally-held,
  tally_nil,
  tally-more,
  tally-none,
  tally_all-more,
  tally_all-none,
  lone_more,
  lone_none,
)
