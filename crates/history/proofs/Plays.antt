-- Where the test on states takes a list of operations, its entries are what the definitions do to the states.
use Rattle.std.specs.Prelude.{◌≡◌, Bool, not, ℕ, length}
use Rattle.std.proofs.Math.Path.{refl, ap}
use Rattle.std.proofs.Common.{sym, subst, ◌∙◌, inl, inr, length-append, eq-eqb, eqb-true}
use Rattle.std.proofs.Math.Bool.{true, false}
use mathlib.Core.List.{List, [], ◌∷◌, map}
use Rattle.std.proofs.Math.Dec.{eqb}
use Rattle.std.proofs.lemmas.List.{length-replicate}
use Rattle.laws.specs.Logic.{pick_yes, pick_no, ◌and◌, ◌or◌, and-true, true-and, and-false, false-true}
use Rattle.types.specs.declared.kernel.Kernel.{Kernel}
use Rattle.block.specs.Table.{enc_entry, enc_waiter, enc_id}
use Rattle.block.specs.Thread.{enc_thread}
use Rattle.block.specs.Slot.{enc_slot}
use Rattle.block.specs.Block.{head_words, enc_block, dec_block}
use Rattle.block.proofs.Row.{length-all}
use Rattle.block.proofs.Sizes.{length-enc_head, length-enc_thread, length-enc_slot, length-enc_entry, length-enc_waiter, length-enc_id}
use Rattle.block.proofs.Fits.{StateFits}
use Rattle.sound.specs.Question.{sound?}
use Rattle.sound.proofs.Question.{t_block}
use Rattle.kernel.specs.Fresh.{fresh}
use Rattle.kernel.specs.NextEvent as kernel
use Rattle.demand.specs.Words.{Event, Ends, Runs, KeepsGrid}
use Rattle.course.specs.Course.{effect}
use Rattle.lent.specs.Lent.{Lent, lent, Back, accepted?}
use Rattle.lent.specs.Operations.{finding, change, fresh_start, tick_bytes, next_event, end_thread, create_thread, schedule}
use Rattle.lent.specs.Guest.{window_ok, dispatch, collect}
use Rattle.lent.proofs.Cases.{inspect-0, change-0}
use Rattle.history.specs.Step.{Op, op_fresh_start, op_next_event, op_create_thread, op_schedule, op_satisfied_now, op_quiet_release, op_end_thread, op_dispatch, op_collect, step, Entry, trace}
use Rattle.history.specs.Events.{doing, event_of, entry}
use Rattle.history.proofs.Events.{sound-after, real}
use Rattle.history.specs.Plays.{play, Says, takes?, takes_all?, start, start_refused, Somewhere}
use Rattle.history.specs.Demand.{Always, Claim}

length-block : (k : Kernel) → StateFits k → length (enc_block k) ≡ 16384
unfolding enc_block
length-block k f =
    rw (
      length-append,
      length-enc_head (head_words k),
      length-append,
      length-all enc_thread 160 length-enc_thread 32 k.threads f.nt,
      length-append,
      length-all enc_slot 40 length-enc_slot 128 k.objects.slots f.ns,
      length-append,
      length-all enc_entry 8 length-enc_entry 256 k.handles.entries f.ne,
      length-append,
      length-all enc_waiter 12 length-enc_waiter 64 k.objects.waiters f.nw,
      length-append,
      length-all enc_id 4 length-enc_id 32 k.objects.thread_objects f.ni,
    )

sound-length : (b : List ℕ) → sound? b ≡ true → length b ≡ 16384
sound-length b e = let s = (t_block b).yes e in ap length s.canonical ∙ length-block (dec_block b) s.state.fits

-- ---- the law of one operation
not_yes : (q : Bool) → not q ≡ true → q ≡ false
not_yes true e = sym e
not_yes false e = refl

module _ (b : List ℕ) (k : Kernel) (x : Says b k) where
  abbrev sized : eqb (length b) 16384 ≡ true
  sized = eq-eqb (length b) 16384 (sound-length b x.sound)

  changed : (t : Bool) (refuses : Kernel → ℕ) (work : Kernel → Kernel) (result : Kernel → Back) (l : Lent) → l.block ≡ b → t ≡ true
      → eqb (refuses k) 0 ≡ true → eqb (finding (work k)) 0 ≡ true → result k ≡ change t refuses work result l
  changed t refuses work result l i p q r =
      change-0 t refuses work result l p k (sym (ap dec_block i ∙ x.state)) true (sym (ap sound? i ∙ x.sound)) refl (refuses k) refl (eqb-true _ 0 q) (finding (work k)) refl (eqb-true _ 0 r)

  pub accepts : (op : Op) → takes? op k ≡ true → accepted? (step op b).number ≡ true
  unfolding step takes? accepted? ◌or◌ ◌and◌ fresh_start next_event create_thread schedule end_thread dispatch collect
  accepts (op_fresh_start bank u word h) e = ap (λ (r : Back). accepted? r.number) (pick_yes _ _ _ (true-and _ _ sized e))
  accepts (op_next_event answer u) e =
      let h = and-true _ _ e in
      ap (λ (r : Back). accepted? r.number) (sym (inspect-0 (eqb (length b) 16384 and eqb (length answer) 16) (λ m. tick_bytes (kernel.next_event m)) (lent b [] [] [] answer) (true-and _ _ sized h.0) k (sym x.state) true (sym x.sound) refl false (sym (not_yes _ h.1)) refl))
  accepts (op_create_thread bank u answer v entry i stack s arg a priority p processor q) e =
      let h = and-true _ _ e in
      ap (λ (r : Back). accepted? r.number) (sym (changed (eqb (length b) 16384 and (eqb (length bank) 6656 and eqb (length answer) 4)) _ _ _ (lent b bank [] [] answer) refl (true-and _ _ sized h.0) refl h.1))
  accepts (op_schedule bank u processor p answer v tick i) e =
      let h = and-true _ _ e in
      ap (λ (r : Back). accepted? r.number) (sym (changed (eqb (length b) 16384 and (eqb (length bank) 6656 and (eqb (length processor) 208 and eqb (length answer) 4))) _ _ _ (lent b bank processor [] answer) refl (true-and _ _ sized h.0) refl h.1))
  accepts (op_satisfied_now handles w answer u all h tick t) e = false-true e
  accepts (op_quiet_release answer u handle h tick t) e = false-true e
  accepts (op_end_thread t i) e =
      let h = and-true _ _ e in
      ap (λ (r : Back). accepted? r.number) (sym (changed (eqb (length b) 16384) _ _ _ (lent b [] [] [] []) refl sized h.0 h.1))
  accepts (op_dispatch bank u processor p window w base y number n tick t) e =
      let h = and-true _ _ e in
      let g = and-true _ _ h.1 in
      let f = and-true _ _ g.1 in
      ap (λ (r : Back). accepted? r.number) (sym (changed (eqb (length b) 16384 and (eqb (length bank) 6656 and (eqb (length processor) 208 and window_ok base window))) _ _ _ (lent b bank processor window []) refl (true-and _ _ sized h.0) g.0 f.0))
      ∙ f.1
  accepts (op_collect answer u) e =
      let h = and-true _ _ e in
      let g = and-true _ _ h.1 in
      ap (λ (r : Back). accepted? r.number) (sym (changed (eqb (length b) 16384 and eqb (length answer) 12) _ _ _ (lent b [] [] [] answer) refl (true-and _ _ sized h.0) g.0 g.1))

-- ---- the law of a list
pub says_after : (op : Op) (b : List ℕ) (k : Kernel) → dec_block b ≡ k → accepted? (step op b).number ≡ true → Says (step op b).after.block (effect (doing op) k)
says_after op b k s a = record { sound = sound-after op b a; state = (real op b).did a ∙ ap (effect (doing op)) s }

pub plays : (ops : List Op) (b : List ℕ) (k : Kernel) → Says b k → takes_all? ops k ≡ true → map event_of (trace ops b) ≡ play ops k
unfolding play trace takes_all?
plays [] b k x e = refl
plays (op ∷ ops) b k x e =
    let h = and-true (takes? op k) (takes_all? ops (effect (doing op) k)) e in
    let a = accepts b k x op h.0 in
    let y = says_after op b k x.state a in
    let rest = plays ops (step op b).after.block (effect (doing op) k) y h.1 in
    λ i. record { accepted = a i; before = x.state i; does = doing op; after = y.state i } ∷ rest i

pub start-accepted : (b : List ℕ) → length b ≡ 16384 → accepted? (step start b).number ≡ true
unfolding step fresh_start accepted? ◌or◌ ◌and◌
start-accepted b e = ap (λ (r : Back). accepted? r.number) (pick_yes _ _ _ (true-and _ _ (eq-eqb (length b) 16384 e) (eq-eqb _ 6656 (length-replicate {A = ℕ} 6656 0))))

pub start-refused : (b : List ℕ) → accepted? (step start_refused b).number ≡ false
unfolding step fresh_start accepted? ◌or◌ ◌and◌
start-refused b = ap (λ (r : Back). accepted? r.number) (pick_no _ _ _ (and-false (eqb (length b) 16384)))

pub from_start : (P : Event → List Event → Type 0) (ops : List Op) → takes_all? ops (fresh 0) ≡ true → Somewhere P (play ops (fresh 0))
    → (b : List ℕ) → length b ≡ 16384 → Somewhere P (map event_of (trace (start ∷ ops) b))
unfolding trace
from_start P ops e s b l = inr (subst (Somewhere P) (sym (plays ops (step start b).after.block (fresh 0) (says_after start b (dec_block b) refl (start-accepted b l)) e)) s)

-- the claims of demand 3 at that entry
pub along : (P Q : Event → List Event → Type 0) → ((e : Event) (es : List Event) → P e es → Ends e es × Runs e es × KeepsGrid e es → Q e es)
    → (l : List Entry) → Always Claim l → Somewhere P (map event_of l) → Somewhere Q (map event_of l)
along P Q f [] a s = s
along P Q f (e ∷ es) a (inl p) = inl (f (event_of e) (map event_of es) p (a.0.ends, a.0.runs, a.0.grid))
along P Q f (e ∷ es) a (inr s) = inr (along P Q f es a.1 s)
