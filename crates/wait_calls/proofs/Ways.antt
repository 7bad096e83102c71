-- `wait_synchronization1` by the code's cases. Assumes nothing.
use Rattle.std.specs.Prelude.{Option, Some, None, Result, Ok, Err, is_err}
use mathlib.Core.Path.{◌≡◌, refl, sym, ap, subst, ◌∙◌}
use mathlib.Core.Bool.{Bool, true, false}
use mathlib.Core.List.{List}
use mathlib.Core.Logic.{◌≢◌}
use Prim.Native.Nat.{ℕ}
use borrow.Author.Tests.{eq-eqb, ne_eqb}
use Rattle.laws.specs.Logic.{◌or◌, or-true, or-end, or-false, false-true}
use Rattle.units.specs.declared.ObjectId.{ObjectId}
use Rattle.types.specs.declared.refusal.Refusal.{Refusal}
use Rattle.types.specs.Refusal.{refusal_number, refusal-some, found_in, unless_found}
use Rattle.types.specs.declared.object.ObjectStore.{ObjectStore}
use Rattle.types.specs.declared.kernel.Kernel.{Kernel}
use Rattle.block.specs.Block.{enc_block, dec_block}
use Rattle.sound.specs.View.{object_at}
use Rattle.sound.specs.Objects.{KeptOk}
use Rattle.sound.specs.Question.{sound?}
use Rattle.sound.proofs.Question.{t_block}
use Rattle.object.specs.declared.kept.Resolved.{Resolved}
use Rattle.object.specs.Handles.{object_of}
use Rattle.pass.specs.Asks.{pseudo}
use Rattle.svc.specs.declared.Registers.{Registers}
use Rattle.svc.specs.declared.Served.{Served}
use Rattle.svc.specs.Call.{done, answers, with_objects, pair, resolved}
use Rattle.svc.specs.Timers.{caught_up}
use Rattle.svc.specs.Waits.{wait1_as, wait_synchronization1}
use Rattle.lent.specs.Operations.{finding, out_of_handles?}
use Rattle.outcome.specs.declared.Outcome.{Outcome}
use Rattle.outcome.specs.Outcome.{accepted, found-is, outcome, left, outcome-0, outcome-found, left-0, left-found}
use Rattle.outcome.specs.Findings.{found_of, none_found, same-finding, parts-finding, found-finding}
use Rattle.rows.specs.Holds.{holds}
use Rattle.svc.proofs.Handles.{plain}
use Rattle.objects.specs.Open.{Opens}
use Rattle.timer_calls.proofs.Opened.{caught-full}
use Rattle.wait_calls.specs.Named.{wait1_opened, wait1_is}
use Rattle.wait_calls.specs.Over.{over_now}
use Rattle.wait_calls.proofs.Now.{over-caught, over-pseudo, wait1_finding}

-- nothing is found of a block as it is
same-found : (b : List ℕ) → out_of_handles? (dec_block b) ≡ false → finding (dec_block b) ≡ 0
same-found b n = same-finding b ∙ ap (found_of false) n

-- with nothing found, what a call leaves does not hang on the block before
pub moves : (b e : List ℕ) (o : Result Outcome Refusal) (x : List ℕ) (v w : Served) → v ≡ w → finding w.kernel ≡ 0 → o ≡ outcome v → x ≡ left v e → (o ≡ outcome w) × (x ≡ left w b)
moves b e o x v w q z p r = (p ∙ ap outcome q, r ∙ ap (λ (u : Served). left u e) q ∙ left-0 w e z ∙ sym (left-0 w b z))

-- the call w, which is v and finds nothing
pub leaves : (b : List ℕ) (o : Outcome) (x : List ℕ) (v w : Served) → w ≡ v → finding v.kernel ≡ 0 → o ≡ accepted v → x ≡ enc_block v.kernel → (Ok o ≡ outcome w) × (x ≡ left w b)
leaves b o x v w q z p r = rw q (ap Ok p ∙ sym (outcome-0 v z), r ∙ sym (left-0 v b z))

-- a call that leaves the state as it is
pub stays : (b : List ℕ) → sound? b ≡ true → out_of_handles? (dec_block b) ≡ false → (o : Outcome) (v w : Served) → v.kernel ≡ dec_block b → v ≡ w → o ≡ accepted v → (Ok o ≡ outcome w) × (b ≡ left w b)
stays b s n o v w k q p = leaves b o b v w (sym q) (ap finding k ∙ same-found b n) p ((holds b s).same ∙ ap enc_block (sym k))

-- a call that finds something
pub refuses : (b : List ℕ) (r : Refusal) (v : Served) → finding v.kernel ≡ refusal_number r → (Err r ≡ outcome v) × (b ≡ left v b)
refuses b r v e = (sym (outcome-found v r e), sym (left-found v b (λ w. refusal-some r (sym e ∙ w))))

-- a step of it that finds what it finds
pub found-by : (v : Served) (r : Refusal) → unless_found {A = Unit {0}} (finding v.kernel) tt ≡ Err r → finding v.kernel ≡ refusal_number r
found-by v r e = sym (found-finding {A = Unit {0}} v.kernel tt) ∙ ap found_in e

-- whether it is refused
pub refused-some : (v : Served) → is_err (outcome v) ≡ true → finding v.kernel ≢ 0
refused-some v e z = false-true (ap is_err (sym (outcome-0 v z)) ∙ e)

pub refused-none : (v : Served) → is_err (outcome v) ≡ false → finding v.kernel ≡ 0
refused-none v e = sym (found-is v) ∙ go (outcome v) e
  where
    go : (o : Result Outcome Refusal) → is_err o ≡ false → found_in o ≡ 0
    go (Ok x) h = refl
    go (Err r) h = false-true (sym h)

-- more that is found makes no difference; w is v, or true
pub found-more : (f v w o : Bool) → (w ≡ false → v ≡ false) → found_of f (v or o) ≢ 0 → found_of f (w or o) ≡ found_of f (v or o)
unfolding ◌or◌
found-more true v w o s z = refl
found-more false true true o s z = refl
found-more false true false o s z = false-true (sym (s refl))
found-more false false true true s z = refl
found-more false false true false s z = absurd (z refl)
found-more false false false o s z = refl

-- the handles are those before
pub same-handles : (q k : Kernel) (s : ObjectStore) → q ≡ with_objects k s → out_of_handles? k ≡ false → out_of_handles? q ≡ false
unfolding out_of_handles?
same-handles q k s e h = ap out_of_handles? e ∙ h

-- ---- the handle names o in the state k
module _ (k : Kernel) (o : ℕ) (r : Registers) (tick : ℕ) where
  abbrev wait : Option ℕ → Served
  wait t = wait1_as t k o (pair r.r2 r.r3) tick

  pub unknown : o ≡ 0 → answers 16 k ≡ wait1_opened k o r tick
  unknown z = rw (eq-eqb o 0 z)

  pub nobody : o ≢ 0 → k.current_thread ≡ None → done k ≡ wait1_opened k o r tick
  nobody z f = rw (ne_eqb o 0 z) (ap wait (sym f))

  pub waits : o ≢ 0 → (c : ℕ) → k.current_thread ≡ Some c → wait (Some c) ≡ wait1_opened k o r tick
  waits z c f = rw (ne_eqb o 0 z) (ap wait (sym f))

-- ---- the whole call, on the block b
module _ (b : List ℕ) (r : Registers) (tick : ℕ) where
  abbrev j : Kernel
  j = dec_block b

  abbrev caught : Kernel
  caught = caught_up j tick

  abbrev call : Served
  call = wait_synchronization1 j r tick

  abbrev over : ObjectStore → ℕ → Bool
  over s o = over_now j.current_thread j.threads (object_at s o)

  -- an ordinary handle, which names o
  module _ (p : pseudo r.r0 ≡ false) (o : ℕ) (eo : o ≡ object_of j.handles r.r0) where
    pub plain-is : wait1_opened caught o r tick ≡ call
    plain-is =
        ap (λ (m : ℕ). wait1_opened caught m r tick) eo
        ∙ ap (λ (y : Resolved). wait1_opened (with_objects caught y.store) y.object.0 r tick) (sym (plain caught.current_thread caught.handles caught.objects r.r0 p)) ∙ sym (wait1_is j r tick)

    plain-finding : finding call.kernel ≡ found_of false ((caught.objects.overflow or over j.objects o) or out_of_handles? j)
    plain-finding =
        ap (λ (v : Served). finding v.kernel) (sym plain-is) ∙ wait1_finding b caught.objects o r tick
        ∙ (λ i. found_of (caught-full b tick i) ((caught.objects.overflow or over-caught j.current_thread j.threads j.objects tick o i) or out_of_handles? j))

    pub plain_over : over j.objects o ≡ true → finding call.kernel ≡ 8
    unfolding ◌or◌
    plain_over e = plain-finding ∙ ap (λ (v : Bool). found_of false ((caught.objects.overflow or v) or out_of_handles? j)) e ∙ ap (λ (v : Bool). found_of false (v or out_of_handles? j)) (or-true caught.objects.overflow)

    pub plain-found : over j.objects o ≡ false → finding call.kernel ≡ found_of false (caught.objects.overflow or out_of_handles? j)
    plain-found e = plain-finding ∙ ap (λ (v : Bool). found_of false ((caught.objects.overflow or v) or out_of_handles? j)) e ∙ ap (λ (v : Bool). found_of false (v or out_of_handles? j)) (or-end caught.objects.overflow)

  -- a pseudo-handle, opened in the block e
  module _ (p : pseudo r.r0 ≡ true) (e : List ℕ) (a : Result ObjectId Refusal) (g : Opens caught (resolved caught r.r0) b e a) where
    abbrev x : Resolved
    x = resolved caught r.r0

    opened-finding : found_in a ≡ found_of x.store.full (x.store.overflow or out_of_handles? j)
    opened-finding = g.found ∙ parts-finding b j.threads x.store

    pseudo-finding : finding call.kernel ≡ found_of x.store.full ((x.store.overflow or over x.store x.object.0) or out_of_handles? j)
    pseudo-finding = ap (λ (v : Served). finding v.kernel) (wait1_is j r tick) ∙ wait1_finding b x.store x.object.0 r tick

    pub pseudo-refused : found_in a ≢ 0 → finding call.kernel ≡ found_in a
    pseudo-refused z = pseudo-finding ∙ found-more x.store.full x.store.overflow (x.store.overflow or over x.store x.object.0) (out_of_handles? j) (λ e. (or-false x.store.overflow (over x.store x.object.0) e).0) (λ w. z (opened-finding ∙ w)) ∙ sym opened-finding

    module _ (z : found_in a ≡ 0) (s : sound? e ≡ true) (q : dec_block e ≡ with_objects caught x.store) where
      kept : KeptOk x.store
      kept = subst (λ (k : Kernel). KeptOk k.objects) q ((t_block e).yes s).state.kept

      pub pseudo-none : finding call.kernel ≡ 0
      pseudo-none =
          pseudo-finding
          ∙ ap (λ (v : Bool). found_of x.store.full ((x.store.overflow or v) or out_of_handles? j)) (over-pseudo j.current_thread j.threads caught r.r0 p kept)
          ∙ ap (λ (v : Bool). found_of x.store.full (v or out_of_handles? j)) (or-end x.store.overflow) ∙ sym opened-finding ∙ z

      pub pseudo-handles : out_of_handles? (dec_block e) ≡ false
      pseudo-handles = same-handles (dec_block e) j x.store q (or-false x.store.overflow (out_of_handles? j) (none_found x.store.full _ (sym opened-finding ∙ z)).1).1

      pub pseudo-is : (o : ℕ) → o ≡ x.object.0 → wait1_opened (dec_block e) o r tick ≡ call
      pseudo-is o eo = (λ i. wait1_opened (q i) (eo i) r tick) ∙ sym (wait1_is j r tick)
