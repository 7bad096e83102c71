-- A handle opened after the timers have fired. Assumes nothing.
use Rattle.std.specs.Prelude.{Option, Some, None, Result, Err}
use mathlib.Core.Path.{◌≡◌, refl, sym, ap, subst, ◌∙◌}
use mathlib.Core.Bool.{Bool, true, false}
use mathlib.Core.List.{List}
use Prim.Native.Nat.{ℕ}
use lib.Dec.{eqb}
use Rattle.std.proofs.lemmas.Grind.{common_steps}
use Rattle.laws.specs.Logic.{pick, ◌and◌, ◌or◌, or-false, or_yes, or_no}
use Rattle.units.specs.declared.ObjectId.{ObjectId}
use Rattle.types.specs.declared.refusal.Refusal.{Refusal}
use Rattle.types.specs.Refusal.{refusal_number, refusal-some, found_in}
use Rattle.types.specs.declared.thread.Thread.{Thread}
use Rattle.types.specs.declared.object.Slot.{Slot}
use Rattle.types.specs.declared.object.ObjectStore.{ObjectStore}
use Rattle.types.specs.declared.kernel.Kernel.{Kernel}
use Rattle.block.specs.Block.{dec_block}
use Rattle.sound.specs.Question.{sound?}
use Rattle.object.specs.Slots.{with_slots}
use Rattle.pass.specs.Signal.{with_overflow}
use Rattle.pass.specs.Timers.{timer_due, fire_timers, catch_up_timers}
use Rattle.svc.specs.Call.{with_objects, resolved}
use Rattle.svc.specs.Timers.{caught_up}
use Rattle.calling.specs.Resolves.{resolve-overflow}
use Rattle.lent.specs.Operations.{finding, out_of_handles?}
use Rattle.outcome.specs.Findings.{found_of, none_found, parts-finding, room-none}
use Rattle.due.proofs.Caught.{none-due}
use Rattle.objects.specs.Open.{Opens, makes_current, no_room}
use Rattle.objects.proofs.Room.{resolved-full}
use Rattle.objects.proofs.Sound.{opened-state}
use Rattle.timer_calls.proofs.Found.{down}

-- only slots change, and whether a count fits
pub caught_as : (s : ObjectStore) (ts : List Thread) (tick : ℕ) → catch_up_timers s ts tick ≡ with_overflow (with_slots s (catch_up_timers s ts tick).slots) (catch_up_timers s ts tick).overflow
unfolding catch_up_timers fire_timers
caught_as s ts tick = go (timer_due tick s.slots) _ _
  where
    go : (t : Bool) (l : List Slot) (v : Bool) → ◌≡◌ {A = ObjectStore} (pick t (with_overflow (with_slots s l) v) s) (with_overflow (with_slots s (pick t (with_overflow (with_slots s l) v) s).slots) (pick t (with_overflow (with_slots s l) v) s).overflow)
    go true l v = refl
    go false l v = refl

pub caught-full : (b : List ℕ) (tick : ℕ) → (caught_up (dec_block b) tick).objects.full ≡ false
unfolding dec_block
caught-full b tick = ap (λ (s : ObjectStore). s.full) (caught_as (dec_block b).objects (dec_block b).threads tick)

makes-slots : (s : ObjectStore) (l : List Slot) (v : Bool) (c : Option ℕ) → makes_current (with_overflow (with_slots s l) v) c ≡ makes_current s c
makes-slots s l v None = refl
makes-slots s l v (Some t) = refl

room-slots : (k : Kernel) (l : List Slot) (v : Bool) (h : ℕ) → no_room (with_objects k (with_overflow (with_slots k.objects l) v)) h ≡ no_room k h
room-slots k l v h = ap (λ (z : Bool). eqb k.objects.free 0 and pick (eqb h 0xFFFF8000) z (pick (eqb h 0xFFFF8001) (eqb k.objects.process_object.0 0) false)) (makes-slots k.objects l v k.current_thread)

module _ (b : List ℕ) (h tick : ℕ) where
  abbrev k : Kernel
  k = dec_block b

  abbrev caught : Kernel
  caught = caught_up k tick

  same-room : no_room caught h ≡ no_room k h
  same-room =
      let s : ObjectStore = catch_up_timers k.objects k.threads tick in
      ap (λ (s : ObjectStore). no_room (with_objects k s) h) (caught_as k.objects k.threads tick)
      ∙ room-slots k s.slots s.overflow h

  pub caught-finding : finding (with_objects caught (resolved caught h).store) ≡ found_of (no_room k h) (caught.objects.overflow or out_of_handles? k)
  caught-finding =
      parts-finding b k.threads (resolved caught h).store
      ∙ (λ i. found_of ((resolved-full caught h (caught-full b tick) ∙ same-room) i) (resolve-overflow caught.current_thread caught.handles caught.objects h i or out_of_handles? k))

  pub caught-fits : found_of (no_room k h) (caught.objects.overflow or out_of_handles? k) ≡ 0 → caught.objects.overflow ≡ false
  caught-fits z = (or-false caught.objects.overflow (out_of_handles? k) (none_found (no_room k h) (caught.objects.overflow or out_of_handles? k) z).1).0

  -- something is found already
  pub opens_refused : (r : Refusal) → found_of (no_room k h) (caught.objects.overflow or out_of_handles? k) ≡ refusal_number r → Opens caught (resolved caught h) b b (Err r)
  opens_refused r f = record {
    found = sym (caught-finding ∙ f);
    same = λ w. refl;
    holds = λ w. absurd (refusal-some r w);
    object = λ w. absurd (refusal-some r w);
  }

  -- nothing is; m is the block once the timers have fired
  module _ (m : List ℕ) (q : dec_block m ≡ caught) (s : sound? m ≡ true) (e : List ℕ) (o : Result ObjectId Refusal) (p : Opens (dec_block m) (resolved (dec_block m) h) m e o) where
    pub opens_caught : found_of (no_room k h) (caught.objects.overflow or out_of_handles? k) ≡ 0 → Opens caught (resolved caught h) b e o
    opens_caught z =
        let w : Opens caught (resolved caught h) m e o = subst (λ (x : Kernel). Opens x (resolved x h) m e o) q p in
        record { found = w.found; same = λ v. absurd (v (w.found ∙ caught-finding ∙ z)); holds = w.holds; object = w.object }

    pub state-caught : found_in o ≡ 0 → dec_block e ≡ with_objects caught (resolved caught h).store
    state-caught z = opened-state m s h e o p z ∙ (λ i. with_objects (q i) (resolved (q i) h).store)

pub ruleset fires = (common_steps, or_yes, or_no, none-due, down)

pub ruleset opens = (common_steps, room-none, caught-fits)
