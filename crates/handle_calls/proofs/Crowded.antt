-- DuplicateHandle with no room for another handle. Assumes nothing.
use Rattle.std.specs.Prelude.{Result, Ok, Err}
use mathlib.Core.Path.{◌≡◌, refl, sym, ap, ◌∙◌}
use mathlib.Core.Bool.{true, false}
use mathlib.Core.List.{List}
use mathlib.Core.Logic.{◌≢◌}
use Prim.Native.Nat.{ℕ, ◌<◌}
use native.Mathlib.Decide.{ℕ_discrete}
use lib.Dec.{leb}
use borrow.Author.Tests.{eq-eqb, ne_eqb, leb-false}
use Rattle.laws.specs.Logic.{◌or◌}
use Rattle.codec.specs.Bytes.{le}
use Rattle.codec.specs.Layout.{dec_as}
use Rattle.types.specs.declared.kernel.Kernel.{Kernel}
use Rattle.types.specs.declared.object.ObjectStore.{ObjectStore}
use Rattle.block.specs.Block.{enc_block, dec_block}
use Rattle.sound.specs.Question.{sound?}
use Rattle.object.specs.declared.kept.Resolved.{Resolved}
use Rattle.object.specs.Store.{add_ref}
use Rattle.object.specs.Handles.{give, create}
use Rattle.object.proofs.Laws.{add-ref-held}
use Rattle.svc.specs.declared.Registers.{Registers}
use Rattle.svc.specs.declared.Served.{Served}
use Rattle.svc.specs.Call.{answers, gives, with_handles, with_objects, resolved}
use Rattle.svc.specs.Handles.{duplicate_handle}
use Rattle.lent.specs.Operations.{finding, out_of_handles?}
use Rattle.rows.specs.Holds.{holds}
use Rattle.types.specs.declared.refusal.Refusal.{Refusal}
use Rattle.types.specs.declared.refusal.Refusal.TheVariants.{Full}
use Rattle.types.specs.Refusal.{refusal_number, refusal-some, unless_found}
use Rattle.outcome.specs.Outcome.{answered, accepted, outcome, left, outcome-0, outcome-found, left-0, left-found}
use Rattle.outcome.specs.Findings.{found_of, none_found, room-none, room-refused, next-over, both-finding}
use Rattle.objects.specs.Open.{no_room, Names}
use Rattle.objects.proofs.Room.{opened-full, opened-sum, opened-finding}

module _ (b : List ℕ) (s : sound? b ≡ true) (r : Registers) where
  abbrev k : Kernel
  k = dec_block b

  abbrev x : Resolved
  x = resolved k r.r1

  abbrev call : Served
  call = duplicate_handle k r

  -- an unknown handle
  unknown : x.object.0 ≡ 0 → answers 16 (with_objects k x.store) ≡ call
  unfolding duplicate_handle
  unknown e = rw (eq-eqb x.object.0 0 e)

  known : x.object.0 ≢ 0 → gives (with_handles k (give k.handles x.object.0) (add_ref x.store x.object.0)) k.handles.next.0 ≡ call
  unfolding duplicate_handle create
  known e = rw (ne_eqb x.object.0 0 e)

  given-finding : finding (with_handles k (give k.handles x.object.0) (add_ref x.store x.object.0)) ≡ found_of (no_room k r.r1 or leb 256 k.handles.count) (leb 0xFFFF8000 k.handles.next.0)
  unfolding give dec_block out_of_handles? ◌or◌
  given-finding =
      let t = give k.handles x.object.0 in
      let y = add-ref-held x.store x.object.0 in
      both-finding b t (add_ref x.store x.object.0)
      ∙ (λ i. found_of ((ap (λ (z : ObjectStore). z.full) y ∙ opened-full b r.r1) i or leb 256 k.handles.count) ((ap (λ (z : ObjectStore). z.overflow) y ∙ opened-sum b r.r1) i or next-over k.handles.next.0 i))

  refuses : (y : Refusal) → finding call.kernel ≡ refusal_number y → (Err y ≡ outcome call) × (b ≡ left call b)
  refuses y f = (sym (outcome-found call y f), sym (left-found call b (λ w. refusal-some y (sym f ∙ w))))

  pub no-slot : no_room k r.r1 ≡ true → (Err Full ≡ outcome call) × (b ≡ left call b)
  unfolding ◌or◌
  no-slot e = elim (ℕ_discrete x.object.0 0) [
    | yes z ↦ refuses Full (ap (λ (v : Served). finding v.kernel) (sym (unknown z)) ∙ opened-finding b r.r1 ∙ rw e)
    | no z ↦ refuses Full (ap (λ (v : Served). finding v.kernel) (sym (known z)) ∙ given-finding ∙ rw e)
  ]

  module _ (e : no_room k r.r1 ≡ false) where
    pub no_handle : Names k r.r1 true → (y : Refusal) → refusal_number y ≡ found_of (leb 256 k.handles.count) (leb 0xFFFF8000 k.handles.next.0) → (Err y ≡ outcome call) × (b ≡ left call b)
    unfolding ◌or◌
    no_handle p y f = refuses y (ap (λ (v : Served). finding v.kernel) (sym (known (p.some refl e))) ∙ given-finding ∙ rw e (sym f))

    module _ (p : Names k r.r1 false) where
      object-is : x.object.0 ≡ 0
      object-is = ap (λ (y : Resolved). y.object.0) (p.none refl)

      opened : finding call.kernel ≡ found_of false (out_of_handles? k)
      opened = ap (λ (v : Served). finding v.kernel) (sym (unknown object-is)) ∙ opened-finding b r.r1 ∙ rw e refl

      pub used_up : (y : Refusal) → found_of false (out_of_handles? k) ≡ refusal_number y → (Err y ≡ outcome call) × (b ≡ left call b)
      used_up y q = refuses y (opened ∙ q)

      pub not_known : found_of false (out_of_handles? k) ≡ 0 → (Ok (answered 16) ≡ outcome call) × (b ≡ left call b)
      not_known q =
          let f : finding call.kernel ≡ 0 = opened ∙ q in
          let w : answers 16 k ≡ call = ap (λ (y : Resolved). answers 16 (with_objects k y.store)) (sym (p.none refl)) ∙ unknown object-is in
          (ap Ok (ap accepted w) ∙ sym (outcome-0 call f), (holds b s).same ∙ ap (λ (v : Served). enc_block v.kernel) w ∙ sym (left-0 call b f))

-- ---- room for a handle, asked of how many there are and of the next as they are read
module _ (b : List ℕ) (n m : ℕ) (e : n ≡ le 4 b 40) (f : m ≡ le 4 b 44) where
  abbrev asked : Result Unit Refusal
  asked = unless_found (found_of (leb 256 n) (leb 0xFFFF8000 m)) tt

  found-is : found_of (leb 256 n) (leb 0xFFFF8000 m) ≡ found_of (leb 256 (dec_block b).handles.count) (leb 0xFFFF8000 (dec_block b).handles.next.0)
  unfolding dec_block dec_as
  found-is = λ i. found_of (leb 256 (e i)) (leb 0xFFFF8000 (f i))

  pub lacks-room : (r : Result Unit Refusal) → r ≡ asked → (y : Refusal) → r ≡ Err y
      → refusal_number y ≡ found_of (leb 256 (dec_block b).handles.count) (leb 0xFFFF8000 (dec_block b).handles.next.0)
  lacks-room r q y g = sym (room-refused _ _ tt y (sym q ∙ g)) ∙ found-is

  pub has_room : (r : Result Unit Refusal) → r ≡ asked → ((y : Refusal) → r ≡ Err y → ⊥) → ((dec_block b).handles.count < 256) × ((dec_block b).handles.next.0 < 0xFFFF8000)
  has_room r q z = go r refl
    where
      go : (x : Result Unit Refusal) → r ≡ x → ((dec_block b).handles.count < 256) × ((dec_block b).handles.next.0 < 0xFFFF8000)
      go (Ok u) g =
          let w = none_found _ _ (sym found-is ∙ room-none _ _ tt u (sym q ∙ g)) in
          (leb-false 256 _ w.0, leb-false 0xFFFF8000 _ w.1)
      go (Err y) g = absurd (z y g)

-- the next handle, as it is read
pub next-is : (b : List ℕ) → le 4 b 44 ≡ (dec_block b).handles.next.0
unfolding dec_block dec_as
next-is b = refl
