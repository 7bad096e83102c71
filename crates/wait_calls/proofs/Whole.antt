-- The whole of `wait_synchronization_n` on the block b, by the code's cases. Assumes nothing.
use Rattle.std.specs.Prelude.{Option, Some, None, Result, Ok, Err}
use Rattle.types.specs.declared.refusal.Refusal.{Refusal}
use Rattle.types.specs.Refusal.{refusal_number, refusal-some, unless_found}
use mathlib.Core.Path.{◌≡◌, refl, sym, ap, subst, ◌∙◌}
use mathlib.Core.Bool.{Bool, true, false, not}
use mathlib.Core.List.{List, [], ◌∷◌, map}
use mathlib.Core.Logic.{◌≢◌}
use Prim.Native.Nat.{ℕ}
use lib.Dec.{eqb}
use lib.ListN.{length, take, length-map}
use borrow.Author.Tests.{not-true}
use Rattle.laws.specs.Logic.{pick, ◌and◌, ◌or◌, or-false, false-true}
use Rattle.units.specs.declared.ObjectId.{ObjectId}
use Rattle.types.specs.declared.object.HandleTable.{HandleTable}
use Rattle.types.specs.declared.object.ObjectStore.{ObjectStore}
use Rattle.types.specs.declared.kernel.Kernel.{Kernel}
use Rattle.types.specs.Object.{next_of}
use Rattle.types.specs.Thread.{wait_list}
use Rattle.block.specs.Block.{enc_block, dec_block}
use Rattle.sound.specs.View.{ids, object_at}
use Rattle.sound.specs.Question.{sound?}
use Rattle.sound.proofs.Question.{t_block}
use Rattle.kernel.specs.NextEvent.{contains}
use Rattle.object.specs.Handles.{object_of}
use Rattle.soundness.specs.Kept.{CurrentIn}
use Rattle.soundness.specs.Whole.{sound-parts}
use Rattle.thread.specs.Threads.{least}
use Rattle.pass.specs.Asks.{padded, pseudo, open_object}
use Rattle.pass.specs.Padded.{padded-first}
use Rattle.pass.specs.Timers.{timer_due}
use Rattle.svc.specs.declared.Registers.{Registers}
use Rattle.svc.specs.declared.Served.{Served}
use Rattle.svc.specs.Call.{answers, with_objects, pair}
use Rattle.svc.specs.Timers.{caught_up}
use Rattle.svc.specs.Waits.{resolve_all, resolve_store, wait_nas, wait_synchronization_n}
use Rattle.svc.proofs.Handles.{plain}
use Rattle.calling.specs.Timers.{caught-parts}
use Rattle.parking.specs.Lists.{store-overflow}
use Rattle.lent.specs.Operations.{finding, out_of_handles?}
use Rattle.outcome.specs.Findings.{found_of, none_found, parts-finding, room-none, room-refused}
use Rattle.rows.specs.Holds.{holds}
use Rattle.rows.specs.Current.{current-place}
use Rattle.due.proofs.Caught.{none-due}
use Rattle.objects.specs.Open.{makes_current}
use Rattle.timer_calls.proofs.Opened.{caught_as, caught-full}
use Rattle.wait_calls.specs.Waits.{wait_in}
use Rattle.wait_calls.specs.Opens.{store_of, objects_of, Opens, Ready}
use Rattle.wait_calls.specs.Room.{met, lacking, lacks_room}
use Rattle.wait_calls.specs.Near.{any_near}
use Rattle.wait_calls.proofs.Still.{caught-same}
use Rattle.wait_calls.proofs.Ways.{found-more}
use Rattle.wait_calls.proofs.Makes.{full_is}
use Rattle.wait_calls.proofs.Finds.{opened-near, caught_fine}
use Rattle.wait_calls.proofs.Lists.{size-first, least_fits, size_is, wait-in, over_as, as_found, as_sticks, as_fits}

-- ---- handles that are all known make nothing
module _ (k : Kernel) (s : ObjectStore) where
  abbrev Plain : List ℕ → Type 0
  Plain hs = (resolve_all k.current_thread k.handles s hs ≡ map (open_object k) hs) × (resolve_store k.current_thread k.handles s hs ≡ s)

  plain_more : (h : ℕ) (hs : List ℕ) (t : Bool) → pseudo h ≡ t → eqb (open_object k h) 0 ≡ false → Plain hs → Plain (h ∷ hs)
  unfolding resolve_all resolve_store
  plain_more h hs true p e g = false-true (sym (rw p at e))
  plain_more h hs false p e g =
      let x = plain k.current_thread k.handles s h p in
      let d : eqb (object_of k.handles h) 0 ≡ false = rw p at e in
      rw (x, p, d) (ap (λ (l : List ℕ). object_of k.handles h ∷ l) g.0, g.1)

  plain-all : (hs : List ℕ) → contains (map (open_object k) hs) 0 ≡ false → Plain hs
  unfolding resolve_all resolve_store contains
  plain-all [] e = (refl, refl)
  plain-all (h ∷ hs) e =
      let q = or-false (eqb (open_object k h) 0) (contains (map (open_object k) hs) 0) e in
      plain_more h hs (pseudo h) refl q.0 (plain-all hs q.1)

-- ---- room is lacking before the timers fire exactly if it is after
module _ (k : Kernel) (tick : ℕ) where
  same_kept : (c : Option ℕ) → makes_current (caught_up k tick).objects c ≡ makes_current k.objects c
  same_kept None = refl
  same_kept (Some t) = ap (λ (s : ObjectStore). makes_current s (Some t)) (caught_as k.objects k.threads tick)

  same_next : (o : ℕ) → next_of (object_at (caught_up k tick).objects o) ≡ next_of (object_at k.objects o)
  same_next o = caught-same next_of (λ t. refl) k.objects k.threads tick o

  same-room : (c : Option ℕ) (t : HandleTable) (hs : List ℕ) → lacks_room c t (caught_up k tick).objects hs ≡ lacks_room c t k.objects hs
  same-room c t hs =
      let e = caught_as k.objects k.threads tick in
      let f : (caught_up k tick).objects.free ≡ k.objects.free = ap (λ (s : ObjectStore). s.free) e in
      let p : (caught_up k tick).objects.process_object.0 ≡ k.objects.process_object.0 = ap (λ (s : ObjectStore). s.process_object.0) e in
      (λ i. lacking (eqb (f i) 0) (eqb (next_of (object_at (caught_up k tick).objects (f i))) 0) (same_kept c i and met c t 0xFFFF8000 hs) (eqb (p i) 0 and met c t 0xFFFF8001 hs))
      ∙ ap (λ (n : ℕ). lacking (eqb k.objects.free 0) (eqb n 0) (makes_current k.objects c and met c t 0xFFFF8000 hs) (eqb k.objects.process_object.0 0 and met c t 0xFFFF8001 hs)) (same_next k.objects.free)

-- ---- on the block b
module _ (b : List ℕ) (sd : sound? b ≡ true) (r : Registers) (words : List ℕ) (n tick : ℕ) (z : length words ≡ wait_list) where
  abbrev k : Kernel
  k = dec_block b

  abbrev hs : List ℕ
  hs = take n words

  abbrev caught : Kernel
  caught = caught_up k tick

  abbrev s : ObjectStore
  s = store_of caught hs

  abbrev os : List ℕ
  os = objects_of caught hs

  abbrev all : Bool
  all = not (eqb r.r3 0)

  abbrev call : Served
  call = wait_synchronization_n k r hs tick

  same-overflow : s.overflow ≡ caught.objects.overflow
  same-overflow = store-overflow caught.current_thread caught.handles hs caught.objects

  -- ---- what is found before the wait
  abbrev before : ℕ
  before = found_of s.full (caught.objects.overflow or out_of_handles? k)

  current_in : (c : Option ℕ) → k.current_thread ≡ c → CurrentIn c
  current_in None e = tt
  current_in (Some c) e = current-place b sd c e

  -- known handles make nothing, others lack room or not
  pub full-before : (known full : Bool) → known ≡ not (contains (map (open_object k) hs) 0) → full ≡ pick known false (lacks_room k.current_thread k.handles k.objects hs) → full ≡ s.full
  full-before true full e f =
      let p = plain-all k caught.objects hs (not-true _ (sym e)) in
      f ∙ sym (ap (λ (y : ObjectStore). y.full) p.1 ∙ caught-full b tick)
  full-before false full e f =
      let kept : length caught.objects.thread_objects ≡ 32 = ap (λ (y : ObjectStore). length y.thread_objects) (caught_as k.objects k.threads tick) ∙ (holds b sd).sizes.ni in
      f ∙ sym (full_is k.current_thread k.handles (current_in k.current_thread refl) hs caught.objects (caught-full b tick) kept ∙ same-room k tick k.current_thread k.handles hs)

  -- ---- what the call finds
  abbrev q : Kernel
  q = with_objects caught s

  abbrev over : Bool
  over = over_as b s os all (pair r.r0 r.r4) tick k.current_thread

  found_as_lem : (t : Bool) → finding (pick t (answers 16 q) (wait_nas k.current_thread q os all (pair r.r0 r.r4) tick)).kernel ≡ found_of s.full (pick t s.overflow over or out_of_handles? k)
  found_as_lem true = parts-finding b k.threads s
  found_as_lem false = as_found b s os all (pair r.r0 r.r4) tick k.current_thread refl

  call-found : finding call.kernel ≡ found_of s.full (pick (contains os 0) s.overflow over or out_of_handles? k)
  unfolding wait_synchronization_n
  call-found = found_as_lem (contains os 0)

  sticks : (t : Bool) → pick t s.overflow over ≡ false → s.overflow ≡ false
  sticks true e = e
  sticks false e = as_sticks b s os all (pair r.r0 r.r4) tick k.current_thread e

  same-before : found_of s.full (s.overflow or out_of_handles? k) ≡ before
  same-before = ap (λ (v : Bool). found_of s.full (v or out_of_handles? k)) same-overflow

  pub call-refused : before ≢ 0 → finding call.kernel ≡ before
  call-refused m = call-found ∙ found-more s.full s.overflow (pick (contains os 0) s.overflow over) (out_of_handles? k) (sticks (contains os 0)) (λ w. m (sym same-before ∙ w)) ∙ same-before

  -- the objects of the handles as they were looked up
  pub looked-is : (l : List ObjectId) → l ≡ padded wait_list (map (open_object k) hs) → take (least n wait_list) (ids l) ≡ map (open_object k) hs
  looked-is l e =
      let m : length (map (open_object k) hs) ≡ least n wait_list = length-map hs (open_object k) ∙ size-first words n z in
      (λ i. take (sym m i) (ids (e i))) ∙ padded-first wait_list (map (open_object k) hs) (rw m (least_fits n))

  module _ (none : before ≡ 0) where
    down : (s.full ≡ false) × ((caught.objects.overflow ≡ false) × (out_of_handles? k ≡ false))
    down = let f = none_found s.full (caught.objects.overflow or out_of_handles? k) none in (f.0, or-false caught.objects.overflow (out_of_handles? k) f.1)

    -- counts that are not near the end of their type fit
    fits : any_near k.objects (map (open_object k) hs) ≡ false → (t : Bool) → contains os 0 ≡ t → pick t s.overflow over ≡ s.overflow
    fits e true c = refl
    fits e false c =
        as_fits b s os all (pair r.r0 r.r4) tick (rw (size_is k r words n tick z) (least_fits n))
        (opened-near hs caught (caught-parts k tick down.1.0 (sound-parts k ((t_block b).yes sd).state)) down.0 c (caught_fine k tick hs e)) k.current_thread

    pub call_none : any_near k.objects (map (open_object k) hs) ≡ false → finding call.kernel ≡ 0
    call_none e = call-found ∙ ap (λ (v : Bool). found_of s.full (v or out_of_handles? k)) (fits e (contains os 0) refl) ∙ same-before ∙ none

    pub ready : (l : List ObjectId) (known fires : Bool) → l ≡ padded wait_list (map (open_object k) hs) → known ≡ not (contains (map (open_object k) hs) 0) → fires ≡ timer_due tick k.objects.slots → Ready k words n l known fires tick
    ready l known fires e f g = record { size = z; objects = e; looked = f; due = g; fits = down.1.0; handles = down.1.1; room = down.0 }

  -- a is what is answered before the first write, by whether the handles h are known and whether room is lacking
  module _ (known full : Bool) (p : known ≡ not (contains (map (open_object k) hs) 0)) (h : List ℕ) (e : h ≡ hs)
      (f : full ≡ pick known false (lacks_room k.current_thread k.handles k.objects h)) (a : Result (Unit {0}) Refusal)
      (g : a ≡ unless_found (found_of full (caught.objects.overflow or out_of_handles? k)) tt) where
    before-is : found_of full (caught.objects.overflow or out_of_handles? k) ≡ before
    before-is =
        let w = f ∙ ap (λ (x : List ℕ). pick known false (lacks_room k.current_thread k.handles k.objects x)) e in
        ap (λ (y : Bool). found_of y (caught.objects.overflow or out_of_handles? k)) (full-before known full p w)

    pub asked-some : (y : Refusal) → a ≡ Err y → finding call.kernel ≡ refusal_number y
    asked-some y q =
        let m : before ≡ refusal_number y = sym before-is ∙ room-refused full _ tt y (sym g ∙ q) in
        call-refused (λ w. refusal-some y (sym m ∙ w)) ∙ m

    module _ (u : Unit {0}) (q : a ≡ Ok u) where
      pub asked-none : before ≡ 0
      asked-none = sym before-is ∙ room-none full _ tt u (sym g ∙ q)

      pub asked-ready : (l : List ObjectId) (fires : Bool) → l ≡ padded wait_list (map (open_object k) hs)
          → fires ≡ timer_due tick k.objects.slots → Ready k words n l known fires tick
      asked-ready l fires el ef = ready asked-none l known fires el p ef

-- ---- from there on
module _ (b : List ℕ) (sd : sound? b ≡ true) (r : Registers) (words : List ℕ) (n : ℕ) (l : List ObjectId) (known fires : Bool) (tick : ℕ) (g : Ready (dec_block b) words n l known fires tick) where
  abbrev c : Kernel
  c = caught_up (dec_block b) tick

  -- m is the block once the timers have fired
  module _ (m : List ℕ) (d : dec_block m ≡ c) where
    pub room-caught : (store_of (dec_block m) (take n words)).full ≡ false
    room-caught = ap (λ (y : Kernel). (store_of y (take n words)).full) d ∙ g.room

    -- every handle is known
    pub known_is : known ≡ true → wait_in (dec_block m) (Some l) (least n wait_list) r tick ≡ wait_synchronization_n (dec_block b) r (take n words) tick
    known_is e =
        let f : contains (map (open_object (dec_block b)) (take n words)) 0 ≡ false = not-true _ (sym g.looked ∙ e) in
        let p = plain-all (dec_block b) c.objects (take n words) f in
        let os : List ℕ = objects_of c (take n words) in
        let t : contains os 0 ≡ false = ap (λ (x : List ℕ). contains x 0) p.0 ∙ f in
        let q : Some l ≡ pick (contains os 0) None (Some (padded wait_list os)) = ap Some (g.objects ∙ ap (padded wait_list) (sym p.0)) ∙ ap (λ (u : Bool). pick u None (Some (padded wait_list os))) (sym t) in
        ap (λ (y : Kernel). wait_in y (Some l) (least n wait_list) r tick) (d ∙ ap (with_objects c) (sym p.1))
        ∙ wait-in (dec_block b) r words n tick g.size (Some l) q

    -- they are opened in the block e
    pub opened-is : (e : List ℕ) (x : Option (List ObjectId)) → Opens (dec_block m) (take n words) e x → wait_in (dec_block e) x (least n wait_list) r tick ≡ wait_synchronization_n (dec_block b) r (take n words) tick
    opened-is e x o =
        let w : Opens c (take n words) e x = subst (λ (y : Kernel). Opens y (take n words) e x) d o in
        ap (λ (y : Kernel). wait_in y x (least n wait_list) r tick) w.state ∙ wait-in (dec_block b) r words n tick g.size x w.objects

    -- no timer came due
    pub same_block : sound? m ≡ true → fires ≡ false → m ≡ b
    same_block s f = (holds m s).same ∙ ap enc_block (d ∙ none-due b tick (sym g.due ∙ f)) ∙ sym (holds b sd).same
