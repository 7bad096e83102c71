-- What is found when a guest makes a thread, and what the call leaves. Assumes nothing.
use Rattle.std.specs.Prelude.{Ok}
use mathlib.Core.Path.{◌≡◌, sym, ap, ◌∙◌}
use mathlib.Core.Bool.{Bool, true, false}
use mathlib.Core.List.{List}
use Prim.Native.Nat.{ℕ, ◌+◌, ◌<◌}
use lib.Dec.{eqb, leb, ltb}
use borrow.Author.Tests.{leb-false}
use Rattle.laws.specs.Logic.{pick, ◌or◌, or-false}
use Rattle.types.specs.declared.object.ObjectStore.{ObjectStore}
use Rattle.types.specs.declared.kernel.Kernel.{Kernel}
use Rattle.block.specs.Block.{enc_block, dec_block}
use Rattle.block.proofs.Fits.{block_back}
use Rattle.sound.specs.Objects.{kept_at}
use Rattle.sound.specs.Sound.{Sound}
use Rattle.sound.specs.Question.{sound?}
use Rattle.sound.proofs.Question.{t_block, encoded-sound}
use Rattle.object.specs.Store.{insert, add_ref}
use Rattle.object.specs.Handles.{give, create}
use Rattle.object.specs.Kept.{thread_object}
use Rattle.soundness.specs.Fine.{add_ref-full}
use Rattle.soundness.specs.Fits.{Word}
use Rattle.soundness.specs.Objects.{free-pos}
use Rattle.soundness.specs.Creates.{create_thread-sound}
use Rattle.thread.specs.Threads.{ended_thread}
use Rattle.thread.specs.Threads as thread
use Rattle.passing.specs.Begins.{add_ref-overflow}
use Rattle.svc.specs.declared.Registers.{Registers}
use Rattle.svc.specs.Threads.{thread_handle, create_thread}
use Rattle.lent.specs.Operations.{finding, out_of_handles?}
use Rattle.rows.specs.Holds.{Holds}
use Rattle.outcome.specs.Outcome.{given, outcome, left, outcome-0, left-0}
use Rattle.outcome.specs.Findings.{found_of, none_found, next-over}
use Rattle.spawn.proofs.Made.{forget_full, forget_overflow}
use Rattle.threads.specs.Made.{made_store, found_made}
use Rattle.threads.proofs.Forgotten.{made_kept}
use Rattle.threads.proofs.Handle.{thread_object-made}

-- the object made, of a store of which nothing was found
object-full : (s : ObjectStore) (t o : ℕ) → kept_at s t ≡ 0 → s.full ≡ false → (add_ref (thread_object s t) o).full ≡ eqb s.free 0
unfolding insert ◌or◌
object-full s t o e f = add_ref-full (thread_object s t) o ∙ ap (λ (y : ObjectStore). y.full) (thread_object-made s t e) ∙ ap (λ (q : Bool). q or eqb s.free 0) f

object-overflow : (s : ObjectStore) (t o : ℕ) → kept_at s t ≡ 0 → s.overflow ≡ false → (add_ref (thread_object s t) o).overflow ≡ false
unfolding insert
object-overflow s t o e f = add_ref-overflow (thread_object s t) o ∙ ap (λ (y : ObjectStore). y.overflow) (thread_object-made s t e) ∙ f

parts : (a x c v d o : Bool) → d or o ≡ d → ◌≡◌ {A = ℕ} (pick ((false or a) or (x or (false or c))) 7 (pick ((false or v) or (false or ((false or d) or o))) 8 0)) (found_of (a or (x or c)) (v or d))
unfolding ◌or◌
parts a x c v d o e = ap (λ (y : Bool). pick (a or (x or c)) 7 (pick (v or y) 8 0)) e

pub made-finding : (b : List ℕ) → sound? b ≡ true → (r : Registers) → finding (create_thread (dec_block b) r).kernel ≡ found_made (dec_block b)
unfolding finding create_thread thread.create_thread create give dec_block out_of_handles?
made-finding b s r =
    let k = dec_block b in
    let t = ended_thread k in
    let m = made_kept k ((t_block b).yes s).state in
    let u = ltb t k.thread_count in
    let x = object-full (made_store k) t (kept_at (thread_object (made_store k) t) t) m (forget_full u k.objects t) in
    let y = object-overflow (made_store k) t (kept_at (thread_object (made_store k) t) t) m (forget_overflow u k.objects t) in
    let n = k.handles.next.0 in
    (λ i. pick ((false or leb 32 t) or (x i or (false or leb 256 k.handles.count))) 7 (pick ((false or leb 4294967295 k.next_guest_id) or (y i or ((false or leb 0xFFFF8000 n) or ltb 0xFFFF8000 (pick (ltb n 0xFFFF8000) (n + 1) n)))) 8 0))
    ∙ parts (leb 32 t) (eqb (made_store k).free 0) (leb 256 k.handles.count) (leb 4294967295 k.next_guest_id) (leb 0xFFFF8000 n) _ (next-over n)

-- ---- the state with the thread, before its handle
module _ (b : List ℕ) (s : sound? b ≡ true) (r : Registers) (w1 : Word r.r1) (w3 : Word r.r3) (w4 : Word r.r4) (z : found_made (dec_block b) ≡ 0) where
  abbrev k : Kernel
  k = dec_block b

  abbrev t : ℕ
  t = ended_thread k

  abbrev j : Kernel
  j = thread.create_thread k r.r1 r.r3 r.r0 r.r4

  none : (leb 32 t or (eqb (made_store k).free 0 or leb 256 k.handles.count) ≡ false) × (leb 4294967295 k.next_guest_id or leb 0xFFFF8000 k.handles.next.0 ≡ false)
  none = none_found _ _ z

  pub place : t < 32
  place = leb-false 32 t (or-false _ _ none.0).0

  made-full : j.full ≡ false
  unfolding thread.create_thread dec_block ◌or◌
  made-full = (or-false _ _ none.0).0

  made-over : j.overflow ≡ false
  unfolding thread.create_thread dec_block ◌or◌
  made-over = (or-false _ _ none.1).0

  made-sound : Sound j
  made-sound = create_thread-sound k r.r1 r.r3 r.r0 r.r4 ((t_block b).yes s).state w1 w3 w4 made-full made-over

  made-free : 0 < (made_store k).free
  made-free = free-pos (made_store k) (or-false _ _ (or-false _ _ none.0).1).0

  module _ (e : List ℕ) (g : Holds e j) where
    state : dec_block e ≡ j
    state = ap dec_block g.same ∙ block_back j made-sound.fits

    pub sound-made : sound? e ≡ true
    sound-made = ap sound? g.same ∙ encoded-sound j made-sound

    pub kept-made : kept_at (dec_block e).objects t ≡ 0
    unfolding thread.create_thread
    kept-made = ap (λ (q : Kernel). kept_at q.objects t) state ∙ made_kept k ((t_block b).yes s).state

    pub room-made : 0 < (dec_block e).objects.free
    unfolding thread.create_thread
    room-made = rw state made-free

    -- and with its handle, in the block d
    pub left-made : (d : List ℕ) (i : ℕ) → i ≡ t → Holds d (thread_handle (dec_block e) i).kernel → d ≡ left (create_thread k r) b
    unfolding create_thread
    left-made d i q h =
        h.same ∙ (λ x. enc_block (thread_handle (state x) (q x)).kernel) ∙ sym (left-0 (create_thread k r) b (made-finding b s r ∙ z))

  pub outcome-made : Ok (given k.handles.next.0) ≡ outcome (create_thread k r)
  unfolding create_thread thread.create_thread
  outcome-made = sym (outcome-0 (create_thread k r) (made-finding b s r ∙ z))
