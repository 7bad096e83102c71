-- What the calls on handles find. Assumes nothing.
use mathlib.Core.Path.{◌≡◌, refl, sym, ap, ◌∙◌}
use mathlib.Core.Bool.{Bool, true, false}
use mathlib.Core.List.{List}
use Prim.Native.Nat.{ℕ, ◌<◌, ◌+◌}
use native.Mathlib.Omega.{arith}
use lib.Dec.{eqb, ltb}
use borrow.Author.Tests.{lt-ltb, le-ltb, lt-leb}
use Rattle.laws.specs.Logic.{◌or◌}
use Rattle.types.specs.declared.object.ObjectStore.{ObjectStore}
use Rattle.block.specs.Block.{dec_block}
use Rattle.object.specs.Store.{add_ref}
use Rattle.object.specs.Handles.{give, create, close}
use Rattle.object.proofs.Laws.{add-ref-held}
use Rattle.svc.specs.declared.Registers.{Registers}
use Rattle.svc.specs.Call.{with_handles, with_objects, resolved}
use Rattle.svc.specs.Handles.{close_handle, duplicate_handle}
use Rattle.lent.specs.Operations.{finding, out_of_handles?}
use Rattle.outcome.specs.Findings.{found_of, both-finding, parts-finding, pick-finding}
use Rattle.handle_calls.proofs.Written.{close-kept, close-table}

ends : (f v w : Bool) → ◌≡◌ {A = ℕ} (found_of (f or false) (v or (false or w))) (found_of f (v or w))
unfolding ◌or◌
ends true v w = refl
ends false true w = refl
ends false false w = refl

-- ---- a handle less
pub close-finding : (b : List ℕ) (r : Registers) → finding (close_handle (dec_block b) r).kernel ≡ found_of false (out_of_handles? (dec_block b))
unfolding close_handle dec_block out_of_handles? ◌or◌
close-finding b r =
    let t = (close (dec_block b).handles (dec_block b).objects r.r0).table in
    let s = (close (dec_block b).handles (dec_block b).objects r.r0).store in
    let p = close-kept (dec_block b).handles (dec_block b).objects r.r0 in
    let q = close-table (dec_block b).handles (dec_block b).objects r.r0 in
    both-finding b t s ∙ (λ i. found_of (p.full i or q.full i) (p.overflow i or (q.overflow i or ltb 0xFFFF8000 (q.next i).0)))

-- ---- a handle more, with room for it
more-finding : (b : List ℕ) (s : ObjectStore) (o : ℕ) → (dec_block b).handles.count < 256 → (dec_block b).handles.next.0 < 0xFFFF8000
    → finding (with_handles (dec_block b) (give (dec_block b).handles o) (add_ref s o)) ≡ finding (with_objects (dec_block b) s)
unfolding give dec_block out_of_handles? ◌or◌
more-finding b s o n m =
    let t = give (dec_block b).handles o in
    let c : t.full ≡ false = lt-leb 256 (dec_block b).handles.count n in
    let v : t.overflow ≡ false = lt-leb 0xFFFF8000 (dec_block b).handles.next.0 m in
    let w : ltb 0xFFFF8000 t.next.0 ≡ false = rw (lt-ltb (dec_block b).handles.next.0 0xFFFF8000 m) (le-ltb 0xFFFF8000 ((dec_block b).handles.next.0 + 1) (omega arith)) in
    let x : ltb 0xFFFF8000 (dec_block b).handles.next.0 ≡ false = le-ltb 0xFFFF8000 (dec_block b).handles.next.0 (omega arith) in
    both-finding b t (add_ref s o)
    ∙ (λ i. found_of ((add-ref-held s o i).full or c i) ((add-ref-held s o i).overflow or (v i or w i)))
    ∙ ends s.full s.overflow false
    ∙ ap (λ (z : Bool). found_of s.full (s.overflow or z)) (sym x)
    ∙ sym (parts-finding b (dec_block b).threads s)

pub duplicate_finding : (b : List ℕ) (r : Registers) → (dec_block b).handles.count < 256 → (dec_block b).handles.next.0 < 0xFFFF8000
    → finding (duplicate_handle (dec_block b) r).kernel ≡ finding (with_objects (dec_block b) (resolved (dec_block b) r.r1).store)
unfolding duplicate_handle create
duplicate_finding b r n m =
    let x = resolved (dec_block b) r.r1 in
    pick-finding (eqb x.object.0 0) (finding (with_objects (dec_block b) x.store)) _ _ refl (more-finding b x.store x.object.0 n m)
