-- What a call finds of the state that a block decodes to, with one of its parts anew. Assumes nothing.
use Rattle.std.specs.Prelude.{◌≡◌, refl, Bool, true, false, List, ℕ, ◌+◌, ltb, leb, Result, Ok, Err}
use Rattle.std.proofs.Common.{inl, inr, ap, sym, ◌∙◌, arith, lt-ltb, le-ltb, le-leb}
use Rattle.std.proofs.lemmas.Bool.{lt-leb}
use Rattle.laws.specs.Logic.{pick, ◌or◌, lt-cases}
use Rattle.types.specs.declared.object.ObjectStore.{ObjectStore}
use Rattle.types.specs.declared.object.HandleTable.{HandleTable}
use Rattle.types.specs.declared.thread.Thread.{Thread}
use Rattle.types.specs.declared.refusal.Refusal.{Refusal}
use Rattle.types.specs.Refusal.{refusal_number, found_in, unless_found}
use Rattle.types.specs.declared.kernel.Kernel.{Kernel}
use Rattle.block.specs.Block.{dec_block}
use Rattle.thread.specs.Threads.{with_threads}
use Rattle.svc.specs.declared.Served.{Served}
use Rattle.svc.specs.Call.{with_handles, with_over}
use Rattle.lent.specs.Operations.{finding, out_of_handles?}

-- question 7 before question 8
abbrev pub found_of : Bool → Bool → ℕ
found_of full over = pick full 7 (pick over 8 0)

-- nothing found: nothing is too full, and no sum too large
pub none_found : (f v : Bool) → found_of f v ≡ 0 → (f ≡ false) × (v ≡ false)
none_found true v e = absurd (omega (arith, e))
none_found false true e = absurd (omega (arith, e))
none_found false false e = (refl, refl)

-- what a call is refused for is what is found
pub found-room : {A : Type 0} (f v : Bool) (x : A) → found_in (unless_found (found_of f v) x) ≡ found_of f v
found-room true v x = refl
found-room false true x = refl
found-room false false x = refl

pub room-none : {A : Type 0} (f v : Bool) (x y : A) → unless_found (found_of f v) x ≡ Ok y → found_of f v ≡ 0
room-none f v x y e = sym (found-room f v x) ∙ ap found_in e

pub room-refused : {A : Type 0} (f v : Bool) (x : A) (r : Refusal) → unless_found (found_of f v) x ≡ Err r
    → found_of f v ≡ refusal_number r
room-refused f v x r e = sym (found-room f v x) ∙ ap found_in e

pub found-finding : {A : Type 0} (k : Kernel) (x : A) → found_in (unless_found (finding k) x) ≡ finding k
unfolding finding
found-finding k x = found-room _ _ x

-- the next handle past the last that is allowed
pub next-over : (n : ℕ) → leb 0xFFFF8000 n or ltb 0xFFFF8000 (pick (ltb n 0xFFFF8000) (n + 1) n) ≡ leb 0xFFFF8000 n
unfolding ◌or◌
next-over n = elim (lt-cases n 0xFFFF8000) [
  | inl h ↦ rw (lt-leb 0xFFFF8000 n h, lt-ltb n 0xFFFF8000 h, le-ltb 0xFFFF8000 (n + 1) (omega arith))
  | inr h ↦ rw (le-leb 0xFFFF8000 n h)
]

-- nothing anew
pub same-finding : (b : List ℕ) → finding (dec_block b) ≡ found_of false (out_of_handles? (dec_block b))
unfolding finding dec_block ◌or◌
same-finding b = refl

-- other threads, other objects
parts : (f v o : Bool) → ◌≡◌ {A = ℕ} (pick (false or (f or false)) 7 (pick (false or (v or (false or o))) 8 0)) (found_of f (v or o))
unfolding ◌or◌
parts true v o = refl
parts false true o = refl
parts false false o = refl

pub parts-finding : (b : List ℕ) (ts : List Thread) (s : ObjectStore)
    → finding (with_threads (dec_block b) ts s) ≡ found_of s.full (s.overflow or out_of_handles? (dec_block b))
unfolding finding dec_block out_of_handles?
parts-finding b ts s = parts s.full s.overflow (out_of_handles? (dec_block b))

-- a sum of the call's own
over : (f v w o : Bool) → ◌≡◌ {A = ℕ} (pick (false or (f or false)) 7 (pick (w or (v or (false or o))) 8 0)) (found_of f (w or (v or o)))
unfolding ◌or◌
over true v w o = refl
over false true true o = refl
over false true false o = refl
over false false true o = refl
over false false false o = refl

pub over-finding : (b : List ℕ) (ts : List Thread) (s : ObjectStore) (w : Bool)
    → finding (with_over (with_threads (dec_block b) ts s) w) ≡ found_of s.full (w or (s.overflow or out_of_handles? (dec_block b)))
unfolding finding dec_block out_of_handles?
over-finding b ts s w = over s.full s.overflow w (out_of_handles? (dec_block b))

-- other handles and objects
both : (f g v w o : Bool) → ◌≡◌ {A = ℕ} (pick (false or (f or g)) 7 (pick (false or (v or (w or o))) 8 0)) (found_of (f or g) (v or (w or o)))
unfolding ◌or◌
both f g v w o = refl

pub both-finding : (b : List ℕ) (t : HandleTable) (s : ObjectStore)
    → finding (with_handles (dec_block b) t s) ≡ found_of (s.full or t.full) (s.overflow or (t.overflow or out_of_handles? (with_handles (dec_block b) t s)))
unfolding finding dec_block out_of_handles?
both-finding b t s = both s.full t.full s.overflow t.overflow (out_of_handles? (with_handles (dec_block b) t s))

-- one of two ends of a call
pub pick-finding : (t : Bool) (n : ℕ) (x y : Served) → finding x.kernel ≡ n → finding y.kernel ≡ n → finding (pick t x y).kernel ≡ n
pick-finding true n x y e f = e
pick-finding false n x y e f = f
