-- A list of handles: one more opened, and the cases of what a wait on it finds.
-- Assumes nothing.
use Rattle.std.specs.Prelude.{Some, ◌||◌}
use Rattle.std.specs.List.{list_any}
use Rattle.std.proofs.lemmas.Grind.{common_steps}
use mathlib.Core.Path.{◌≡◌, refl, ◌∙◌}
use mathlib.Core.Bool.{Bool, true, false}
use mathlib.Core.List.{List, [], ◌∷◌, ◌++◌, map, map-append}
use Prim.Native.Nat.{ℕ, ◌+◌, ◌*◌, ◌≤◌, ◌<◌}
use native.Mathlib.Nat.{zero-add}
use native.Mathlib.Omega.{arith}
use lib.Dec.{eqb}
use lib.ListN.{length, take, drop, set, length-map}
use borrow.Author.Tests.{lt-ltb, le-ltb}
use Rattle.laws.specs.Logic.{pick_yes, pick_no, ◌or◌, or_yes, or_no}
use Rattle.codec.specs.Bytes.{num}
use Rattle.codec.specs.Layout.{dec_all}
use Rattle.codec.proofs.Rows.{dec_all-more}
use Rattle.codec.proofs.Fit.{length-dec_all}
use Rattle.units.specs.declared.ObjectId.{ObjectId}
use Rattle.types.specs.declared.kernel.Kernel.{Kernel}
use Rattle.sound.specs.View.{ids, first_ids}
use Rattle.kernel.specs.NextEvent.{contains}
use Rattle.pass.specs.Timers.{timer_due}
use Rattle.pass.specs.Asks.{wait_at_once, unsatisfied, padded, open_object, satisfied_by}
use Rattle.pass.specs.Padded.{padded-more}
use Rattle.satisfied_now.specs.Found.{satisfied_in, satisfied-is}

-- ---- the loop that opens the handles
pub open_more : (k : Kernel) (s : List ℕ) (i : ℕ) (l : List ObjectId) (r : ObjectId) → i < wait_at_once
    → l ≡ padded wait_at_once (map (open_object k) (dec_all num 4 i s 0)) → r.0 ≡ open_object k (num (take 4 (drop (i * 4) s)))
    → set l i r ≡ padded wait_at_once (map (open_object k) (dec_all num 4 (i + 1) s 0))
open_more k s i l r h e f =
    let os : List ℕ = map (open_object k) (dec_all num 4 i s 0) in
    let n : length os ≡ i = length-map (dec_all num 4 i s 0) (open_object k) ∙ length-dec_all num 4 i s 0 in
    let m : map (open_object k) (dec_all num 4 (i + 1) s 0) ≡ os ++ (r.0 ∷ []) =
    rw (dec_all-more num 4 i s 0, map-append, zero-add, f) in
    let p : set (padded wait_at_once os) (length os) (record { 0 = r.0 }) ≡ padded wait_at_once (os ++ (r.0 ∷ [])) = padded-more wait_at_once os r.0 (omega arith) in
    rw (e, m) (rw n at p)

-- ---- the cases of a wait on n handles
module _ (k : Kernel) (c n : ℕ) (s : List ℕ) (all : Bool) (tick : ℕ) where
  abbrev hs : List ℕ
  hs = dec_all num 4 n s 0

  pub many : wait_at_once < n → unsatisfied ≡ satisfied_by (Some c) k hs all tick
  unfolding ◌or◌
  many h = rw (length-dec_all num 4 n s 0, lt-ltb wait_at_once n h)

  pub fires : n ≤ wait_at_once → timer_due tick k.objects.slots ≡ true → unsatisfied ≡ satisfied_by (Some c) k hs all tick
  unfolding ◌or◌
  fires h e = rw (length-dec_all num 4 n s 0, le-ltb wait_at_once n h, e)

  pub looked : n ≤ wait_at_once → timer_due tick k.objects.slots ≡ false
      → satisfied_in k c (padded wait_at_once (map (open_object k) hs)) n all ≡ satisfied_by (Some c) k hs all tick
  unfolding ◌or◌
  looked h e =
      rw (length-dec_all num 4 n s 0, le-ltb wait_at_once n h, e)
      (satisfied-is k c n (map (open_object k) hs) all (length-map hs (open_object k) ∙ length-dec_all num 4 n s 0) h)

pub ruleset waits = (common_steps, pick_yes, pick_no, or_yes, or_no, many, fires, looked, first_ids)
