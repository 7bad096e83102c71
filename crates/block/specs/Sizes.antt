-- How long an encoded record is. Assumes nothing.
use mathlib.Core.Path.{◌≡◌, refl, ap}
use mathlib.Core.List.{List, [], ◌∷◌, ◌++◌}
use Prim.Native.Nat.{ℕ, zero, suc, ◌*◌}
use native.Mathlib.Omega.{arith}
use lib.ListN.{length, length-append}
use Rattle.codec.proofs.Laws.{length-bytes}
use Rattle.codec.specs.Layout.{enc_all}
use Rattle.codec.specs.Groups.{two_bytes, four_bytes}
use Rattle.codec.specs.declared.Two.{Two}
use Rattle.codec.specs.declared.Four.{Four}
use Rattle.units.specs.declared.ObjectId.{ObjectId}
use Rattle.types.specs.declared.thread.Thread.{Thread}
use Rattle.types.specs.declared.object.HandleEntry.{HandleEntry}
use Rattle.types.specs.declared.object.Waiter.{Waiter}
use Rattle.types.specs.declared.object.Slot.{Slot}
use Rattle.block.specs.Table.{enc_entry, enc_waiter, enc_id, enc_ids}
use Rattle.block.specs.Slot.{enc_slot}
use Rattle.block.specs.declared.thread.ThreadWords.{ThreadWords}
use Rattle.block.specs.Thread.{enc_words, enc_thread}
use Rattle.block.specs.declared.Head.{Head}
use Rattle.block.specs.Block.{enc_head}

pub length_two : (v : Two) → length (two_bytes v) ≡ 8
length_two v = simp (length-append, length-bytes)

pub length-four : (v : Four) → length (four_bytes v) ≡ 16
length-four v = simp (length-append, length-bytes)

pub length-enc_id : (x : ObjectId) → length (enc_id x) ≡ 4
unfolding enc_id
length-enc_id x = length-bytes 4 x.0

pub length-enc_entry : (x : HandleEntry) → length (enc_entry x) ≡ 8
unfolding enc_entry
length-enc_entry x = simp (length-append, length-bytes)

pub length-enc_waiter : (x : Waiter) → length (enc_waiter x) ≡ 12
unfolding enc_waiter
length-enc_waiter x = simp (length-append, length-bytes)

pub length-enc_slot : (x : Slot) → length (enc_slot x) ≡ 40
unfolding enc_slot
length-enc_slot x = simp (length-append, length-bytes)

pub length-enc_words : (w : ThreadWords) → length (enc_words w) ≡ 80
unfolding enc_words
length-enc_words w = simp (length-append, length-bytes)

pub length-enc_ids : (n : ℕ) (l : List ObjectId) → length (enc_ids n l) ≡ n * 4
unfolding enc_ids
length-enc_ids zero l = refl
length-enc_ids (suc n) [] = simp (length-append, length-bytes) (omega (arith, length-enc_ids n []))
length-enc_ids (suc n) (x ∷ xs) = simp (length-append, length-enc_id) (omega (arith, length-enc_ids n xs))

-- of n object numbers, all of them
pub enc_ids-all : (n : ℕ) (l : List ObjectId) → length l ≡ n → enc_all enc_id l ≡ enc_ids n l
unfolding enc_ids enc_all
enc_ids-all zero [] e = refl
enc_ids-all zero (x ∷ xs) e = absurd (omega arith)
enc_ids-all (suc n) [] e = absurd (omega arith)
enc_ids-all (suc n) (x ∷ xs) e = ap (λ (t : List ℕ). enc_id x ++ t) (enc_ids-all n xs (omega arith))

pub length-enc_thread : (x : Thread) → length (enc_thread x) ≡ 160
unfolding enc_thread
length-enc_thread x = rw (length-append, length-enc_words, length-append, length-enc_ids)

pub length-enc_head : (h : Head) → length (enc_head h) ≡ 128
unfolding enc_head
length-enc_head h = simp (length-append, length-bytes)
