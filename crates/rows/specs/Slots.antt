-- Every slot of a block anew, one after the other; f is told the object's number. Assumes nothing.
use Rattle.std.specs.Prelude.{◌≡◌, true, ℕ, suc, ◌+◌, ◌*◌, ◌≤◌, ◌<◌, ltb, length, get_or, set, take, drop}
use Rattle.std.proofs.Common.{sym, subst, ◌∙◌, add-one, arith, lt-ltb}
use Rattle.std.proofs.Math.Path.{ap}
use mathlib.Core.List.{List, map}
use Rattle.laws.specs.Logic.{true-and}
use Rattle.codec.specs.Bytes.{over}
use Rattle.types.specs.declared.object.Slot.{Slot}
use Rattle.types.specs.declared.kernel.Kernel.{Kernel}
use Rattle.block.specs.Slot.{enc_slot, dec_slot}
use Rattle.block.specs.Block.{dec_block}
use Rattle.block.specs.Tables.{row_at}
use Rattle.block.proofs.Sizes.{length-enc_slot}
use Rattle.sound.specs.View.{no_slot}
use Rattle.tally.specs.Place.{is_slot, slot_index, index-slot}
use Rattle.object.specs.Slots.{with_slots}
use Rattle.object.specs.Slots as object
use Rattle.thread.specs.Threads.{with_threads}
use Rattle.rows.specs.Rows.{slot_put}
use Rattle.rows.specs.Sizes.{size-slots}
use Rattle.rows.specs.Holds.{Holds, put-slot}
use Rattle.rows.specs.Mapped.{map_from, map_each, Untouched, untouched_next, untouched_put, MappedTo, mapped_none, mapped_next, mapped_more, mapped_all}

pub put_is : (b : List ℕ) (i : ℕ) (x : Slot) → i < 128 → slot_put b (suc i) x ≡ over b (5248 + i * 40) (enc_slot x)
unfolding slot_put
put_is b i x h =
    let a : is_slot (suc i) ≡ true = true-and (ltb 0 (suc i)) (ltb (suc i) 129) (lt-ltb 0 (suc i) (omega arith)) (lt-ltb (suc i) 129 (omega arith)) in
    let j : slot_index (suc i) ≡ i = index-slot (suc i) a ∙ omega arith in
    rw (a, j)

pub room : (i : ℕ) → i < 128 → 5248 + i * 40 + 40 ≤ 16384
room i h = omega arith

-- s is the block before the first is written
module _ (s : List ℕ) where
  abbrev pub before : List Slot
  before = (dec_block s).objects.slots

  abbrev pub slotted : List Slot → Kernel
  slotted l = with_threads (dec_block s) (dec_block s).threads (with_slots (dec_block s).objects l)

  pub put_holds : (b : List ℕ) (l : List Slot) (i : ℕ) (x : Slot) → Holds b (slotted l) → Holds (slot_put b (suc i) x) (slotted (set l i x))
  unfolding object.slot_put
  put_holds b l i x h = put-slot h (suc i) x

  -- the slots from i on are as they were
  abbrev pub SlotsFrom : ℕ → List ℕ → Type 0
  SlotsFrom i b = Untouched enc_slot 5248 40 128 length-enc_slot room (λ b i. slot_put b (suc i)) put_is s i b

  module _ (i : ℕ) (b : List ℕ) (h : i < 128) (g : SlotsFrom i b) where
    -- slot i is read as it was
    pub slot-before : dec_slot (take 40 (drop (5248 + i * 40) b)) ≡ get_or before i no_slot
    unfolding dec_block
    slot-before = ap (λ (x : List ℕ). dec_slot (take 40 x)) g.rest ∙ row_at dec_slot 40 no_slot 128 s 5248 i h

    pub from_next : SlotsFrom (i + 1) b
    from_next = untouched_next enc_slot 5248 40 128 length-enc_slot room (λ b i. slot_put b (suc i)) put_is s i b h g

    pub from-put : (x : Slot) → SlotsFrom (i + 1) (slot_put b (i + 1) x)
    from-put x = subst (λ (n : ℕ). SlotsFrom (i + 1) (slot_put b n x)) (sym (add-one i)) (untouched_put enc_slot 5248 40 128 length-enc_slot room (λ b i. slot_put b (suc i)) put_is s i b h g x)

  -- each slot changed by f
  module _ (f : ℕ → Slot → Slot) where
    -- the slots of the first i objects are done, the others as they were
    abbrev pub SlotsTo : ℕ → List ℕ → Type 0
    SlotsTo i b = MappedTo enc_slot 5248 40 128 length-enc_slot room (λ b i. slot_put b (suc i)) put_is s no_slot (λ n. f (suc n)) slotted put_holds before (size-slots s) i b

    pub slots-none : length s ≡ 16384 → Holds s (dec_block s) → SlotsTo 0 s
    slots-none = mapped_none enc_slot 5248 40 128 length-enc_slot room (λ b i. slot_put b (suc i)) put_is s no_slot (λ n. f (suc n)) slotted put_holds before (size-slots s)

    module _ (i : ℕ) (b : List ℕ) (h : i < 128) (g : SlotsTo i b) where
      pub slots_next : f (i + 1) (get_or before i no_slot) ≡ get_or before i no_slot → SlotsTo (i + 1) b
      slots_next e = mapped_next enc_slot 5248 40 128 length-enc_slot room (λ b i. slot_put b (suc i)) put_is s no_slot (λ n. f (suc n)) slotted put_holds before (size-slots s) i b h g (rw add-one at e)

      pub slots-more : (x : Slot) → x ≡ f (i + 1) (get_or before i no_slot) → SlotsTo (i + 1) (slot_put b (i + 1) x)
      slots-more x e =
          subst (λ (n : ℕ). SlotsTo (i + 1) (slot_put b n x)) (sym (add-one i))
          (mapped_more enc_slot 5248 40 128 length-enc_slot room (λ b i. slot_put b (suc i)) put_is s no_slot (λ n. f (suc n)) slotted put_holds before (size-slots s) i b h g x (rw add-one at e))

    pub slots-all : (i : ℕ) (b : List ℕ) → 128 ≤ i → SlotsTo i b → Holds b (slotted (map_from no_slot (λ n. f (suc n)) 0 before))
    slots-all = mapped_all enc_slot 5248 40 128 length-enc_slot room (λ b i. slot_put b (suc i)) put_is s no_slot (λ n. f (suc n)) slotted put_holds before (size-slots s)

  -- where the number makes no difference
  pub slots-each : (g : Slot → Slot) (i : ℕ) (b : List ℕ) → 128 ≤ i → SlotsTo (λ _. g) i b → Holds b (slotted (map g before))
  slots-each g i b h m = subst (λ (l : List Slot). Holds b (slotted l)) (map_each no_slot g 0 before) (slots-all (λ _. g) i b h m)
