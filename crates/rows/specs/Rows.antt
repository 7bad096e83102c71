-- A block with one record, or its head, anew. A number that no record has changes nothing. Assumes nothing.
use Rattle.std.specs.Prelude.{List, ℕ, ◌+◌, ◌*◌, ltb}
use Rattle.laws.specs.Logic.{pick}
use Rattle.codec.specs.Bytes.{over}
use Rattle.units.specs.declared.ObjectId.{ObjectId}
use Rattle.types.specs.declared.thread.Thread.{Thread}
use Rattle.types.specs.declared.object.KObject.{KObject}
use Rattle.types.specs.declared.object.Slot.{Slot}
use Rattle.types.specs.declared.object.HandleEntry.{HandleEntry}
use Rattle.types.specs.Object.{next_of}
use Rattle.block.specs.declared.Head.{Head}
use Rattle.block.specs.Table.{enc_entry, enc_id}
use Rattle.block.specs.Thread.{enc_thread}
use Rattle.block.specs.Slot.{enc_slot}
use Rattle.block.specs.Block.{enc_head}
use Rattle.tally.specs.Place.{is_slot, slot_index}

unfoldable pub thread_put : List ℕ → ℕ → Thread → List ℕ
thread_put b i x = pick (ltb i 32) (over b (128 + i * 160) (enc_thread x)) b

-- objects are numbered from 1
unfoldable pub slot_put : List ℕ → ℕ → Slot → List ℕ
slot_put b o x = pick (is_slot o) (over b (5248 + slot_index o * 40) (enc_slot x)) b

unfoldable pub entry_put : List ℕ → ℕ → HandleEntry → List ℕ
entry_put b i x = pick (ltb i 256) (over b (10368 + i * 8) (enc_entry x)) b

unfoldable pub kept_put : List ℕ → ℕ → ObjectId → List ℕ
kept_put b i x = pick (ltb i 32) (over b (13184 + i * 4) (enc_id x)) b

unfoldable pub head_put : List ℕ → Head → List ℕ
head_put b h = over b 0 (enc_head h)

-- ---- a new object in the first free slot, and a handle behind the last one, in a block with the head h
-- the object v with n holders in place of old; the mark stays with the slot
abbrev pub slot_inserted : Slot → KObject → ℕ → Slot
slot_inserted old v n = record { object = v; refcount = n; pulsed = old.pulsed }

-- the slot that has old is taken
abbrev pub head_inserted : Head → Slot → Head
head_inserted h old = record h { free = next_of old.object }

abbrev pub entry_given : Head → ObjectId → HandleEntry
entry_given h o = record { handle = record { 0 = h.next_handle }; object = o }

-- one handle more, as `give` counts them
abbrev pub head_given : Head → Head
head_given h = record h {
  handle_count = pick (ltb h.handle_count 256) (h.handle_count + 1) h.handle_count;
  next_handle = pick (ltb h.next_handle 0xFFFF8000) (h.next_handle + 1) h.next_handle;
}
