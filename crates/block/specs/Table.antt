-- Handle entries, arbiter records and object numbers as bytes.
use Rattle.std.specs.Prelude.{List, [], ◌∷◌, ◌++◌, ℕ, zero, suc}
use Rattle.codec.specs.Bytes.{bytes, le}
use Rattle.units.specs.declared.ObjectId.{ObjectId}
use Rattle.types.specs.declared.object.HandleEntry.{HandleEntry}
use Rattle.types.specs.declared.object.Waiter.{Waiter}

unfoldable pub enc_entry : HandleEntry → List ℕ
enc_entry x = bytes 4 x.handle.0 ++ bytes 4 x.object.0

unfoldable pub dec_entry : List ℕ → HandleEntry
dec_entry s = record { handle = record { 0 = le 4 s 0 }; object = record { 0 = le 4 s 4 } }

unfoldable pub enc_waiter : Waiter → List ℕ
enc_waiter x = (bytes 4 x.thread ++ bytes 4 x.address) ++ bytes 4 x.next

unfoldable pub dec_waiter : List ℕ → Waiter
dec_waiter s = record { thread = le 4 s 0; address = le 4 s 4; next = le 4 s 8 }

unfoldable pub enc_id : ObjectId → List ℕ
enc_id x = bytes 4 x.0

-- n object numbers; what a shorter list lacks is 0, so that every list takes 4 * n bytes
unfoldable pub enc_ids : ℕ → List ObjectId → List ℕ
enc_ids zero l = []
enc_ids (suc n) [] = bytes 4 0 ++ enc_ids n []
enc_ids (suc n) (x ∷ xs) = enc_id x ++ enc_ids n xs

unfoldable pub dec_id : List ℕ → ObjectId
dec_id s = record { 0 = le 4 s 0 }
