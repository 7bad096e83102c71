-- Wait lists with all their places, and the TLS slots of threads.
use Rattle.std.specs.Prelude.{◌≡◌, List, [], map, ℕ, eqb, length}
use Rattle.laws.specs.Logic.{pick}
use Rattle.units.specs.declared.ObjectId.{ObjectId}
use Rattle.types.specs.declared.object.HandleEntry.{HandleEntry}
use Rattle.types.specs.declared.thread.Thread.{Thread}
use Rattle.types.specs.Thread.{wait_list, is_dead}
use Rattle.sound.specs.Tls.{held_if}

-- a list has all its places
abbrev pub Listed : Thread → Type 0
Listed t = length t.wait_objects ≡ wait_list

-- the TLS slot of a thread, if it is live
abbrev pub slot_of : Thread → List ℕ
slot_of t = held_if (is_dead t.status) t.tls []

-- what a number is counted as: 0 names no object, and is counted as a number that has no place among 129
abbrev pub name_of : ℕ → ℕ
name_of x = pick (eqb x 0) 129 x

-- of a list of objects, of the objects of handles, of the lists of threads
abbrev pub names : List ObjectId → List ℕ
names l = map (λ (o : ObjectId). name_of o.0) l

abbrev pub handle_names : List HandleEntry → List ℕ
handle_names l = map (λ (e : HandleEntry). name_of e.object.0) l

abbrev pub list_names : List Thread → List (List ℕ)
list_names l = map (λ (t : Thread). names t.wait_objects) l
