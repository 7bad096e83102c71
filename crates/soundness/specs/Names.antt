-- Names: how many there can be, what a thread's place anew makes of them, and the objects of a wait list.
use Rattle.std.specs.Prelude.{◌≡◌, List, [], ◌∷◌, ℕ, zero, suc, ◌+◌, ◌*◌, ◌≤◌, ◌<◌, length, set, get_or, take}
use Rattle.std.proofs.Common.{ap, sym, inl, inr, arith}
use Rattle.std.proofs.lemmas.List.{length-map}
use Rattle.std.proofs.Math.ListN.{get_or-map}
use Rattle.laws.specs.All.{All}
use Rattle.laws.specs.Count.{count, count_all, ind, ind-cases}
use Rattle.laws.specs.Pool.{count_all-set}
use Rattle.units.specs.declared.ObjectId.{ObjectId}
use Rattle.types.specs.declared.thread.Thread.{Thread}
use Rattle.types.specs.declared.object.HandleEntry.{HandleEntry}
use Rattle.types.specs.declared.object.HandleTable.{HandleTable}
use Rattle.types.specs.declared.object.ObjectStore.{ObjectStore}
use Rattle.types.specs.Thread.{wait_list}
use Rattle.block.proofs.Fits.{ThreadFits}
use Rattle.sound.specs.View.{ids, handled, lists, no_thread, thread_at}
use Rattle.sound.specs.Threads.{Places}
use Rattle.sound.specs.Objects.{names, kept_names}
use Rattle.sound.specs.Sound.{zeros_count}
use Rattle.soundness.specs.Slots.{map-set}
use Rattle.soundness.specs.Objects.{Pos}

-- ---- no more than there are places
pub ind-one : (a b : ℕ) → ind a b ≤ 1
ind-one a b = elim (ind-cases a b) [ inl h ↦ omega (arith, h.1) | inr h ↦ omega (arith, h.1) ]

pub count-length : (a : ℕ) (l : List ℕ) → count a l ≤ length l
unfolding count
count-length a [] = omega arith
count-length a (x ∷ xs) = omega (arith, ind-one x a, count-length a xs)

waits_bound : (i : ℕ) (ts : List Thread) → All ThreadFits ts → count_all i (lists ts) ≤ wait_list * length ts
unfolding count_all
waits_bound i [] a = omega arith
waits_bound i (t ∷ ts) a =
    omega (arith, waits_bound i ts a.1, count-length i (ids t.wait_objects), length-map t.wait_objects (λ (o : ObjectId). o.0), a.0.2)

-- so the guard of `add_ref` never holds one back
pub names_bound : (t : HandleTable) (ts : List Thread) (s : ObjectStore) (o : ℕ) → length t.entries ≡ 256 → length ts ≡ 32 → All ThreadFits ts → length s.thread_objects ≡ 32
    → names t ts o + kept_names s o ≤ 289 + 32 * wait_list
unfolding names kept_names
names_bound t ts s o ne nt a ni =
    omega (
      arith,
      count-length o (handled t.entries),
      length-map t.entries (λ (e : HandleEntry). e.object.0),
      waits_bound o ts a,
      count-length o (ids s.thread_objects),
      length-map s.thread_objects (λ (x : ObjectId). x.0),
      ind-one s.process_object.0 o,
    )

-- ---- a thread's place anew
pub waits-set : (i : ℕ) (ts : List Thread) (t : ℕ) (v : Thread) → t < length ts
    → count_all i (lists (set ts t v)) + count i (ids (thread_at ts t).wait_objects) ≡ count_all i (lists ts) + count i (ids v.wait_objects)
waits-set i ts t v h =
    let f : Thread → List ℕ = λ x. ids x.wait_objects in
    let l : t < length (lists ts) = omega (arith, length-map ts f) in
    let e : get_or (lists ts) t [] ≡ ids (thread_at ts t).wait_objects = get_or-map f ts t no_thread in
    omega (arith, ap (count_all i) (map-set f ts t v), count_all-set i (lists ts) t (f v) l, ap (count i) e)

-- ---- the objects of a wait list: those before the zeros
pub places_count : (i n : ℕ) (l : List ℕ) → 0 < i → Places n l → count i (take n l) ≡ count i l
unfolding count
places_count i zero l p z = sym (zeros_count i l p z)
places_count i (suc n) [] p z = absurd z
places_count i (suc n) (x ∷ xs) p z = omega (arith, places_count i n xs p z.1.1)

pub places-pos : (n : ℕ) (l : List ℕ) → Places n l → Pos (take n l)
places-pos zero l z = tt
places-pos (suc n) [] z = absurd z
places-pos (suc n) (x ∷ xs) z = (z.0, places-pos n xs z.1.1)
