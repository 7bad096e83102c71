-- A thread's place anew, and the names in its wait list: a wait begins, a wait ends, or the list stays.
use Rattle.std.specs.Prelude.{◌≡◌, List, ℕ, ◌+◌, ◌≤◌, ◌<◌, length, set, take}
use Rattle.std.proofs.Common.{ap, arith}
use Rattle.laws.specs.Count.{count}
use Rattle.types.specs.declared.thread.Thread.{Thread}
use Rattle.types.specs.declared.object.HandleTable.{HandleTable}
use Rattle.types.specs.declared.object.ObjectStore.{ObjectStore}
use Rattle.sound.specs.View.{ids, thread_at}
use Rattle.sound.specs.Threads.{Zeros, Places}
use Rattle.sound.specs.Objects.{names, kept_names}
use Rattle.sound.specs.Sound.{zeros_count}
use Rattle.object.specs.Store.{add_refs, releases}
use Rattle.soundness.specs.Objects.{ObOk, ok_as, Known, add_refs-ok, releases-ok}
use Rattle.soundness.specs.Names.{waits-set, places_count, places-pos}

module _ (t : HandleTable) (ts : List Thread) (i : ℕ) (v : Thread) (l : i < length ts) where
  pub names-set : (j : ℕ) → names t (set ts i v) j + count j (ids (thread_at ts i).wait_objects) ≡ names t ts j + count j (ids v.wait_objects)
  unfolding names
  names-set j = omega (arith, waits-set j ts i v l)

  -- the list stays
  pub same-wait-ok : (s : ObjectStore) → v.wait_objects ≡ (thread_at ts i).wait_objects → ObOk s (names t ts) → ObOk s (names t (set ts i v))
  same-wait-ok s e h = ok_as _ (λ j w. omega (arith, names-set j, ap (λ x. count j (ids x)) e)) h

  -- a wait ends: the objects of the list lose a name each
  pub end-wait-ok : (s : ObjectStore) → Places (thread_at ts i).wait_count (ids (thread_at ts i).wait_objects) → Zeros (ids v.wait_objects) → ObOk s (names t ts)
      → ObOk (releases s (take (thread_at ts i).wait_count (ids (thread_at ts i).wait_objects))) (names t (set ts i v))
  end-wait-ok s p z h =
      let n : ℕ = (thread_at ts i).wait_count in
      let os : List ℕ = ids (thread_at ts i).wait_objects in
      releases-ok s (take n os) (names t (set ts i v)) (places-pos n os p)
      (ok_as _ (λ j w. omega (arith, names-set j, places_count j n os w p, zeros_count j (ids v.wait_objects) w z)) h)

  -- a wait begins: each object of the new list, known before, gains one
  pub begin-wait-ok : (s : ObjectStore) → Zeros (ids (thread_at ts i).wait_objects) → Places v.wait_count (ids v.wait_objects)
      → Known s (names t ts) (take v.wait_count (ids v.wait_objects))
      → ((o : ℕ) → 0 < o → count o (take v.wait_count (ids v.wait_objects)) + (names t ts o + kept_names s o) ≤ 4294967295) → ObOk s (names t ts)
      → ObOk (add_refs s (take v.wait_count (ids v.wait_objects))) (names t (set ts i v))
  begin-wait-ok s z p k b h =
      let n : ℕ = v.wait_count in
      let os : List ℕ = ids v.wait_objects in
      ok_as _ (λ j w. omega (arith, names-set j, places_count j n os w p, zeros_count j (ids (thread_at ts i).wait_objects) w z)) (add_refs-ok s (take n os) (names t ts) k b h)
